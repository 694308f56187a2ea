-- The four lines, and what they ask. Assumes nothing.
use Rattle.std.proofs.Common.{◌≡◌, refl, sym, ◌∙◌, ap, List, [], ◌∷◌, Some, None, ℕ, ◌<◌, ◌≤◌, ◌⊎◌, inl, inr, true, false, ◌==◌, length, arith}
use borrow.Author.Tests.{le-leb, lt-leb, eqb-true, eqb-false}
use Rattle.text_number.specs.Decimal.{given, split}
use Rattle.text_ask.specs.Question.{lines, lines_of}

pub too_long : (s : List ℕ) → 32768 < length s → None ≡ lines_of s
unfolding lines_of given
too_long s h = rw (lt-leb (length s) 32768 h)

in_time : (s : List ℕ) → length s ≤ 32768 → lines_of s ≡ lines (split 10 s)
unfolding lines_of given
in_time s h = rw (le-leb (length s) 32768 h)

no_lines : (ls : List (List ℕ)) → length ls < 5 → None ≡ lines ls
unfolding lines
no_lines [] h = refl
no_lines (a ∷ []) h = refl
no_lines (a ∷ b ∷ []) h = refl
no_lines (a ∷ b ∷ c ∷ []) h = refl
no_lines (a ∷ b ∷ c ∷ d ∷ []) h = refl
no_lines (a ∷ b ∷ c ∷ d ∷ e ∷ ls) h = absurd (omega arith)

pub too_few : (s : List ℕ) → length s ≤ 32768 → length (split 10 s) < 5 → None ≡ lines_of s
too_few s h l = no_lines (split 10 s) l ∙ sym (in_time s h)

module _ (s : List ℕ) (h : length s ≤ 32768) {a b c d x : List ℕ} {behind_a behind_b behind_c behind_d ls : List (List ℕ)}
    (first : split 10 s ≡ a ∷ behind_a) (second : behind_a ≡ b ∷ behind_b) (third : behind_b ≡ c ∷ behind_c) (fourth : behind_c ≡ d ∷ behind_d) (fifth : behind_d ≡ x ∷ ls) where
  five : lines_of s ≡ lines (a ∷ b ∷ c ∷ d ∷ x ∷ ls)
  five = in_time s h ∙ ap lines (first ∙ ap (λ l. a ∷ l) (second ∙ ap (λ l. b ∷ l) (third ∙ ap (λ l. c ∷ l) (fourth ∙ ap (λ l. d ∷ l) fifth))))

  pub four_lines : (length x == 0) ≡ true → ls ≡ [] → Some (record { one = a; two = b; three = c; four = d }) ≡ lines_of s
  unfolding lines
  four_lines z e = sym (five ∙ rw e (none_behind x (eqb-true (length x) 0 z)))
    where
      none_behind : (x : List ℕ) → length x ≡ 0 → lines (a ∷ b ∷ c ∷ d ∷ x ∷ []) ≡ Some (record { one = a; two = b; three = c; four = d })
      none_behind [] z = refl
      none_behind (y ∷ ys) z = absurd (omega arith)

  pub a_fifth : ((length x == 0) ≡ false) ⊎ (0 < length ls) → None ≡ lines_of s
  unfolding lines
  a_fifth k = sym (five ∙ more x ls k)
    where
      more : (x : List ℕ) (ls : List (List ℕ)) → ((length x == 0) ≡ false) ⊎ (0 < length ls) → lines (a ∷ b ∷ c ∷ d ∷ x ∷ ls) ≡ None
      more [] [] (inl k) = absurd (eqb-false 0 0 k refl)
      more [] [] (inr k) = absurd (omega arith)
      more [] (l ∷ ls) k = refl
      more (y ∷ ys) ls k = refl
