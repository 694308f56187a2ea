-- The live blocks, one after the other. Assumes nothing.
use Prim.Native.Nat.{ℕ, zero, suc, ◌*◌, ◌≤◌}
use mathlib.Core.Path.{◌≡◌, refl, sym, ap, ◌∙◌}
use mathlib.Core.Bool.{Bool, true, false, not, cond}
use Rattle.std.specs.List.{filter}
use Rattle.book_words.specs.Halves.{words_of}
use mathlib.Core.Option.{none}
use mathlib.Core.List.{List, [], ◌∷◌, map}
use lib.ListN.{length}
use lib.Dec.{eqb}
use Rattle.book_rules.specs.Blocks.{badge_of}
use Rattle.book_rules.specs.Books.{in_use, unless_refused, withdrawn, live, total}
use Rattle.book_rules.specs.Bytes.{blocks_from, book_of}
use Rattle.book.specs.Testing.{Answered}
use Rattle.book.specs.Totals.{total_told}
use Rattle.book.proofs.Views.{good_fits, good_in_use}

abbrev pub counted : List ℕ → Bool
counted bytes = not (eqb (badge_of (words_of bytes)) 0)

-- The blocks that are counted.
pub count_is : (bs : List (List ℕ)) → length (filter counted bs) ≡ live (map words_of bs)
unfolding live withdrawn
count_is [] = refl
count_is (b ∷ bs) = by (filter counted bs) (live (map words_of bs)) (count_is bs) (eqb (badge_of (words_of b)) 0)
  where
    by : (xs : List (List ℕ)) (m : ℕ) → length xs ≡ m → (t : Bool) → length (cond (not t) (b ∷ xs) xs) ≡ elim t as (λ _. ℕ) [ true ↦ m | false ↦ suc m ]
    by xs m h true = h
    by xs m h false = ap suc h

-- ---- The total.

module _ (s : List ℕ) (used a k : ℕ) (w : Answered (book_of s used) a k) where
  pub total_refused : (a ≡ 0 → ⊥) → total_told a 0 (book_of s used) ≡ total (book_of s used)
  unfolding total_told total
  total_refused n = by a n ∙ ap (λ (x : ℕ). unless_refused x (book_of s used) (record { answer = 0; number = live (in_use (book_of s used)); found = none; book = book_of s used })) w.answer_is
    where
      by : (x : ℕ) → (x ≡ 0 → ⊥) → total_told x 0 (book_of s used) ≡ unless_refused x (book_of s used) (record { answer = 0; number = live (in_use (book_of s used)); found = none; book = book_of s used })
      by zero n = absurd (n refl)
      by (suc x) n = unfold total_told unless_refused in refl

  pub total_fits : a ≡ 0 → 512 * used ≤ length s
  total_fits z = good_fits s used a w.answer_is z

  pub total_good : (x : ℕ) → a ≡ 0 → x ≡ live (blocks_from s 0 used) → total_told 0 x (book_of s used) ≡ total (book_of s used)
  unfolding total_told total unless_refused
  total_good x z e =
      ap (λ (y : ℕ). total_told 0 y (book_of s used)) (e ∙ ap live (sym (good_in_use s used (total_fits z))))
      ∙ ap (λ (y : ℕ). unless_refused y (book_of s used) (record { answer = 0; number = live (in_use (book_of s used)); found = none; book = book_of s used })) (sym z ∙ w.answer_is)
