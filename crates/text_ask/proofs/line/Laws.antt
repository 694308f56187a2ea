-- Lines, as the code asks: pieces one by one. Assumes nothing.
use Rattle.std.proofs.Common.{◌≡◌, refl, sym, ◌∙◌, ap, Bool, true, false, List, [], ◌∷◌, ◌++◌, append_assoc, append-nil, Option, Some, None, ℕ, ◌+◌, ◌^◌, ◌<◌, ◌≤◌, length, leb, get_or, take, drop, set, add-one, arith, length-append, ℤ, pos, negsuc, to_z, of_z, w32}
use borrow.Author.Tests.{le-leb, lt-leb, leb-true, ltb-true}
use lib.Seq.{take-suc-set, length-take-le}
use mir.Val.{SFits}
use mir.Facts.{to_z-of_z}
use Rattle.std.proofs.lemmas.List.{at_drop_more, at_drop_all}
use Rattle.text_number.specs.Decimal.{◌then◌, given, number, split}
use Rattle.text_number.specs.Word.{at_most, word}
use Rattle.rules.specs.Numbers.{in_range}
use Rattle.text_ask.specs.Question.{limits, pieces, every, words_of}
use Rattle.text_ask.specs.Meaning.{of_line, ReadWords}

pieces_split : (t : List ℕ) → (length t ≡ 0 → ⊥) → pieces t ≡ split 32 t
unfolding pieces
pieces_split [] z = absurd (z refl)
pieces_split (b ∷ bs) z = refl

-- ---- Line 4. An empty line is one empty piece to the code, and none to the paper.

pub one_number : (t : List ℕ) {p : List ℕ} {ls : List (List ℕ)} → split 32 t ≡ p ∷ ls → ls ≡ [] → None ≡ limits (pieces t)
unfolding pieces limits
one_number [] first none = refl
one_number (b ∷ bs) first none = rw (first, none)

two_pieces : (t p q : List ℕ) (ls : List (List ℕ)) → split 32 t ≡ p ∷ q ∷ ls → pieces t ≡ p ∷ q ∷ ls
unfolding pieces split
two_pieces [] p q ls e = let l = ap length e in absurd (omega arith)
two_pieces (b ∷ bs) p q ls e = e

module _ (t : List ℕ) {p q : List ℕ} {behind_p ls : List (List ℕ)} (first : split 32 t ≡ p ∷ behind_p) (second : behind_p ≡ q ∷ ls) where
  two : pieces t ≡ p ∷ q ∷ ls
  two = two_pieces t p q ls (first ∙ ap (λ l. p ∷ l) second)

  pub third_number : 0 < length ls → None ≡ limits (pieces t)
  unfolding limits
  third_number h = sym (ap limits two ∙ more ls h)
    where
      more : (ls : List (List ℕ)) → 0 < length ls → limits (p ∷ q ∷ ls) ≡ None
      more [] h = absurd (omega arith)
      more (l ∷ ls) h = refl

  module _ (none : ls ≡ []) where
    both : pieces t ≡ p ∷ q ∷ []
    both = two ∙ ap (λ l. p ∷ q ∷ l) none

    pub no_budget : None ≡ (number p then at_most 4294967295) → None ≡ limits (pieces t)
    unfolding ◌then◌ limits
    no_budget i = sym (rw (both, ← i))

    pub no_room : (budget : ℕ) → Some budget ≡ (number p then at_most 4294967295) → None ≡ (number q then at_most 4096) → None ≡ limits (pieces t)
    unfolding ◌then◌ limits
    no_room budget i j = sym (rw (both, ← i, ← j))

    pub budget_room : (budget room : ℕ) → Some budget ≡ (number p then at_most 4294967295) → Some room ≡ (number q then at_most 4096)
        → Some (record { budget = budget; room = room }) ≡ limits (pieces t)
    unfolding ◌then◌ limits
    budget_room budget room i j = sym (rw (both, ← i, ← j))

most_by : (n most k : ℕ) (b : Bool) → leb k most ≡ b → Some n ≡ given b (Some k) → n ≤ most
unfolding given
most_by n most k true e p = let q : n ≡ k = cc in let h = leb-true k most e in omega arith
most_by n most k false e p = cc

pub most_of : (o : Option ℤ) (n most : ℕ) → Some n ≡ (o then at_most most) → n ≤ most
unfolding ◌then◌ at_most given
most_of None n most e = cc
most_of (Some (pos k)) n most e = most_by n most k (leb k most) refl e
most_of (Some (negsuc k)) n most e = cc

-- ---- Lines 1 to 3.

pub empty_line : (t : List ℕ) (out : List ℤ) → length t ≡ 0 → ReadWords t (Some 0) out
unfolding words_of pieces every ◌then◌ given of_line
empty_line [] out z = record { words = refl; few = omega arith }
empty_line (b ∷ bs) out z = absurd (omega arith)

-- Words before those that are still to be read.
unfoldable pub behind : List ℤ → Option (List ℤ) → Option (List ℤ)
behind ws None = None
behind ws (Some us) = Some (ws ++ us)

pub none_read : (o : Option (List ℤ)) → o ≡ behind [] o
unfolding behind
none_read None = refl
none_read (Some us) = refl

-- A word is in the signed range.
word_by : (z x : ℤ) (b : Bool) → in_range z ≡ b → Some x ≡ given b (Some z) → SFits w32 x
unfolding given in_range
word_by (pos n) x true e p = let q : x ≡ pos n = cc in rw q (record { sfits = ltb-true n (2 ^ 31) e })
word_by (negsuc n) x true e p = let q : x ≡ negsuc n = cc in rw q (record { sfits = ltb-true n (2 ^ 31) e })
word_by z x false e p = cc

word_fits : (s : List ℕ) (x : ℤ) → Some x ≡ word s → SFits w32 x
unfolding word ◌then◌
word_fits s x e = of_number (number s) e
  where
    of_number : (o : Option ℤ) → Some x ≡ (o then λ z. given (in_range z) (Some z)) → SFits w32 x
    of_number None e = cc
    of_number (Some z) e = word_by z x (in_range z) refl e

-- The words of a line, whose pieces are read from left to right.
of_pieces : (t : List ℕ) (o : Option (List ℤ)) → (length t ≡ 0 → ⊥) → every word (split 32 t) ≡ o → words_of t ≡ (o then λ ws. given (leb (length ws) 2000) (Some ws))
unfolding words_of
of_pieces t o z e = rw (pieces_split t z, e)

too_long : (done us : List ℤ) (x : ℤ) → length done ≡ 2000 → leb (length (done ++ (x ∷ us))) 2000 ≡ false
too_long done us x l = let a = length-append done (x ∷ us) in lt-leb (length (done ++ (x ∷ us))) 2000 (omega arith)

over_by : (done : List ℤ) (x : ℤ) (o : Option (List ℤ)) → length done ≡ 2000 → (behind done (o then λ us. Some (x ∷ us)) then λ ws. given (leb (length ws) 2000) (Some ws)) ≡ None
unfolding ◌then◌ behind given
over_by done x None l = refl
over_by done x (Some us) l = rw (too_long done us x l)

onward : (done : List ℤ) (x : ℤ) (o : Option (List ℤ)) → behind done (o then λ us. Some (x ∷ us)) ≡ behind (done ++ (x ∷ [])) o
unfolding ◌then◌ behind
onward done x None = refl
onward done x (Some us) = ap Some (sym (append_assoc done (x ∷ []) us))

-- So many pieces were read, and their words stand in the table; the words of the others go behind them.
pub record Reading (t : List ℕ) (n : ℕ) (out : List ℤ) : Type 0 where
  pub all : every word (split 32 t) ≡ behind (take n out) (every word (drop n (split 32 t)))
  pub few : n ≤ 2000

module _ (t : List ℕ) (n : ℕ) (out : List ℤ) (room : 2000 ≤ length out) (some : length t ≡ 0 → ⊥) (g : Reading t n out) where
  module _ (p : List ℕ) (turn : (n < length (split 32 t)) × (p ≡ get_or (split 32 t) n p)) where
    here : every word (drop n (split 32 t)) ≡ (word p then λ b. every word (drop (n + 1) (split 32 t)) then λ bs. Some (b ∷ bs))
    unfolding every
    here = at_drop_more (every word) (split 32 t) n p turn.0 ∙ ap (λ q. every word (q ∷ drop (n + 1) (split 32 t))) (sym turn.1)

    pub not_a_word : None ≡ word p → ReadWords t None out
    unfolding ◌then◌ behind of_line
    not_a_word e =
        let h : every word (drop n (split 32 t)) ≡ None = here ∙ rw (← e) in
        record { words = sym (of_pieces t None some (g.all ∙ rw h)); few = tt }

    module _ (x : ℤ) (e : Some x ≡ word p) where
      read_on : every word (split 32 t) ≡ behind (take n out) (every word (drop (n + 1) (split 32 t)) then λ us. Some (x ∷ us))
      unfolding ◌then◌
      read_on = g.all ∙ ap (behind (take n out)) (here ∙ rw (← e))

      pub too_many : n ≡ 2000 → ReadWords t None out
      unfolding of_line
      too_many m =
          let f = length-take-le n out (omega arith) in
          record { words = sym (of_pieces t _ some read_on ∙ over_by (take n out) x (every word (drop (n + 1) (split 32 t))) (omega arith)); few = tt }

      pub one_more : (n ≡ 2000 → ⊥) → Reading t (n + 1) (set out n (to_z w32 (of_z w32 x)))
      one_more m =
          let l = g.few in
          let h : n < length out = omega (arith, m) in
          record {
            all = read_on ∙ rw (onward (take n out) x (every word (drop (n + 1) (split 32 t))), to_z-of_z (word_fits p x e), add-one n, take-suc-set out n x h);
            few = omega (arith, m);
          }

  pub line_read : n ≡ length (split 32 t) → ReadWords t (Some n) out
  unfolding every ◌then◌ behind given of_line
  line_read e =
      let l = g.few in
      let b : length (take n out) ≤ 2000 = omega (arith, length-take-le n out (omega arith)) in
      let h : every word (split 32 t) ≡ Some (take n out) = g.all ∙ ap (behind (take n out)) (at_drop_all (every word) (split 32 t) n (omega arith)) ∙ ap Some (append-nil (take n out)) in
      record { words = sym (of_pieces t _ some h ∙ rw (le-leb (length (take n out)) 2000 b)); few = l }
