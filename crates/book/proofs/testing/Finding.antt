-- The first block that bears a badge number, and whether a badge is live. Assumes nothing.
use Prim.Native.Nat.{ℕ, zero, suc, ◌+◌}
use native.Mathlib.Omega.{arith}
use mathlib.Core.Path.{◌≡◌, refl, sym, ap, ap₂, ◌∙◌}
use mathlib.Core.Bool.{Bool, true, false, not, cond}
use mathlib.Core.Option.{Option, none, some}
use mathlib.Core.List.{List, [], ◌∷◌, ◌++◌, map}
use lib.ListN.{length}
use lib.Dec.{eqb, ltb}
use borrow.Author.Tests.{ne_eqb, ltb-true, ltb-false, lt-ltb, le-ltb}
use Rattle.book_rules.specs.Sums.{and_also}
use Rattle.book_rules.specs.Blocks.{Block, badge_of, holds, taken}
use Rattle.book_rules.specs.Books.{place}
use Rattle.book_rules.specs.Bytes.{block_at, blocks_from}
use Rattle.book_rules.proofs.Round.{none_taken}
use Rattle.book_rules.proofs.Walks.{taken_place, untaken_place}
use Rattle.book.specs.Testing.{bears, found, before}
use Rattle.std.specs.Prelude.{Some, None}
use Rattle.std.specs.Prelude as code
use Rattle.std.specs.List.{position, position_or_len}
use Rattle.std.specs.Option.{is_some}
use Rattle.book_words.specs.Halves.{words_of}

-- ---- Block after block.

abbrev pub tested : ℕ → List ℕ → Bool
tested x bytes = eqb (badge_of (words_of bytes)) x

-- One place further, in the code and in the document's terms.
up : code.Option ℕ → code.Option ℕ
up None = None
up (Some i) = Some (1 + i)

next : Bool → Option ℕ → Option ℕ
next t o = elim t [ true ↦ some 0 | false ↦ elim o [ none ↦ none | some i ↦ some (suc i) ] ]

up_next : (o : Option ℕ) → up (found o) ≡ found (next false o)
unfolding up found next
up_next none = refl
up_next (some i) = let e : 1 + i ≡ suc i = omega arith in ap Some e

up_further : (a : ℕ) (t : Bool) → cond t (Some (1 + a)) None ≡ up (cond t (Some a) None)
unfolding up
up_further a true = refl
up_further a false = refl

below : (a n : ℕ) (t : Bool) → ltb a n ≡ t → ltb (1 + a) (suc n) ≡ t
below a n true e = let h = ltb-true a n e in lt-ltb (1 + a) (suc n) (omega arith)
below a n false e = let h = ltb-false a n e in le-ltb (1 + a) (suc n) (omega arith)

-- The first of the blocks that passes the test.
first_is : (x : ℕ) (bs : List (List ℕ)) → position (tested x) bs ≡ found (place (bears x) (map words_of bs))
unfolding place bears found next
first_is x [] = refl
first_is x (b ∷ bs) = by (position_or_len (tested x) bs) (length bs) (place (bears x) (map words_of bs)) (first_is x bs) (tested x b)
  where
    by : (a n : ℕ) (o : Option ℕ) → cond (ltb a n) (Some a) None ≡ found o → (t : Bool) → cond (ltb (cond (not t) (1 + a) 0) (suc n)) (Some (cond (not t) (1 + a) 0)) None ≡ found (next t o)
    by a n o h true = ap (λ (t : Bool). cond t (Some 0) None) (lt-ltb 0 (suc n) (omega arith))
    by a n o h false = ap (λ (t : Bool). cond t (Some (1 + a)) None) (below a n (ltb a n) refl) ∙ up_further a (ltb a n) ∙ ap up h ∙ up_next o

pub find_is : (x : ℕ) (bs : List (List ℕ)) (r : code.Option ℕ) → r ≡ position (tested x) bs → r ≡ found (place (bears x) (map words_of bs))
find_is x bs r e = e ∙ first_is x bs

-- ---- A live badge.

pub holds_bears : (x : ℕ) → (x ≡ 0 → ⊥) → (b : Block) → holds x b ≡ bears x b
unfolding holds bears and_also
holds_bears x n b = ap (λ (t : Bool). and_also (not t) (eqb (badge_of b) x)) (ne_eqb x 0 n)

place_same : (f g : Block → Bool) → ((b : Block) → f b ≡ g b) → (bs : List Block) → place f bs ≡ place g bs
unfolding place next
place_same f g h [] = refl
place_same f g h (b ∷ bs) = ap₂ next (h b) (place_same f g h bs)

pub place_holds : (x : ℕ) → (x ≡ 0 → ⊥) → (bs : List Block) → place (holds x) bs ≡ place (bears x) bs
place_holds x n bs = place_same (holds x) (bears x) (holds_bears x n) bs

pub taken_none : (x : ℕ) (bs : List Block) → x ≡ 0 → false ≡ taken x bs
taken_none x bs z = sym (ap (λ (y : ℕ). taken y bs) z ∙ none_taken bs)

pub taken_is : (x : ℕ) (bs : List Block) (o : code.Option ℕ) → (x ≡ 0 → ⊥) → o ≡ found (place (bears x) bs) → is_some o ≡ taken x bs
taken_is x bs o n e = ap is_some e ∙ by (taken x bs) refl
  where
    by : (t : Bool) → taken x bs ≡ t → is_some (found (place (bears x) bs)) ≡ taken x bs
    by true p =
        let w = taken_place x bs p in
        unfold found in ap (λ (o : Option ℕ). is_some (found o)) (sym (place_holds x n bs) ∙ w.1) ∙ sym p
    by false p = unfold found in ap (λ (o : Option ℕ). is_some (found o)) (sym (place_holds x n bs) ∙ untaken_place x bs p) ∙ sym p

-- ---- The blocks before another, from the other end.

abbrev either : Bool → Bool → Bool
either t u = elim t [ true ↦ true | false ↦ u ]

either_turned : (t u v : Bool) → either t (either u v) ≡ either u (either t v)
either_turned true true v = refl
either_turned true false v = refl
either_turned false true v = refl
either_turned false false v = refl

taken_last : (x : ℕ) (bs : List Block) (b : Block) → taken x (bs ++ (b ∷ [])) ≡ taken x (b ∷ bs)
unfolding taken
taken_last x [] b = refl
taken_last x (a ∷ bs) b = ap (either (holds x a)) (taken_last x bs b) ∙ either_turned (holds x a) (holds x b) (taken x bs)

blocks_last : (s : List ℕ) (k n : ℕ) → blocks_from s k (suc n) ≡ blocks_from s k n ++ (block_at s (k + n) ∷ [])
unfolding blocks_from
blocks_last s k zero = let e : k ≡ k + 0 = omega arith in ap (λ (j : ℕ). block_at s j ∷ []) e
blocks_last s k (suc n) = let e : suc k + n ≡ k + suc n = omega arith in ap (λ (bs : List Block). block_at s k ∷ bs) (blocks_last s (suc k) n ∙ ap (λ (j : ℕ). blocks_from s (suc k) n ++ (block_at s j ∷ [])) e)

pub taken_before : (x : ℕ) (s : List ℕ) (k : ℕ) → taken x (blocks_from s 0 k) ≡ taken x (before s k)
unfolding before blocks_from
taken_before x s zero = refl
taken_before x s (suc k) =
    let e : 0 + k ≡ k = omega arith in
    ap (taken x) (blocks_last s 0 k ∙ ap (λ (j : ℕ). blocks_from s 0 k ++ (block_at s j ∷ [])) e) ∙ taken_last x (blocks_from s 0 k) (block_at s k)
    ∙ first (blocks_from s 0 k) (before s k) (taken_before x s k)
  where
    first : (bs cs : List Block) → taken x bs ≡ taken x cs → taken x (block_at s k ∷ bs) ≡ taken x (block_at s k ∷ cs)
    first bs cs h = unfold taken in ap (either (holds x (block_at s k))) h
