-- Words over lent words: as far as these reach, with what they held behind; and a word put between them.
use Rattle.std.specs.Prelude.{ℕ, ◌+◌, ◌≡◌, refl, List, [], ◌∷◌, ◌++◌, length, take, drop, ℤ}
use Rattle.std.proofs.Common.{arith, sym, ap, ◌∙◌, lt-ltb, le-ltb}
use Rattle.notation_step.specs.Stepped.{shifted, inserted}

unfoldable pub over : List ℤ → List ℤ → List ℤ
over [] is = is
over (c ∷ cs) [] = []
over (c ∷ cs) (i ∷ is) = c ∷ over cs is

stays : (n : ℕ) (x : ℤ) (is : List ℤ) → shifted n (n + 1) x is ≡ is
unfolding shifted
stays n x [] = refl
stays n x (i ∷ is) = rw (lt-ltb n (n + 1) (omega arith))

-- A word before the words b, the first of which is the j-th.
before : (b is : List ℤ) (w : ℤ) (j n : ℕ) → n ≡ j + length b → shifted n j w (over b is) ≡ over (w ∷ b) is
unfolding shifted over
before [] [] w j n e = refl
before [] (i ∷ is) w j n e = let q : n ≡ j = omega arith in ap (λ k. shifted k j w (i ∷ is)) q ∙ rw (le-ltb j j (omega arith)) (ap (λ us. w ∷ us) (stays j i is))
before (c ∷ b) [] w j n e = refl
before (c ∷ b) (i ∷ is) w j n e = rw (le-ltb n j (omega arith)) (ap (λ us. w ∷ us) (before b is c (j + 1) n (omega arith)))

between : (a b is : List ℤ) (w : ℤ) (j n m : ℕ) → n ≡ j + length (a ++ b) → m ≡ j + length a
    → take (length a) (over (a ++ b) is) ++ shifted n m w (drop (length a) (over (a ++ b) is)) ≡ over (a ++ (w ∷ b)) is
unfolding over shifted
between [] b is w j n m e f = let q : m ≡ j = omega arith in ap (λ k. shifted n k w (over b is)) q ∙ before b is w j n e
between (c ∷ a) b [] w j n m e f = refl
between (c ∷ a) b (i ∷ is) w j n m e f = ap (λ us. c ∷ us) (between a b is w (j + 1) n m (omega arith) (omega arith))

pub put_between : (a b is : List ℤ) (w : ℤ) → inserted (over (a ++ b) is) (length (a ++ b)) (length a) w ≡ over (a ++ (w ∷ b)) is
unfolding inserted
put_between a b is w = between a b is w 0 (length (a ++ b)) (length a) (omega arith) (omega arith)

pub nothing_behind : (a : List ℤ) → a ++ [] ≡ a
nothing_behind [] = refl
nothing_behind (c ∷ a) = ap (λ us. c ∷ us) (nothing_behind a)

pub put_behind : (a is : List ℤ) (w : ℤ) → inserted (over a is) (length a) (length a) w ≡ over (a ++ (w ∷ [])) is
put_behind a is w = ap (λ us. inserted (over us is) (length us) (length a) w) (sym (nothing_behind a)) ∙ put_between a [] is w
