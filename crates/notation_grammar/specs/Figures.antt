-- Numbers in a word, plain and behind a minus, and when they are too large.
use Rattle.std.specs.Prelude.{ℕ, zero, suc, ◌-◌, ◌%◌, ◌<◌, ◌^◌, ◌≡◌, refl, Bool, true, false, not, cond, eqb, ltb, leb, T, pos, negsuc}
use Rattle.std.proofs.Common.{arith, mod-eq_of_lt, ap, ◌∙◌, lt-ltb, le-ltb, le-leb, ltb-true, ltb-false, ltb→lt}
use Rattle.std.proofs.lemmas.Bool.{lt-leb}
use Rattle.std.specs.Int.{w32}
use mir.Val.{to_z, sel}
use Rattle.rules.specs.Numbers.{in_range}
use Rattle.notation_rules.specs.Tokens.{minus'}
use Rattle.notation_step.specs.Stepped.{bits_of, too_large}

pub large_plain : (n : ℕ) → too_large 1 n ≡ not (in_range (pos n))
unfolding too_large in_range
large_plain n = go (ltb n 2147483648) refl
  where
    go : (b : Bool) → ltb n 2147483648 ≡ b → leb 2147483648 n ≡ not b
    go true e = lt-leb 2147483648 n (ltb-true n 2147483648 e)
    go false e = le-leb 2147483648 n (ltb-false n 2147483648 e)

pub large_minus : (n : ℕ) → too_large 2 n ≡ not (in_range (minus' n))
unfolding too_large in_range minus'
large_minus zero = refl
large_minus (suc n) = go (ltb n 2147483648) refl
  where
    go : (b : Bool) → ltb n 2147483648 ≡ b → ltb 2147483648 (suc n) ≡ not b
    go true e = let l = ltb-true n 2147483648 e in le-ltb 2147483648 (suc n) (omega arith)
    go false e = let l = ltb-false n 2147483648 e in lt-ltb 2147483648 (suc n) (omega arith)

small : (n : ℕ) → n < 2147483648 → to_z w32 n ≡ pos n
small n h = ap (λ b. sel b (pos n) (negsuc (2 ^ 32 - suc n))) (lt-ltb n 2147483648 h)

pub word_plain : (mode n : ℕ) → eqb mode 2 ≡ false → n < 2147483648 → to_z w32 (bits_of mode n) ≡ pos n
unfolding bits_of
word_plain mode n e h =
    let f : n % 4294967296 ≡ n = mod-eq_of_lt (omega arith) in
    ap (λ b. to_z w32 (cond b ((4294967296 - n % 4294967296) % 4294967296) (n % 4294967296))) e ∙ ap (to_z w32) f ∙ small n h

pub in_range_lem : (n : ℕ) → T (in_range (pos n)) → n < 2147483648
unfolding in_range
in_range_lem n h = ltb→lt n 2147483648 h

pub word_minus : (n : ℕ) → T (in_range (minus' n)) → to_z w32 (bits_of 2 n) ≡ minus' n
unfolding bits_of minus' in_range
word_minus zero h = refl
word_minus (suc n) h =
    let l : n < 2147483648 = ltb→lt n 2147483648 h in
    let a : suc n % 4294967296 ≡ suc n = mod-eq_of_lt (omega arith) in
    let b : (4294967296 - suc n) % 4294967296 ≡ 4294967296 - suc n = mod-eq_of_lt (omega arith) in
    let c : 4294967296 - suc (4294967296 - suc n) ≡ n = omega arith in
    ap (λ x. to_z w32 ((4294967296 - x) % 4294967296)) a ∙ ap (to_z w32) b
    ∙ ap (λ t. sel t (pos (4294967296 - suc n)) (negsuc (4294967296 - suc (4294967296 - suc n)))) (le-ltb (4294967296 - suc n) 2147483648 (omega arith)) ∙ ap negsuc c
