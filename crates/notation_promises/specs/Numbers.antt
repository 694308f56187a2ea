-- A word's bits are written as its number.
use Rattle.std.specs.Prelude.{ℕ, zero, suc, ◌+◌, ◌-◌, ◌^◌, ◌≤◌, ◌<◌, ◌≡◌, refl, List, [], ◌∷◌, ◌++◌, ltb, T, ℤ, pos, negsuc}
use Rattle.std.proofs.Common.{arith, ap, ◌∙◌, lt-ltb, le-ltb, ne_eqb, ltb→lt, of_z}
use Rattle.std.specs.Int.{w32}
use Rattle.rules.specs.Numbers.{in_range}
use Rattle.notation_rules.specs.Tokens.{Token, code}
use Rattle.notation_rules.specs.Patterns as P
use Rattle.notation_rules.specs.Targets as U
use Rattle.notation_write.specs.Written.{ink, signed, plus, valued}
use Rattle.notation_promises.specs.Printed.{ink_of, inks_of}

small : (n : ℕ) → T (ltb n (2 ^ 31)) → n < 2147483648
small n h = ltb→lt n (2 ^ 31) h

signed_plain : (n : ℕ) → n < 2147483648 → signed n ≡ ink 23 n ∷ []
unfolding signed
signed_plain n h = rw (lt-ltb n 2147483648 h)

signed_minus : (n u : ℕ) → n < 2147483648 → u ≡ 2 ^ 32 - suc n → signed u ≡ ink 4 0 ∷ ink 23 (suc n) ∷ []
unfolding signed
signed_minus n u h e = let k : 4294967295 - u + 1 ≡ suc n = omega arith in rw (le-ltb u 2147483648 (omega arith), k)

pub number_written : (c : ℤ) (ts : List Token) → T (in_range c) → signed (of_z w32 c) ++ inks_of ts ≡ inks_of (U.write_int c ts)
unfolding in_range U.write_int inks_of ink_of code
number_written (pos n) ts h = ap (λ is. is ++ inks_of ts) (signed_plain n (small n h))
number_written (negsuc n) ts h = ap (λ is. is ++ inks_of ts) (signed_minus n (2 ^ 32 - suc n) (small n h) refl)

pub constant_written : (c : ℤ) (ts : List Token) → T (in_range c) → ink 1 0 ∷ (signed (of_z w32 c) ++ inks_of ts) ≡ inks_of (P.write_constant c ts)
unfolding in_range P.write_constant inks_of ink_of code
constant_written (pos n) ts h = ap (λ is. ink 1 0 ∷ (is ++ inks_of ts)) (signed_plain n (small n h))
constant_written (negsuc n) ts h = ap (λ is. ink 1 0 ∷ (is ++ inks_of ts)) (signed_minus n (2 ^ 32 - suc n) (small n h) refl)

plus_put : (n : ℕ) → n < 2147483648 → plus n ≡ ink 3 0 ∷ []
unfolding plus
plus_put n h = rw (lt-ltb n 2147483648 h)

plus_none : (n : ℕ) → 2147483648 ≤ n → plus n ≡ []
unfolding plus
plus_none n h = rw (le-ltb n 2147483648 h)

valued_is : (v u : ℕ) → (u ≡ 0 → ⊥) → valued v u ≡ ink 6 0 ∷ ink 22 v ∷ (plus u ++ (signed u ++ (ink 7 0 ∷ [])))
unfolding valued
valued_is v u h = rw (ne_eqb u 0 h)

pub value_written : (v c : ℤ) (ts : List Token) → T (in_range c) → ink 1 0 ∷ (valued (of_z w32 v) (of_z w32 c) ++ inks_of ts) ≡ inks_of (P.write_value v c ts)
unfolding in_range P.write_value inks_of ink_of code valued
value_written v (pos zero) ts h = refl
value_written v (pos (suc n)) ts h =
    ap (λ is. ink 1 0 ∷ (is ++ inks_of ts)) (valued_is (of_z w32 v) (suc n) (λ z. absurd (omega arith))
    ∙ ap (λ is. ink 6 0 ∷ ink 22 (of_z w32 v) ∷ (is ++ (signed (suc n) ++ (ink 7 0 ∷ [])))) (plus_put (suc n) (small (suc n) h))
    ∙ ap (λ is. ink 6 0 ∷ ink 22 (of_z w32 v) ∷ ink 3 0 ∷ (is ++ (ink 7 0 ∷ []))) (signed_plain (suc n) (small (suc n) h)))
value_written v (negsuc n) ts h =
    let l = small n h in
    let u : ℕ = 2 ^ 32 - suc n in
    ap (λ is. ink 1 0 ∷ (is ++ inks_of ts)) (valued_is (of_z w32 v) u (λ z. absurd (omega arith))
    ∙ ap (λ is. ink 6 0 ∷ ink 22 (of_z w32 v) ∷ (is ++ (signed u ++ (ink 7 0 ∷ [])))) (plus_none u (omega arith))
    ∙ ap (λ is. ink 6 0 ∷ ink 22 (of_z w32 v) ∷ (is ++ (ink 7 0 ∷ []))) (signed_minus n u l refl))
