-- One character more: what was begun by the code's table is what was begun by the notation.
use Rattle.std.specs.Prelude.{ℕ, zero, suc, ◌+◌, ◌*◌, ◌%◌, ◌≤◌, ◌≡◌, Bool, cond, get_or, eqb, ltb, leb, T}
use Rattle.std.proofs.Common.{arith, sym, ◌∙◌, lt-ltb, le-ltb, leb-true, leb-false, ltb→lt}
use Rattle.std.proofs.Math.Path.{refl, ap, subst}
use Rattle.std.proofs.Math.Bool.{true, false}
use Rattle.std.proofs.Math.Option.{Option, none, some}
use mathlib.Core.List.{List, [], ◌∷◌, ◌++◌}
use Rattle.notation_rules.specs.Letters.{pluses, colons, dashes, kind, Begun, full, digits, huge, word, binder, first, comment, in_name, by_digit, by_letter, by_low, second, by_twin, is_comment, takes, in_comment, goes_on, begin}
use Rattle.notation_scan.specs.Scanned.{nexts, begins, more_of}
use Rattle.notation_same.specs.Chars.{token_of, kind_by, made, Plain, Told}

unfoldable pub number_of : ℕ → Begun
number_of v = cond (ltb 2147483648 v) huge (digits v)

-- What was begun, by the code's state, with the number so far, the token of its first character, its characters, and those of its name.
unfoldable pub begun_by : (s value k : ℕ) → (w n : List ℕ) → Begun
unfolding number_of token_of
begun_by s value k w n = get_or (full [] ∷ comment ∷ number_of value ∷ comment ∷ word w ∷ binder [] ∷ binder n ∷ first pluses ∷ first colons ∷ first dashes ∷ full (token_of k 0 [] [] ∷ []) ∷ []) s comment

unfoldable pub next_by : (s m : ℕ) → ℕ
next_by s m = get_or nexts ((s % 11 * 10 + m % 10) % 110) 0

-- The states of the code.
pub data State : (s k : ℕ) → List ℕ → Type 0 where
  blank : {k : ℕ} {n : List ℕ} → State 0 k n
  comments : {k : ℕ} {n : List ℕ} → State 1 k n
  digiting : {k : ℕ} {n : List ℕ} → State 2 k n
  wording : {k : ℕ} {n : List ℕ} → State 4 k n
  bare : {k : ℕ} → State 5 k []
  naming : {k d : ℕ} {n : List ℕ} → State 6 k (d ∷ n)
  one_plus : {n : List ℕ} → State 7 18 n
  one_colon : {n : List ℕ} → State 8 17 n
  one_dash : {k : ℕ} {n : List ℕ} → State 9 k n
  whole : {k : ℕ} {n : List ℕ} → Plain k → eqb k 24 ≡ false → State 10 k n

pub data Class : ℕ → Type 0 where
  k0 : Class 0
  k1 : Class 1
  k2 : Class 2
  k3 : Class 3
  k4 : Class 4
  k5 : Class 5
  k6 : Class 6
  k7 : Class 7
  k8 : Class 8
  k9 : Class 9

pub class_of : (m : ℕ) → T (ltb m 10) → Class m
class_of zero h = k0
class_of (suc zero) h = k1
class_of (suc (suc zero)) h = k2
class_of (suc (suc (suc zero))) h = k3
class_of (suc (suc (suc (suc zero)))) h = k4
class_of (suc (suc (suc (suc (suc zero))))) h = k5
class_of (suc (suc (suc (suc (suc (suc zero)))))) h = k6
class_of (suc (suc (suc (suc (suc (suc (suc zero))))))) h = k7
class_of (suc (suc (suc (suc (suc (suc (suc (suc zero)))))))) h = k8
class_of (suc (suc (suc (suc (suc (suc (suc (suc (suc zero))))))))) h = k9
class_of (suc (suc (suc (suc (suc (suc (suc (suc (suc (suc m)))))))))) h = let q = ltb→lt (suc (suc (suc (suc (suc (suc (suc (suc (suc (suc m)))))))))) 10 h in absurd (omega arith)

numbers_more : (value c : ℕ) → by_digit (number_of value) (c % 48) ≡ some (number_of (more_of value c))
unfolding by_digit number_of more_of
numbers_more value c = go (ltb 2147483648 value) refl
  where
    last : (v : ℕ) → (t : Bool) → leb v 2147483648 ≡ t → ◌≡◌ {A = Option Begun} (elim t as (λ _. Option Begun) [ true ↦ some (digits v) | false ↦ some huge ]) (some (cond (ltb 2147483648 v) huge (digits v)))
    last v true e = ap some (ap (λ t. cond t huge (digits v)) (sym (le-ltb 2147483648 v (leb-true v 2147483648 e))))
    last v false e = ap some (ap (λ t. cond t huge (digits v)) (sym (lt-ltb 2147483648 v (leb-false v 2147483648 e))))

    go : (t : Bool) → ltb 2147483648 value ≡ t → by_digit (cond t huge (digits value)) (c % 48) ≡ some (number_of (cond t value (value * 10 + c % 48)))
    go true e = ap some (ap (λ t. cond t huge (digits value)) (sym e))
    go false e = last (value * 10 + c % 48) (leb (value * 10 + c % 48) 2147483648) refl

pub number_elim : (P : Begun → Type 0) → P huge → ((n : ℕ) → P (digits n)) → (v : ℕ) → P (number_of v)
unfolding number_of
number_elim P a b v = go (ltb 2147483648 v)
  where
    go : (t : Bool) → P (cond t huge (digits v))
    go true = a
    go false = b v

module _ (value c x : ℕ) (w : List ℕ) where
  pub goes : {s k m : ℕ} {n : List ℕ} → State s k n → Class m → Told c m x
      → goes_on (begun_by s value k w n) c ≡ cond (eqb (next_by s m) 15) none (some (begun_by (next_by s m) (more_of value c) k (w ++ c ∷ []) (n ++ c ∷ [])))
  unfolding goes_on takes is_comment in_comment begun_by next_by kind_by token_of by_digit by_letter by_low by_twin second in_name
  goes blank k0 t = ap (takes (full [])) t.is
  goes blank k1 t = ap (takes (full [])) t.is
  goes blank k2 t = ap (takes (full [])) t.is
  goes blank k3 t = ap (takes (full [])) t.is
  goes blank k4 t = ap (takes (full [])) t.is
  goes blank k5 t = ap (takes (full [])) t.is
  goes blank k6 t = ap (takes (full [])) t.is
  goes blank k7 t = ap (takes (full [])) t.is
  goes blank k8 t = ap (takes (full [])) t.is
  goes blank k9 t = ap (takes (full [])) t.is
  goes comments k0 t = ap (λ y. elim y as (λ _. Option Begun) [ true ↦ none | false ↦ some comment ]) t.ends
  goes comments k1 t = ap (λ y. elim y as (λ _. Option Begun) [ true ↦ none | false ↦ some comment ]) t.ends
  goes comments k2 t = ap (λ y. elim y as (λ _. Option Begun) [ true ↦ none | false ↦ some comment ]) t.ends
  goes comments k3 t = ap (λ y. elim y as (λ _. Option Begun) [ true ↦ none | false ↦ some comment ]) t.ends
  goes comments k4 t = ap (λ y. elim y as (λ _. Option Begun) [ true ↦ none | false ↦ some comment ]) t.ends
  goes comments k5 t = ap (λ y. elim y as (λ _. Option Begun) [ true ↦ none | false ↦ some comment ]) t.ends
  goes comments k6 t = ap (λ y. elim y as (λ _. Option Begun) [ true ↦ none | false ↦ some comment ]) t.ends
  goes comments k7 t = ap (λ y. elim y as (λ _. Option Begun) [ true ↦ none | false ↦ some comment ]) t.ends
  goes comments k8 t = ap (λ y. elim y as (λ _. Option Begun) [ true ↦ none | false ↦ some comment ]) t.ends
  goes comments k9 t = ap (λ y. elim y as (λ _. Option Begun) [ true ↦ none | false ↦ some comment ]) t.ends
  goes digiting k0 t = number_elim (λ y. goes_on y c ≡ none) (ap (takes huge) t.is) (λ n. ap (takes (digits n)) t.is) value
  goes digiting k1 t = number_elim (λ y. goes_on y c ≡ none) (ap (takes huge) t.is) (λ n. ap (takes (digits n)) t.is) value
  goes digiting k2 t = number_elim (λ y. goes_on y c ≡ none) (ap (takes huge) t.is) (λ n. ap (takes (digits n)) t.is) value
  goes digiting k3 t = number_elim (λ y. goes_on y c ≡ none) (ap (takes huge) t.is) (λ n. ap (takes (digits n)) t.is) value
  goes digiting k4 t = number_elim (λ y. goes_on y c ≡ by_digit y (c % 48)) (ap (takes huge) t.is) (λ n. ap (takes (digits n)) t.is) value ∙ numbers_more value c
  goes digiting k5 t = number_elim (λ y. goes_on y c ≡ none) (ap (takes huge) t.is) (λ n. ap (takes (digits n)) t.is) value
  goes digiting k6 t = number_elim (λ y. goes_on y c ≡ none) (ap (takes huge) t.is) (λ n. ap (takes (digits n)) t.is) value
  goes digiting k7 t = number_elim (λ y. goes_on y c ≡ none) (ap (takes huge) t.is) (λ n. ap (takes (digits n)) t.is) value
  goes digiting k8 t = number_elim (λ y. goes_on y c ≡ none) (ap (takes huge) t.is) (λ n. ap (takes (digits n)) t.is) value
  goes digiting k9 t = number_elim (λ y. goes_on y c ≡ none) (ap (takes huge) t.is) (λ n. ap (takes (digits n)) t.is) value
  goes wording k0 t = ap (takes (word w)) t.is
  goes wording k1 t = ap (takes (word w)) t.is
  goes wording k2 t = ap (takes (word w)) t.is
  goes wording k3 t = ap (takes (word w)) t.is ∙ ap (λ d. some (word (w ++ d ∷ []))) t.lows
  goes wording k4 t = ap (takes (word w)) t.is ∙ ap (λ d. some (word (w ++ d ∷ []))) t.digits
  goes wording k5 t = ap (takes (word w)) t.is
  goes wording k6 t = ap (takes (word w)) t.is
  goes wording k7 t = ap (takes (word w)) t.is
  goes wording k8 t = ap (takes (word w)) t.is
  goes wording k9 t = ap (takes (word w)) t.is
  goes bare k0 t = ap (takes (binder [])) t.is
  goes bare k1 t = ap (takes (binder [])) t.is
  goes bare k2 t = ap (takes (binder [])) t.is
  goes bare k3 t = ap (takes (binder [])) t.is
  goes bare k4 t = ap (takes (binder [])) t.is
  goes bare k5 t = ap (takes (binder [])) t.is
  goes bare k6 t = ap (takes (binder [])) t.is
  goes bare k7 t = ap (takes (binder [])) t.is
  goes bare k8 t = ap (takes (binder [])) t.is
  goes bare k9 t = ap (takes (binder [])) t.is
  goes (naming {k} {d} {n}) k0 t = ap (takes (binder (d ∷ n))) t.is
  goes (naming {k} {d} {n}) k1 t = ap (takes (binder (d ∷ n))) t.is
  goes (naming {k} {d} {n}) k2 t = ap (takes (binder (d ∷ n))) t.is
  goes (naming {k} {d} {n}) k3 t = ap (takes (binder (d ∷ n))) t.is ∙ ap (λ e. some (binder (d ∷ (n ++ e ∷ [])))) t.lows
  goes (naming {k} {d} {n}) k4 t = ap (takes (binder (d ∷ n))) t.is ∙ ap (λ e. some (binder (d ∷ (n ++ e ∷ [])))) t.digits
  goes (naming {k} {d} {n}) k5 t = ap (takes (binder (d ∷ n))) t.is
  goes (naming {k} {d} {n}) k6 t = ap (takes (binder (d ∷ n))) t.is
  goes (naming {k} {d} {n}) k7 t = ap (takes (binder (d ∷ n))) t.is
  goes (naming {k} {d} {n}) k8 t = ap (takes (binder (d ∷ n))) t.is
  goes (naming {k} {d} {n}) k9 t = ap (takes (binder (d ∷ n))) t.is
  goes one_plus k0 t = ap (takes (first pluses)) t.is
  goes one_plus k1 t = ap (takes (first pluses)) t.is
  goes one_plus k2 t = ap (takes (first pluses)) t.is
  goes one_plus k3 t = ap (takes (first pluses)) t.is
  goes one_plus k4 t = ap (takes (first pluses)) t.is
  goes one_plus k5 t = ap (takes (first pluses)) t.is
  goes one_plus k6 t = ap (takes (first pluses)) t.is
  goes one_plus k7 t = ap (takes (first pluses)) t.is
  goes one_plus k8 t = ap (takes (first pluses)) t.is
  goes one_plus k9 t = ap (takes (first pluses)) t.is
  goes one_colon k0 t = ap (takes (first colons)) t.is
  goes one_colon k1 t = ap (takes (first colons)) t.is
  goes one_colon k2 t = ap (takes (first colons)) t.is
  goes one_colon k3 t = ap (takes (first colons)) t.is
  goes one_colon k4 t = ap (takes (first colons)) t.is
  goes one_colon k5 t = ap (takes (first colons)) t.is
  goes one_colon k6 t = ap (takes (first colons)) t.is
  goes one_colon k7 t = ap (takes (first colons)) t.is
  goes one_colon k8 t = ap (takes (first colons)) t.is
  goes one_colon k9 t = ap (takes (first colons)) t.is
  goes one_dash k0 t = ap (takes (first dashes)) t.is
  goes one_dash k1 t = ap (takes (first dashes)) t.is
  goes one_dash k2 t = ap (takes (first dashes)) t.is
  goes one_dash k3 t = ap (takes (first dashes)) t.is
  goes one_dash k4 t = ap (takes (first dashes)) t.is
  goes one_dash k5 t = ap (takes (first dashes)) t.is
  goes one_dash k6 t = ap (takes (first dashes)) t.is
  goes one_dash k7 t = ap (takes (first dashes)) t.is
  goes one_dash k8 t = ap (takes (first dashes)) t.is
  goes one_dash k9 t = ap (takes (first dashes)) t.is
  goes (whole {k} p r) k0 t = ap (takes (full (token_of k 0 [] [] ∷ []))) t.is
  goes (whole {k} p r) k1 t = ap (takes (full (token_of k 0 [] [] ∷ []))) t.is
  goes (whole {k} p r) k2 t = ap (takes (full (token_of k 0 [] [] ∷ []))) t.is
  goes (whole {k} p r) k3 t = ap (takes (full (token_of k 0 [] [] ∷ []))) t.is
  goes (whole {k} p r) k4 t = ap (takes (full (token_of k 0 [] [] ∷ []))) t.is
  goes (whole {k} p r) k5 t = ap (takes (full (token_of k 0 [] [] ∷ []))) t.is
  goes (whole {k} p r) k6 t = ap (takes (full (token_of k 0 [] [] ∷ []))) t.is
  goes (whole {k} p r) k7 t = ap (takes (full (token_of k 0 [] [] ∷ []))) t.is
  goes (whole {k} p r) k8 t = ap (takes (full (token_of k 0 [] [] ∷ []))) t.is
  goes (whole {k} p r) k9 t = ap (takes (full (token_of k 0 [] [] ∷ []))) t.is

-- What a character begins.
unfoldable pub begin_by : ℕ → ℕ
begin_by m = get_or begins (m % 10) 0

number_small : (v : ℕ) → v ≤ 2147483648 → number_of v ≡ digits v
unfolding number_of
number_small v h = ap (λ t. cond t huge (digits v)) (le-ltb 2147483648 v h)

first_digit : (c : ℕ) → digits (c % 48) ≡ number_of (more_of 0 c)
unfolding more_of
first_digit c = let q : 0 * 10 + c % 48 ≡ c % 48 = omega arith in sym (ap number_of q ∙ number_small (c % 48) (omega arith))

module _ (c x : ℕ) where
  pub begun : {m : ℕ} → Class m → Told c m x → begin (kind c) ≡ begun_by (begin_by m) (more_of 0 c) x (c ∷ []) []
  unfolding begin begun_by begin_by kind_by token_of made
  begun k0 t = ap begin t.is
  begun k1 t = ap begin t.is
  begun k2 t = ap begin t.is
  begun k3 t = ap begin t.is ∙ ap (λ k. full (token_of k 0 [] [] ∷ [])) (sym t.makes)
  begun k4 t = ap begin t.is ∙ first_digit c
  begun k5 t = ap begin t.is
  begun k6 t = ap begin t.is
  begun k7 t = ap begin t.is
  begun k8 t = ap begin t.is
  begun k9 t = ap begin t.is

  pub begun_state : {m : ℕ} → Class m → Told c m x → State (begin_by m) x []
  unfolding begin_by made
  begun_state k0 t = blank
  begun_state k1 t = blank
  begun_state k2 t = bare
  begun_state k3 t = whole t.plain t.real
  begun_state k4 t = digiting
  begun_state k5 t = wording
  begun_state k6 t = subst (λ k. State 7 k []) (sym t.makes) one_plus
  begun_state k7 t = subst (λ k. State 8 k []) (sym t.makes) one_colon
  begun_state k8 t = one_dash
  begun_state k9 t = whole t.plain t.real

  pub next_state : {s k m : ℕ} {n : List ℕ} → State s k n → Class m → (next_by s m ≡ 15 → ⊥) → State (next_by s m) k (n ++ c ∷ [])
  unfolding next_by token_of
  next_state blank k0 h = absurd (h refl)
  next_state blank k1 h = absurd (h refl)
  next_state blank k2 h = absurd (h refl)
  next_state blank k3 h = absurd (h refl)
  next_state blank k4 h = absurd (h refl)
  next_state blank k5 h = absurd (h refl)
  next_state blank k6 h = absurd (h refl)
  next_state blank k7 h = absurd (h refl)
  next_state blank k8 h = absurd (h refl)
  next_state blank k9 h = absurd (h refl)
  next_state comments k0 h = comments
  next_state comments k1 h = absurd (h refl)
  next_state comments k2 h = comments
  next_state comments k3 h = comments
  next_state comments k4 h = comments
  next_state comments k5 h = comments
  next_state comments k6 h = comments
  next_state comments k7 h = comments
  next_state comments k8 h = comments
  next_state comments k9 h = comments
  next_state digiting k0 h = absurd (h refl)
  next_state digiting k1 h = absurd (h refl)
  next_state digiting k2 h = absurd (h refl)
  next_state digiting k3 h = absurd (h refl)
  next_state digiting k4 h = digiting
  next_state digiting k5 h = absurd (h refl)
  next_state digiting k6 h = absurd (h refl)
  next_state digiting k7 h = absurd (h refl)
  next_state digiting k8 h = absurd (h refl)
  next_state digiting k9 h = absurd (h refl)
  next_state wording k0 h = absurd (h refl)
  next_state wording k1 h = absurd (h refl)
  next_state wording k2 h = absurd (h refl)
  next_state wording k3 h = wording
  next_state wording k4 h = wording
  next_state wording k5 h = wording
  next_state wording k6 h = absurd (h refl)
  next_state wording k7 h = absurd (h refl)
  next_state wording k8 h = absurd (h refl)
  next_state wording k9 h = absurd (h refl)
  next_state bare k0 h = absurd (h refl)
  next_state bare k1 h = absurd (h refl)
  next_state bare k2 h = absurd (h refl)
  next_state bare k3 h = absurd (h refl)
  next_state bare k4 h = absurd (h refl)
  next_state bare k5 h = naming
  next_state bare k6 h = absurd (h refl)
  next_state bare k7 h = absurd (h refl)
  next_state bare k8 h = absurd (h refl)
  next_state bare k9 h = absurd (h refl)
  next_state naming k0 h = absurd (h refl)
  next_state naming k1 h = absurd (h refl)
  next_state naming k2 h = absurd (h refl)
  next_state naming k3 h = naming
  next_state naming k4 h = naming
  next_state naming k5 h = naming
  next_state naming k6 h = absurd (h refl)
  next_state naming k7 h = absurd (h refl)
  next_state naming k8 h = absurd (h refl)
  next_state naming k9 h = absurd (h refl)
  next_state one_plus k0 h = absurd (h refl)
  next_state one_plus k1 h = absurd (h refl)
  next_state one_plus k2 h = absurd (h refl)
  next_state one_plus k3 h = absurd (h refl)
  next_state one_plus k4 h = absurd (h refl)
  next_state one_plus k5 h = absurd (h refl)
  next_state one_plus k6 h = whole (λ value b u. refl) refl
  next_state one_plus k7 h = absurd (h refl)
  next_state one_plus k8 h = absurd (h refl)
  next_state one_plus k9 h = absurd (h refl)
  next_state one_colon k0 h = absurd (h refl)
  next_state one_colon k1 h = absurd (h refl)
  next_state one_colon k2 h = absurd (h refl)
  next_state one_colon k3 h = absurd (h refl)
  next_state one_colon k4 h = absurd (h refl)
  next_state one_colon k5 h = absurd (h refl)
  next_state one_colon k6 h = absurd (h refl)
  next_state one_colon k7 h = whole (λ value b u. refl) refl
  next_state one_colon k8 h = absurd (h refl)
  next_state one_colon k9 h = absurd (h refl)
  next_state one_dash k0 h = absurd (h refl)
  next_state one_dash k1 h = absurd (h refl)
  next_state one_dash k2 h = absurd (h refl)
  next_state one_dash k3 h = absurd (h refl)
  next_state one_dash k4 h = absurd (h refl)
  next_state one_dash k5 h = absurd (h refl)
  next_state one_dash k6 h = absurd (h refl)
  next_state one_dash k7 h = absurd (h refl)
  next_state one_dash k8 h = comments
  next_state one_dash k9 h = absurd (h refl)
  next_state (whole p r) k0 h = absurd (h refl)
  next_state (whole p r) k1 h = absurd (h refl)
  next_state (whole p r) k2 h = absurd (h refl)
  next_state (whole p r) k3 h = absurd (h refl)
  next_state (whole p r) k4 h = absurd (h refl)
  next_state (whole p r) k5 h = absurd (h refl)
  next_state (whole p r) k6 h = absurd (h refl)
  next_state (whole p r) k7 h = absurd (h refl)
  next_state (whole p r) k8 h = absurd (h refl)
  next_state (whole p r) k9 h = absurd (h refl)
