-- The first element marked that passes a test, by its place. Assumes nothing.
use mathlib.Core.Path.{◌≡◌, refl, sym, ◌∙◌, ap}
use mathlib.Core.Bool.{Bool, true, false, cond}
use mathlib.Core.Option.{Option, none, some}
use mathlib.Core.Logic.{⊎_elim}
use mathlib.Core.List.Memᴰ
use mathlib.Core.List.{List, [], ◌∷◌, map, Memᴰ}
use Prim.Native.Nat.{ℕ, zero, suc, ◌/◌, ◌%◌, ◌^◌, ◌<◌}
use native.Mathlib.Omega.{arith}
use Rattle.rules.specs.Forms.{Value, Values, empty, ◌▸◌, count}
use Rattle.forms.specs.Pairing.{without_first, add_front}
use Rattle.words.specs.Marks.{positions, zero_if, clear}
use Rattle.words.specs.Marked.{nth, marked}
use Rattle.words.proofs.marks.Places.{by_digit_lem, half_lt, double_digit, double_half, digit_2, even_digit, even_half, positions_none}
use Rattle.words.proofs.marks.Marked.{marked_none}
use Rattle.value_equality.specs.Equality.{first_in}

abbrev pub first_opt : (Value → Bool) → Values → List ℕ → Option ℕ
first_opt f vs [] = none
first_opt f vs (k ∷ ks) = cond (f (nth vs k)) (some k) (first_opt f vs ks)

abbrev suc_opt : Option ℕ → Option ℕ
suc_opt none = none
suc_opt (some k) = some (suc k)

abbrev pub left_of : Values → ℕ → Option ℕ → Option Values
left_of vs m none = none
left_of vs m (some k) = some (marked vs (clear k m))

abbrev or_last : Option ℕ → ℕ
or_last none = 64
or_last (some k) = k

first_is : (f : Value → Bool) (vs : Values) (l : List ℕ) → first_in f vs l ≡ or_last (first_opt f vs l)
unfolding first_in
first_is f vs [] = refl
first_is f vs (k ∷ ks) = go (f (nth vs k)) (first_is f vs ks)
  where
    go : (t : Bool) → first_in f vs ks ≡ or_last (first_opt f vs ks) → cond t k (first_in f vs ks) ≡ or_last (cond t (some k) (first_opt f vs ks))
    go true e = refl
    go false e = e

first_suc : (f : Value → Bool) (v : Value) (vs : Values) (l : List ℕ) → first_opt f (v ▸ vs) (map suc l) ≡ suc_opt (first_opt f vs l)
unfolding nth
first_suc f v vs [] = refl
first_suc f v vs (k ∷ ks) = go (f (nth vs k)) (first_suc f v vs ks)
  where
    go : (t : Bool) → first_opt f (v ▸ vs) (map suc ks) ≡ suc_opt (first_opt f vs ks)
        → cond t (some (suc k)) (first_opt f (v ▸ vs) (map suc ks)) ≡ suc_opt (cond t (some k) (first_opt f vs ks))
    go true e = refl
    go false e = e

module _ (v : Value) (vs : Values) (m : ℕ) where
  left_even : m % 2 ≡ 0 → (o : Option ℕ) → left_of (v ▸ vs) m (suc_opt o) ≡ left_of vs (m / 2) o
  unfolding marked clear
  left_even e none = refl
  left_even e (some k) = rw (double_digit (clear k (m / 2)) (m % 2) (digit_2 m), double_half (clear k (m / 2)) (m % 2) (digit_2 m), e)

  left_odd : m % 2 ≡ 1 → (o : Option ℕ) → left_of (v ▸ vs) m (suc_opt o) ≡ add_front v (left_of vs (m / 2) o)
  unfolding marked clear add_front
  left_odd e none = refl
  left_odd e (some k) = rw (double_digit (clear k (m / 2)) (m % 2) (digit_2 m), double_half (clear k (m / 2)) (m % 2) (digit_2 m), e)

  left_zero : left_of (v ▸ vs) m (some 0) ≡ some (marked vs (m / 2))
  unfolding marked clear
  left_zero = rw (even_digit m, even_half m)

-- What is left without the first that passes: the marks without its place.
pub without_first_lem : (f : Value → Bool) (vs : Values) (k m : ℕ) → m < 2 ^ count vs → m < 2 ^ k
    → without_first f (marked vs m) ≡ left_of vs m (first_opt f vs (positions k m))
unfolding without_first marked count positions nth
without_first_lem f empty k m h l = let z : m ≡ 0 = omega arith in rw (z, positions_none k)
without_first_lem f (v ▸ vs) zero m h l = let z : m ≡ 0 = omega arith in rw (z, marked_none vs)
without_first_lem f (v ▸ vs) (suc k) m h l =
    let r = without_first_lem f vs k (m / 2) (half_lt (count vs) m h) (half_lt k m l) in
    let ps = positions k (m / 2) in
    by_digit_lem _ m
    (λ e. rw (e, first_suc f v vs ps) (r ∙ sym (left_even v vs m e (first_opt f vs ps))))
    (λ e. rw (e, first_suc f v vs ps) (go (f v) e r))
  where
    go : (t : Bool) → m % 2 ≡ 1 → without_first f (marked vs (m / 2)) ≡ left_of vs (m / 2) (first_opt f vs (positions k (m / 2)))
        → elim t as (λ _. Option Values) [ true ↦ some (marked vs (m / 2)) | false ↦ add_front v (without_first f (marked vs (m / 2))) ]
        ≡ left_of (v ▸ vs) m (cond t (some 0) (suc_opt (first_opt f vs (positions k (m / 2)))))
    go true e r = sym (left_zero v vs m)
    go false e r = ap (add_front v) r ∙ sym (left_odd v vs m e (first_opt f vs (positions k (m / 2))))

-- A place that is found is marked.
first_mem : (f : Value → Bool) (vs : Values) (l : List ℕ) (j : ℕ) → first_opt f vs l ≡ some j → Memᴰ j l
first_mem f vs [] j e = let z : ◌≡◌ {A = ℕ} 0 1 = cc in absurd (omega arith)
first_mem f vs (k ∷ ks) j e = go (f (nth vs k)) e (first_mem f vs ks j)
  where
    go : (t : Bool) → cond t (some k) (first_opt f vs ks) ≡ some j → (first_opt f vs ks ≡ some j → Memᴰ j ks) → Memᴰ j (k ∷ ks)
    go true e rec = let z : j ≡ k = cc in Memᴰ.head z
    go false e rec = Memᴰ.tail (rec e)

below : (k m j : ℕ) → Memᴰ j (positions k m) → j < k
unfolding positions
below zero m j h = absurd (Memᴰ.not-nil h)
below (suc k) m j h = go (m % 2) h (λ i. below k (m / 2) i)
  where
    up : ((i : ℕ) → Memᴰ i (positions k (m / 2)) → i < k) → Memᴰ j (map suc (positions k (m / 2))) → j < suc k
    up rec x = let r = Memᴰ.of_map suc (positions k (m / 2)) x in let d = rec r.0 r.1 in omega (arith, r.2)

    go : (b : ℕ) → Memᴰ j (zero_if b (map suc (positions k (m / 2)))) → ((i : ℕ) → Memᴰ i (positions k (m / 2)) → i < k) → j < suc k
    go zero x rec = up rec x
    go (suc b) x rec = ⊎_elim (λ z. omega arith) (λ y. up rec y) (Memᴰ.cases_cons x)

module _ (f : Value → Bool) (vs : Values) (m j : ℕ) (e : j ≡ first_in f vs (positions 64 m)) where
  pub first_found : (j ≡ 64 → ⊥) → (first_opt f vs (positions 64 m) ≡ some j) × (j < 64)
  first_found n = go (first_opt f vs (positions 64 m)) refl (e ∙ first_is f vs (positions 64 m))
    where
      go : (o : Option ℕ) → first_opt f vs (positions 64 m) ≡ o → j ≡ or_last o → (first_opt f vs (positions 64 m) ≡ some j) × (j < 64)
      go none q i = absurd (n i)
      go (some k) q i = let p : first_opt f vs (positions 64 m) ≡ some j = q ∙ ap some (sym i) in (p, below 64 m j (first_mem f vs (positions 64 m) j p))

  pub first_none : j ≡ 64 → first_opt f vs (positions 64 m) ≡ none
  first_none n = go (first_opt f vs (positions 64 m)) refl (e ∙ first_is f vs (positions 64 m))
    where
      go : (o : Option ℕ) → first_opt f vs (positions 64 m) ≡ o → j ≡ or_last o → first_opt f vs (positions 64 m) ≡ none
      go none q i = q
      go (some k) q i = let d = below 64 m k (first_mem f vs (positions 64 m) k q) in absurd (omega arith)
