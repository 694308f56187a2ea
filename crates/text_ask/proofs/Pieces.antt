-- The pieces of a text, which come one by one. Assumes nothing.
use Rattle.std.proofs.Common.{◌≡◌, refl, sym, ap, subst, Bool, true, false, List, [], ◌∷◌, Option, Some, None, is_some, ℕ, ◌<◌, length, eqb, arith}
use Rattle.std.specs.Fn.{CalledAt}
use Rattle.std.specs.Iterator.Runs.{Run, EachRunFrom}
use Rattle.std.specs.Slice.Iter.{split_steps, split_rest, split_done, split_callee}
use Rattle.std.proofs.lemmas.Iterator.{YieldsList}
use Rattle.std.proofs.lemmas.Iterator.Splits.{YieldsList-from_slice_split}
use denote.Param.Members.{Mut}
use denote.Ref.{Bor}
use Rattle.text_number.specs.Decimal.{split}

-- The pieces between the bytes c. The first fact says which closure finds these.
pub pieces : {F : Type 0} {s : _} {g : Mut F (Bor ℕ × Unit {0}) Bool} {f : F} {P : Run (split_steps g) → Type 0} → EachRunFrom (split_steps g) s P → (c : ℕ) (text : List ℕ)
    → split_rest s ≡ text → split_done s ≡ false → split_callee s ≡ f → ((x : ℕ) (b : Bool) (q : F) → CalledAt g f x b q → (q ≡ f) × (b ≡ eqb x c))
    → YieldsList (split_steps g) (λ x. x.now) s (split c text)
unfolding split
pieces {g = g} runs c text rest done closure test = YieldsList-from_slice_split g (λ b. eqb b c) text rest done closure test

-- A piece came: it is the first of the list, and the others are still to come.
pub record Taken {S A B : Type 0} (steps : S → Option A → S → Type 0) (v : A → B) (t : S) (y : B) (ys : List B) : Type 0 where
  pub others : List B
  pub is : ys ≡ y ∷ others
  pub on : YieldsList steps v t others

module _ {S A B : Type 0} {steps : S → Option A → S → Type 0} {v : A → B} {s : S} where
  pub taken : {ys : List B} (e : YieldsList steps v s ys) (r : Option A) (t : S) (x : A) → r ≡ Some x → steps s r t → Taken steps v t (v x) ys
  taken {ys = []} e r t x q p = absurd (e.runs x t (subst (λ o. steps s o t) q p))
  taken {ys = y ∷ ys} e r t x q p = let h = e.runs.1 x t (subst (λ o. steps s o t) q p) in record { others = ys; is = ap (λ z. z ∷ ys) (sym h.0); on = record { runs = h.1 } }

  pub ended : {ys : List B} (e : YieldsList steps v s ys) (r : Option A) (t : S) → r ≡ None → steps s r t → ys ≡ []
  ended {ys = []} e r t q p = refl
  ended {ys = y ∷ ys} e r t q p = absurd (e.runs.0 t (subst (λ o. steps s o t) q p))

  pub none_left : {ys : List B} (e : YieldsList steps v s ys) (r : Option A) (t : S) → is_some r ≡ false → steps s r t → ys ≡ []
  none_left e None t q p = ended e None t refl p
  none_left e (Some x) t q p = cc

  pub some_left : {ys : List B} (e : YieldsList steps v s ys) (r : Option A) (t : S) → is_some r ≡ true → steps s r t → 0 < length ys
  some_left e None t q p = cc
  some_left e (Some x) t q p = let h = taken e (Some x) t x refl p in omega (arith, ap length h.is)
