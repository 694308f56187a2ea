-- Going on after a verdict: a fault ends the walk. Assumes nothing.
use mathlib.Core.Path.{◌≡◌, refl}
use mathlib.Core.Bool.{Bool, true, false, cond}
use Prim.Native.Nat.{ℕ}
use Rattle.rules.specs.Reading.{Verdict, ok, fault, ◌then◌}
use Rattle.rules.specs.Variables.{demand}

-- `bad` is the answer at a fault.
unfoldable pub after : {A R : Type 0} → (ℕ → R) → Verdict A → (A → R) → R
after bad (ok a) k = k a
after bad (fault i) k = bad i

module _ {R : Type 0} (bad : ℕ → R) where
  pub after_then : {A B : Type 0} (x : Verdict A) (f : A → Verdict B) (k : B → R) → after bad (x then f) k ≡ after bad x (λ a. after bad (f a) k)
  unfolding after ◌then◌
  after_then (ok a) f k = refl
  after_then (fault i) f k = refl

  pub after_same : {A : Type 0} (x : Verdict A) (j k : A → R) → ((a : A) → j a ≡ k a) → after bad x j ≡ after bad x k
  unfolding after
  after_same (ok a) j k e = e a
  after_same (fault i) j k e = refl

  pub after_demand : {A : Type 0} (b : Bool) (at : ℕ) (a : A) (k : A → R) → cond b (k a) (bad at) ≡ after bad (demand b at a) k
  unfolding after demand
  after_demand true at a k = refl
  after_demand false at a k = refl
