-- What an answer of the tests says of the rules' judgement. Assumes nothing.
use mathlib.Core.Path.{◌≡◌, refl}
use mathlib.Core.List.{List}
use Prim.Native.Nat.{ℕ}
use native.Mathlib.Omega.{arith}
use lib.IntN.{ℤ}
use Rattle.std.specs.Prelude.{Result, Ok, Err}
use Rattle.rules.specs.Services.{Judged, accepted, refused, cause_in}
use Rattle.tests.specs.Judgements.{numbers_of, told, judgement, target_judgement}
use Rattle.tests.specs.declared.Refusal.{Refusal}

module _ {A : Type 0} (j : Judged A) (x : Result (Unit {0}) Refusal) (p : told x ≡ judgement j) where
  pub was_accepted : (u : Unit {0}) → x ≡ Ok u → (a : A) × (j ≡ accepted a)
  unfolding judgement
  was_accepted u q = go j (rw q at p)
    where
      go : (k : Judged A) → Ok u ≡ judgement k → (a : A) × (k ≡ accepted a)
      go (accepted a) e = (a, refl)
      go (refused a i) e = let z : ◌≡◌ {A = ℕ} 0 1 = cc in absurd (omega arith)

  pub was_refused : (r : Refusal) → x ≡ Err r → (j ≡ refused (numbers_of r).answer (numbers_of r).place) × ((numbers_of r).cause ≡ 0)
  unfolding judgement
  was_refused r q = go j (rw q at p)
    where
      go : (k : Judged A) → Err (numbers_of r) ≡ judgement k → (k ≡ refused (numbers_of r).answer (numbers_of r).place) × ((numbers_of r).cause ≡ 0)
      go (accepted a) e = let z : ◌≡◌ {A = ℕ} 0 1 = cc in absurd (omega arith)
      go (refused a i) e = let n : numbers_of r ≡ record { answer = a; place = i; cause = 0 } = cc in rw n (refl, refl)

module _ {A : Type 0} (ts : List ℤ) (j : Judged A) (x : Result (Unit {0}) Refusal) (p : told x ≡ target_judgement ts j) where
  pub target_was_accepted : (u : Unit {0}) → x ≡ Ok u → (a : A) × (j ≡ accepted a)
  unfolding target_judgement
  target_was_accepted u q = go j (rw q at p)
    where
      go : (k : Judged A) → Ok u ≡ target_judgement ts k → (a : A) × (k ≡ accepted a)
      go (accepted a) e = (a, refl)
      go (refused a i) e = let z : ◌≡◌ {A = ℕ} 0 1 = cc in absurd (omega arith)

  pub target_was_refused : (r : Refusal) → x ≡ Err r
      → (j ≡ refused (numbers_of r).answer (numbers_of r).place) × ((numbers_of r).cause ≡ cause_in (numbers_of r).answer ts)
  unfolding target_judgement
  target_was_refused r q = go j (rw q at p)
    where
      go : (k : Judged A) → Err (numbers_of r) ≡ target_judgement ts k
          → (k ≡ refused (numbers_of r).answer (numbers_of r).place) × ((numbers_of r).cause ≡ cause_in (numbers_of r).answer ts)
      go (accepted a) e = let z : ◌≡◌ {A = ℕ} 0 1 = cc in absurd (omega arith)
      go (refused a i) e = let n : numbers_of r ≡ record { answer = a; place = i; cause = cause_in a ts } = cc in rw n (refl, refl)
