-- The rows of the states in the order in which they are taken up are those of the good ways, in order.
use Rattle.std.specs.Prelude.{ℕ, ◌≡◌}
use Rattle.std.proofs.Common.{suc-ne-zero, sym}
use mathlib.Core.List.{List, [], ◌∷◌}
use Rattle.rules.specs.Origins.{Bindings}
use Rattle.promises.specs.Trace.{Taken, passed, found, Met, taken, ended}

-- The bindings of the states with no atom left.
unfoldable pub founds : List Taken → List Bindings
founds [] = []
founds (passed ∷ ts) = founds ts
founds (found e ∷ ts) = e ∷ founds ts

-- ---- Of what is met, the states whose row is found and the ends of searches inside a not.

unfoldable pub stops : List Met → List Met
stops [] = []
stops (taken passed ∷ ms) = stops ms
stops (taken (found e) ∷ ms) = taken (found e) ∷ stops ms
stops (ended ∷ ms) = ended ∷ stops ms

pub no_cons : {A B : Type 0} {x : A} {xs : List A} → x ∷ xs ≡ [] → B
no_cons e = let z : ◌≡◌ {A = ℕ} 0 1 = cc in absurd (suc-ne-zero 0 (sym z))

pub not_ended : {A : Type 0} {t : Taken} {ms ns : List Met} → taken t ∷ ms ≡ ended ∷ ns → A
not_ended e = let z : ◌≡◌ {A = ℕ} 0 1 = cc in absurd (suc-ne-zero 0 (sym z))
