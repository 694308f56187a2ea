-- Document 01, section 2, Fit of target to matcher, as a relation without places.
use Rattle.std.specs.Prelude.{List, [], ◌∷◌}
use Rattle.rules.specs.Forms.{Matcher, something, integer, list, multiset, tuple_of, Matchers, no_matchers, ◌▸ᵐ◌, Value, int, collection, tupled, Values, empty, ◌▸◌}
use Rattle.rules.specs.Origins.{plain}
use Rattle.rules.specs.Search.{Halves}
use Rattle.program_rules.specs.Points.{Kind, over, first_by}

-- Every element.
unfoldable pub Each : (Value → Type 0) → Values → Type 0
Each P empty = Unit {0}
Each P (v ▸ vs) = P v × Each P vs

unfoldable mutual
  unfolding Each

  pub Fitting : Matcher → Value → Type 0
  Fitting something v = Unit {0}
  Fitting integer (int x) = Unit {0}
  Fitting integer (collection vs) = ⊥
  Fitting integer (tupled vs) = ⊥
  Fitting (list m) (int x) = ⊥
  Fitting (list m) (collection vs) = Each (λ v. Fitting m v) vs
  Fitting (list m) (tupled vs) = ⊥
  Fitting (multiset m) (int x) = ⊥
  Fitting (multiset m) (collection vs) = Each (λ v. Fitting m v) vs
  Fitting (multiset m) (tupled vs) = ⊥
  Fitting (tuple_of ms) (int x) = ⊥
  Fitting (tuple_of ms) (collection vs) = ⊥
  Fitting (tuple_of ms) (tupled vs) = FittingEach ms vs

  -- As many parts as matchers, each fitting its own.
  pub FittingEach : Matchers → Values → Type 0
  FittingEach no_matchers empty = Unit {0}
  FittingEach no_matchers (v ▸ vs) = ⊥
  FittingEach (m ▸ᵐ ms) empty = ⊥
  FittingEach (m ▸ᵐ ms) (v ▸ vs) = Fitting m v × FittingEach ms vs

-- Both parts of every choice fit the matchers that they stand under.
unfoldable pub Fine : Kind → List Halves → Type 0
unfolding over first_by Fitting plain
Fine k [] = Unit {0}
Fine k (h ∷ hs) = Fitting (first_by k) (plain h.first) × Fitting (over k) (plain h.second) × Fine k hs
