-- The rounds' order: it ends, and it is a rearrangement of all that comes from the waiting states.
use Rattle.std.specs.Prelude.{ℕ, zero, suc, ◌≡◌, refl, length}
use Rattle.std.proofs.Common.{sym, ap, ap₂, ◌∙◌}
use mathlib.Core.List.Permᴰ
use mathlib.Core.List.{List, [], ◌∷◌, ◌++◌, flat_map, append-nil}
use Rattle.rules.specs.Dialects.{Dialect}
use Rattle.rules.specs.Origins.{Bindings}
use Rattle.rules.specs.Search.{State}
use Rattle.forms.specs.Lists.{flat_map_append}
use Rattle.promises.specs.Trace.{Taken, passed, found}
use Rattle.promises.specs.Solve.{founds}
use Rattle.round_rules.specs.Rounds.{Branch, branch, remainders, states}
use Rattle.round_promises.specs.Listed.{up, round, fresh, onward}
use Rattle.round_promises.specs.Tree.{comes}
use Rattle.round_promises.specs.Permutations.{Rearranged, same, rearranged_flat_map}

-- The lists after k rounds, and what those rounds take up.
unfoldable pub later : (dialect : Dialect) → ℕ → List Branch → List Branch
unfolding onward
later dialect zero bs = bs
later dialect (suc k) bs = later dialect k (onward dialect bs)

unfoldable pub first_rounds : (dialect : Dialect) → ℕ → List Branch → List Taken
unfolding round onward
first_rounds dialect zero bs = []
first_rounds dialect (suc k) bs = round dialect bs ++ first_rounds dialect k (onward dialect bs)

-- All that comes from the waiting states, each with all that comes from it before the next.
unfoldable pub all : (dialect : Dialect) → List Branch → List Taken
unfolding flat_map comes states
all dialect bs = flat_map (comes dialect) (states bs)

-- ---- A round.

states_branches : (f : Branch → List State) (bs : List Branch) → states (flat_map (λ b. branch (f b)) bs) ≡ flat_map f bs
unfolding states flat_map branch
states_branches f [] = refl
states_branches f (b ∷ bs) =
    flat_map_append (λ (x : Branch). x.first ∷ x.others) (branch (f b)) (flat_map (λ x. branch (f x)) bs) ∙ ap₂ {C = List State} (λ xs ys. xs ++ ys) (go (f b)) (states_branches f bs)
  where
    go : (ss : List State) → flat_map (λ (x : Branch). x.first ∷ x.others) (branch ss) ≡ ss
    go [] = refl
    go (s ∷ ss) = append-nil (s ∷ ss)

-- The states that wait after a round: those that follow, and then the others.
pub states_onward : (dialect : Dialect) (bs : List Branch) → states (onward dialect bs) ≡ flat_map (λ b. (up dialect b.first).next) bs ++ flat_map (λ b. b.others) bs
unfolding onward fresh remainders states
states_onward dialect bs = flat_map_append (λ (x : Branch). x.first ∷ x.others) (flat_map (λ b. branch (up dialect b.first).next) bs) (flat_map (λ b. branch b.others) bs)
    ∙ ap₂ {C = List State} (λ xs ys. xs ++ ys) (states_branches (λ b. (up dialect b.first).next) bs) (states_branches (λ b. b.others) bs)

pub none_later : (dialect : Dialect) (k : ℕ) → later dialect k [] ≡ []
unfolding later onward fresh remainders flat_map
none_later dialect zero = refl
none_later dialect (suc k) = none_later dialect k

pub none_taken : (dialect : Dialect) (k : ℕ) → first_rounds dialect k [] ≡ []
unfolding first_rounds round onward fresh remainders flat_map
none_taken dialect zero = refl
none_taken dialect (suc k) = none_taken dialect k

-- The whole order.
unfoldable pub order : (dialect : Dialect) → List Branch → List Taken
unfolding first_rounds all
order dialect bs = first_rounds dialect (length (all dialect bs)) bs

-- ---- The rows.

unfoldable found_in : Taken → List Bindings
found_in passed = []
found_in (found e) = e ∷ []

founds_parts : (ts : List Taken) → founds ts ≡ flat_map found_in ts
unfolding founds found_in flat_map
founds_parts [] = refl
founds_parts (passed ∷ ts) = founds_parts ts
founds_parts (found e ∷ ts) = ap {B = List Bindings} (λ r. e ∷ r) (founds_parts ts)

pub founds_rearranged : {xs ys : List Taken} → Rearranged xs ys → Rearranged (founds xs) (founds ys)
founds_rearranged {xs} {ys} d = Permᴰ.trans (same (founds_parts xs)) (Permᴰ.trans (rearranged_flat_map found_in d) (same (sym (founds_parts ys))))
