-- Laws of what specs/Order.antt defines.
use Rattle.std.specs.Prelude.{ℕ, zero, suc, ◌≤◌, ◌<◌, ◌≡◌, refl, length}
use Rattle.std.proofs.Common.{arith, sym, ap, ap₂, ◌∙◌, length-append}
use mathlib.Core.List.Permᴰ
use mathlib.Core.List.{List, [], ◌∷◌, ◌++◌, flat_map, append-nil, append_assoc}
use Rattle.rules.specs.Dialects.{Dialect}
use Rattle.forms.specs.Lists.{flat_map_append, flat_map_flat_map, flat_map_cong}
use Rattle.promises.specs.Trace.{Taken}
use Rattle.round_rules.specs.Rounds.{Branch, states}
use Rattle.round_promises.specs.Listed.{up, round, onward}
use Rattle.round_promises.specs.Tree.{comes, comes_up, up_some}
use Rattle.round_promises.specs.Permutations.{Rearranged, same, parted, rearranged_length}
use Rattle.round_promises.specs.Order.{all, first_rounds, later, none_later, order, states_onward}

all_onward : (dialect : Dialect) (bs : List Branch) → all dialect (onward dialect bs) ≡ flat_map (λ b. flat_map (comes dialect) (up dialect b.first).next) bs ++ flat_map (λ b. flat_map (comes dialect) b.others) bs
unfolding all
all_onward dialect bs = ap (flat_map (comes dialect)) (states_onward dialect bs) ∙ flat_map_append (comes dialect) (flat_map (λ b. (up dialect b.first).next) bs) (flat_map (λ b. b.others) bs)
    ∙ ap₂ {C = List Taken} (λ xs ys. xs ++ ys) (flat_map_flat_map (comes dialect) (λ b. (up dialect b.first).next) bs) (flat_map_flat_map (comes dialect) (λ b. b.others) bs)

all_parts : (dialect : Dialect) (bs : List Branch)
    → all dialect bs ≡ flat_map (λ b. (up dialect b.first).taken ++ (flat_map (comes dialect) (up dialect b.first).next ++ flat_map (comes dialect) b.others)) bs
unfolding all states flat_map
all_parts dialect bs = flat_map_flat_map (comes dialect) (λ b. b.first ∷ b.others) bs
    ∙ flat_map_cong _ _ bs (λ b. ap (λ r. r ++ flat_map (comes dialect) b.others) (comes_up dialect b.first)
    ∙ append_assoc (up dialect b.first).taken (flat_map (comes dialect) (up dialect b.first).next) (flat_map (comes dialect) b.others))

-- What waits before a round is what the round takes up and what waits after it.
pub round_rearranges : (dialect : Dialect) (bs : List Branch) → Rearranged (all dialect bs) (round dialect bs ++ all dialect (onward dialect bs))
unfolding round
round_rearranges dialect bs = Permᴰ.trans (same (all_parts dialect bs)) (Permᴰ.trans
    (parted (λ b. (up dialect b.first).taken) (λ b. flat_map (comes dialect) (up dialect b.first).next ++ flat_map (comes dialect) b.others) bs)
    (Permᴰ.trans
    (Permᴰ.append_left (round dialect bs) (parted (λ b. flat_map (comes dialect) (up dialect b.first).next) (λ b. flat_map (comes dialect) b.others) bs))
    (same (ap {B = List Taken} (λ r. round dialect bs ++ r) (sym (all_onward dialect bs))))))

-- ---- Rounds.

pub rounds_rearrange : (dialect : Dialect) (k : ℕ) (bs : List Branch) → Rearranged (all dialect bs) (first_rounds dialect k bs ++ all dialect (later dialect k bs))
unfolding first_rounds later
rounds_rearrange dialect zero bs = same refl
rounds_rearrange dialect (suc k) bs = Permᴰ.trans (round_rearranges dialect bs) (Permᴰ.trans
    (Permᴰ.append_left (round dialect bs) (rounds_rearrange dialect k (onward dialect bs))) (same (sym (append_assoc (round dialect bs) (first_rounds dialect k (onward dialect bs)) (all dialect (later dialect k (onward dialect bs)))))))

-- A round over some states takes a step.
pub round_some : (dialect : Dialect) (b : Branch) (bs : List Branch) → 1 ≤ length (round dialect (b ∷ bs))
unfolding round flat_map
round_some dialect b bs = omega (arith, length-append (up dialect b.first).taken (flat_map (λ x. (up dialect x.first).taken) bs), up_some dialect b.first)

-- (c) Each round leaves less.
pub round_less : (dialect : Dialect) (b : Branch) (bs : List Branch) → length (all dialect (onward dialect (b ∷ bs))) < length (all dialect (b ∷ bs))
round_less dialect b bs =
    omega (arith, rearranged_length (round_rearranges dialect (b ∷ bs)), length-append (round dialect (b ∷ bs)) (all dialect (onward dialect (b ∷ bs))), round_some dialect b bs)

-- So it ends: after as many rounds as there are states to take up none waits.
pub ends : (dialect : Dialect) (k : ℕ) (bs : List Branch) → length (all dialect bs) ≤ k → later dialect k bs ≡ []
unfolding later
ends dialect zero [] h = refl
ends dialect zero (b ∷ bs) h = absurd (clash (round_less dialect b bs))
  where
    clash : length (all dialect (onward dialect (b ∷ bs))) < length (all dialect (b ∷ bs)) → ⊥
    clash l = omega arith
ends dialect (suc k) [] h = none_later dialect (suc k)
ends dialect (suc k) (b ∷ bs) h = ends dialect k (onward dialect (b ∷ bs)) (omega (arith, round_less dialect b bs))

pub order_rearranges : (dialect : Dialect) (bs : List Branch) → Rearranged (all dialect bs) (order dialect bs)
unfolding order all states flat_map
order_rearranges dialect bs = Permᴰ.trans (rounds_rearrange dialect (length (all dialect bs)) bs)
    (same (ap (λ ls. order dialect bs ++ all dialect ls) (ends dialect (length (all dialect bs)) bs (omega arith)) ∙ go))
  where
    go : order dialect bs ++ all dialect [] ≡ order dialect bs
    go = append-nil (order dialect bs)
