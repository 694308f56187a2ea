-- For the code: what a table that holds the lists has to hold. Each list is what is left of the states that follow from one state, so one state and the
-- choices left stand for it; and there are no more lists than waiting states.
use Rattle.std.specs.Prelude.{ℕ, zero, suc, ◌+◌, ◌≤◌, ◌≡◌, ◌⊎◌, length}
use Rattle.std.proofs.Common.{arith, sym, ap, ◌∙◌, subst, inl, inr, ⊎_elim, length-append}
use mathlib.Core.List.Memᴰ
use mathlib.Core.List.{List, [], ◌∷◌, ◌++◌, flat_map, append_assoc}
use Rattle.rules.specs.Dialects.{Dialect}
use Rattle.rules.specs.Search.{State}
use Rattle.rules.specs.Services.{Rule}
use Rattle.rules.specs.Forms.{Value}
use Rattle.forms.specs.Lists.{Mem, of_flat_map}
use Rattle.promises.specs.Solve.{no_cons}
use Rattle.round_rules.specs.Rounds.{Branch, branch, remainders, states, waiting}
use Rattle.round_promises.specs.Listed.{up, fresh, onward}
use Rattle.round_promises.specs.Order.{later, states_onward}
use Rattle.round_promises.specs.Whole.{beginning}

-- The states ss are the last of those that follow from one state.
pub record Siblings (dialect : Dialect) (ss : List State) : Type 0 where
  pub parent : State
  pub before : List State
  pub is : (up dialect parent).next ≡ before ++ ss

branched : (ss : List State) (b : Branch) → Mem b (branch ss) → b.first ∷ b.others ≡ ss
unfolding branch
branched [] b i = absurd (Memᴰ.not-nil i)
branched (s ∷ ss) b (Memᴰ.head e) = ap (λ (x : Branch). x.first ∷ x.others) e
branched (s ∷ ss) b (Memᴰ.tail i) = absurd (Memᴰ.not-nil i)

-- A list after a round is new, or what is left of one before it.
others_siblings : (dialect : Dialect) (b : Branch) → Siblings dialect (b.first ∷ b.others) → Siblings dialect b.others
others_siblings dialect b s = record {
  parent = s.parent;
  before = s.before ++ (b.first ∷ []);
  is = s.is ∙ sym (append_assoc s.before (b.first ∷ []) b.others);
}

onward_siblings : (dialect : Dialect) (bs : List Branch) → ((b : Branch) → Mem b bs → Siblings dialect (b.first ∷ b.others) ⊎ (b.others ≡ []))
    → (b : Branch) → Mem b (onward dialect bs) → Siblings dialect (b.first ∷ b.others)
unfolding onward fresh remainders
onward_siblings dialect bs h b i = ⊎_elim new left (Memᴰ.append_cases (flat_map (λ x. branch (up dialect x.first).next) bs) i)
  where
    new : Mem b (flat_map (λ x. branch (up dialect x.first).next) bs) → Siblings dialect (b.first ∷ b.others)
    new j = let m = of_flat_map (λ (x : Branch). branch (up dialect x.first).next) bs j in
        record { parent = m.0.first; before = []; is = sym (branched (up dialect m.0.first).next b m.2) }

    left : Mem b (flat_map (λ x. branch x.others) bs) → Siblings dialect (b.first ∷ b.others)
    left j = let m = of_flat_map (λ (x : Branch). branch x.others) bs j in
        let e = branched m.0.others b m.2 in
        subst (Siblings dialect) (sym e) (⊎_elim (λ s. others_siblings dialect m.0 s) (λ z. no_cons (e ∙ z)) (h m.0 m.1))

-- A list of a round; the first list of all has one state.
abbrev Held : (dialect : Dialect) → Branch → Type 0
Held dialect b = Siblings dialect (b.first ∷ b.others) ⊎ (b.others ≡ [])

later_held : (dialect : Dialect) (k : ℕ) (bs : List Branch) → ((b : Branch) → Mem b bs → Held dialect b) → (b : Branch) → Mem b (later dialect k bs) → Held dialect b
unfolding later
later_held dialect zero bs h b i = h b i
later_held dialect (suc k) bs h b i = later_held dialect k (onward dialect bs) (λ c j. inl (onward_siblings dialect bs h c j)) b i

first_held : (dialect : Dialect) (r : Rule) (v : Value) (b : Branch) → Mem b (beginning r v) → Held dialect b
unfolding beginning branch
first_held dialect r v b (Memᴰ.head e) = inr (ap (λ (x : Branch). x.others) e)
first_held dialect r v b (Memᴰ.tail i) = absurd (Memᴰ.not-nil i)

pub lists_held : (dialect : Dialect) (r : Rule) (v : Value) (k : ℕ) (b : Branch) → Mem b (later dialect k (beginning r v)) → Siblings dialect (b.first ∷ b.others) ⊎ (b.others ≡ [])
lists_held dialect r v k = later_held dialect k (beginning r v) (first_held dialect r v)

-- No more lists than states; and how many states wait after a round, counted list by list.
pub lists_most : (bs : List Branch) → length bs ≤ waiting bs
unfolding waiting states flat_map
lists_most [] = omega arith
lists_most (b ∷ bs) = omega (arith, lists_most bs, length-append b.others (states bs))

pub waiting_onward : (dialect : Dialect) (bs : List Branch) → waiting (onward dialect bs) ≡ length (flat_map (λ b. (up dialect b.first).next) bs) + length (flat_map (λ b. b.others) bs)
unfolding waiting
waiting_onward dialect bs = ap length (states_onward dialect bs) ∙ length-append (flat_map (λ b. (up dialect b.first).next) bs) (flat_map (λ b. b.others) bs)
