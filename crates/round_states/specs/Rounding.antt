-- Rounds over the lent table: a round begins with the lists of the table, its sweep ends with those of the next, and the run stops where No. 10 says.
use Prim.Native.Nat.{ℕ, zero, suc, ◌+◌, ◌-◌, ◌*◌, ◌≤◌, ◌<◌}
use native.Mathlib.Omega.{arith}
use Rattle.std.specs.Prelude.{◌≡◌, Bool, length, leb, ℤ}
use Rattle.std.proofs.Math.Path.{refl, subst}
use Rattle.std.proofs.Common.{sym, ap, ap₂, ◌∙◌, length-append, le-leb}
use Rattle.std.proofs.Math.Bool.{true, false}
use mathlib.Core.List.{List, [], ◌∷◌, ◌++◌, flat_map, append-nil}
use Rattle.std.proofs.lemmas.Bool.{lt-leb}
use Rattle.rules.specs.Search as paper
use Rattle.rules.specs.Search.{stopped}
use Rattle.round_rules.specs.Rounds.{Branch, branch, remainders, states, waiting, take_round, by_rounds}
use Rattle.search_step.specs.declared.State.{State}
use Rattle.search.specs.Run.{Env}
use Rattle.round_table.specs.Entries.{entry_at}
use Rattle.round_states.specs.Ruled.{Ruled}
use Rattle.round_states.specs.Standing.{Used}
use Rattle.round_states.specs.Table.{Lists, lists_same, lists_moved, lists_join}
use Rattle.round_states.specs.Taking.{Far}
use Rattle.round_states.specs.Sweeps.{Sweeping, waiting_more, lists_most}

module _ (e : Env) (R : Ruled e) (used : ℕ) (U : Used e R used) where
  -- Before a round: the table's first `many` lists, of `wait` states.
  pub record Rounding (F : paper.Run) (rounds limit budget : ℕ) (ws : List ℤ) (many wait : ℕ) (x : State) (room : List ℤ) : Type 0 where
    pub all : List Branch
    pub count : length all ≡ many
    pub waits : wait ≡ waiting all
    pub there : 825 * limit ≤ length ws
    pub lists : Lists e R used U ws 0 all
    pub far : Far F x room (by_rounds e.dialect e.form rounds limit (budget - x.steps) all (length room - x.words))
    pub fuel : budget ≤ x.steps + rounds

  module _ {F : paper.Run} {rounds limit budget : ℕ} {ws : List ℤ} {many wait : ℕ} {x : State} {room : List ℤ} (r : Rounding F rounds limit budget ws many wait x room) where
    -- No state remains: 0.
    pub rounds_done : many ≡ 0 → Far F x room (stopped 0 0)
    rounds_done h = go r.all rounds (let c = r.count in omega arith) r.far
      where
        go : (bs : List Branch) (k : ℕ) → length bs ≡ 0 → Far F x room (by_rounds e.dialect e.form k limit (budget - x.steps) bs (length room - x.words)) → Far F x room (stopped 0 0)
        go [] zero z f = unfold by_rounds in f
        go [] (suc k) z f = unfold by_rounds in f
        go (b ∷ bs) k z f = absurd (omega arith)

    -- The budget is used up and states remain: 7.
    pub rounds_spent : (many ≡ 0 → ⊥) → budget ≤ x.steps → Far F x room (stopped 7 0)
    rounds_spent h m = go r.all rounds (λ z. h (let c = r.count in omega arith)) (subst (λ n. Far F x room (by_rounds e.dialect e.form rounds limit n r.all (length room - x.words))) q r.far)
      where
        q : budget - x.steps ≡ 0
        q = omega arith

        go : (bs : List Branch) (k : ℕ) → (length bs ≡ 0 → ⊥) → Far F x room (by_rounds e.dialect e.form k limit 0 bs (length room - x.words)) → Far F x room (stopped 7 0)
        go [] k z f = absurd (z refl)
        go (b ∷ bs) zero z f = unfold by_rounds in f
        go (b ∷ bs) (suc k) z f = unfold by_rounds in f

    -- The round would begin with too many states: 21.
    pub rounds_table : (many ≡ 0 → ⊥) → x.steps < budget → limit < wait → Far F x room (stopped 21 0)
    rounds_table h m l =
        go r.all rounds (budget - suc x.steps) (λ z. h (let c = r.count in omega arith)) (let a = r.waits in omega arith) (let f = r.fuel in omega arith)
        (subst (λ n. Far F x room (by_rounds e.dialect e.form rounds limit n r.all (length room - x.words))) q r.far)
      where
        q : budget - x.steps ≡ suc (budget - suc x.steps)
        q = omega arith

        go : (bs : List Branch) (k n : ℕ) → (length bs ≡ 0 → ⊥) → limit < waiting bs → 1 ≤ k → Far F x room (by_rounds e.dialect e.form k limit (suc n) bs (length room - x.words)) → Far F x room (stopped 21 0)
        go [] k n z w o f = absurd (z refl)
        go (b ∷ bs) zero n z w o f = absurd (omega arith)
        go (b ∷ bs) (suc k) n z w o f = unfold by_rounds in subst (λ q. Far F x room (elim q as (λ _. paper.Run) [ true ↦ take_round e.dialect e.form (suc n) (b ∷ bs) [] (length room - x.words) (λ l nw free. by_rounds e.dialect e.form k limit l (nw ++ remainders (b ∷ bs)) free) | false ↦ stopped 21 0 ])) (lt-leb (waiting (b ∷ bs)) limit w) f

    -- A round begins.
    pub round_begins : (k : ℕ) → rounds ≡ suc k → (many ≡ 0 → ⊥) → x.steps < budget → wait ≤ limit → Sweeping e R used U F k limit budget many ws 0 0 0 wait x room
    round_begins k e₁ h m l = record {
      done = [];
      rest = r.all;
      new = [];
      all = let c = r.count in omega arith;
      passed = refl;
      made = refl;
      over = unfold remainders flat_map in refl;
      fewer = omega arith;
      waits = unfold remainders flat_map in let a = r.waits in let b = none in omega arith;
      most = let a = r.waits in let b = r.count in let c = lists_most r.all in omega arith;
      there = r.there;
      new_lists = unfold Lists in tt;
      rest_lists = r.lists;
      left_lists = unfold remainders flat_map Lists in tt;
      far = subst (λ n. Far F x room (take_round e.dialect e.form n r.all [] (length room - x.words) (λ l nw free. by_rounds e.dialect e.form k limit l (nw ++ remainders r.all) free))) (sym q)
          (go r.all (budget - suc x.steps) (λ z. h (let c = r.count in omega arith)) (let a = r.waits in omega arith)
          (subst (λ n. Far F x room (by_rounds e.dialect e.form (suc k) limit n r.all (length room - x.words))) q (subst (λ i. Far F x room (by_rounds e.dialect e.form i limit (budget - x.steps) r.all (length room - x.words))) e₁ r.far)));
      fuel = let f = r.fuel in omega arith;
    }
      where
        q : budget - x.steps ≡ suc (budget - suc x.steps)
        q = omega arith

        none : waiting [] ≡ 0
        none = unfold waiting states flat_map in refl

        go : (bs : List Branch) (n : ℕ) → (length bs ≡ 0 → ⊥) → waiting bs ≤ limit → Far F x room (by_rounds e.dialect e.form (suc k) limit (suc n) bs (length room - x.words))
            → Far F x room (take_round e.dialect e.form (suc n) bs [] (length room - x.words) (λ l nw free. by_rounds e.dialect e.form k limit l (nw ++ remainders bs) free))
        go [] n z w f = absurd (z refl)
        go (b ∷ bs) n z w f = unfold by_rounds in subst (λ q. Far F x room (elim q as (λ _. paper.Run) [ true ↦ take_round e.dialect e.form (suc n) (b ∷ bs) [] (length room - x.words) (λ l nw free. by_rounds e.dialect e.form k limit l (nw ++ remainders (b ∷ bs)) free) | false ↦ stopped 21 0 ])) (le-leb (waiting (b ∷ bs)) limit w) f

  module _ {F : paper.Run} {rounds limit budget many : ℕ} {ws : List ℤ} {i fresh left wait : ℕ} {x : State} {room : List ℤ} (S : Sweeping e R used U F rounds limit budget many ws i fresh left wait x room) where
    -- The budget ends within the round: 7.
    pub sweep_spent : i < many → budget ≤ x.steps → Far F x room (stopped 7 0)
    sweep_spent h m = go S.rest (λ z. let a = S.all in let b = S.passed in omega arith) (subst (λ n. Far F x room (take_round e.dialect e.form n S.rest S.new (length room - x.words) (λ l nw free. by_rounds e.dialect e.form rounds limit l (nw ++ remainders (S.done ++ S.rest)) free))) q S.far)
      where
        q : budget - x.steps ≡ 0
        q = omega arith

        go : (bs : List Branch) → (length bs ≡ 0 → ⊥)
            → Far F x room (take_round e.dialect e.form 0 bs S.new (length room - x.words) (λ l nw free. by_rounds e.dialect e.form rounds limit l (nw ++ remainders (S.done ++ S.rest)) free)) → Far F x room (stopped 7 0)
        go [] z f = absurd (z refl)
        go (b ∷ bs) z f = unfold take_round in f

    -- All lists are done: the new lists, and behind them the remainders, are those of the next round.
    pub sweep_ends : many ≤ i → 1 ≤ many → (ws₁ : List ℤ) → length ws₁ ≡ length ws → ((k : ℕ) → k < 275 * fresh → entry_at ws₁ k ≡ entry_at ws k)
        → ((q k : ℕ) → q < left → k < 3 + used → entry_at ws₁ (275 * (fresh + q) + k) ≡ entry_at ws (275 * (many + q) + k)) → Rounding F rounds limit budget ws₁ (fresh + left) wait x room
    sweep_ends h o ws₁ long low moved = record {
      all = S.new ++ remainders S.done;
      count = let a = length-append S.new (remainders S.done) in let b = S.made in let c = S.over in omega arith;
      waits = let a = S.waits in let b = waiting_more S.new (remainders S.done) in let c = ap waiting none_left in let d = no_waiting in omega arith;
      there = let a = S.there in omega arith;
      lists = lists_join e R used U ws₁ 0 S.new (remainders S.done) (lists_same e R used U ws ws₁ 0 S.new (λ k a b. low k (let c = S.made in omega arith)) S.new_lists)
          (subst (λ n. Lists e R used U ws₁ n (remainders S.done)) (let c = S.made in omega arith) (lists_moved e R used U ws ws₁ many fresh (remainders S.done) (λ q k a m. moved q k (let c = S.over in omega arith) m) S.left_lists));
      far = go (budget - x.steps) S.rest none_left S.far;
      fuel = let f = S.fuel in omega arith;
    }
      where
        empty : (bs : List Branch) → length bs ≡ 0 → bs ≡ []
        empty [] z = refl
        empty (b ∷ bs) z = absurd (omega arith)

        none_left : S.rest ≡ []
        none_left = empty S.rest (let a = S.all in let b = S.passed in omega arith)

        no_waiting : waiting [] ≡ 0
        no_waiting = unfold waiting states flat_map in refl

        go : (n : ℕ) (bs : List Branch) → bs ≡ [] → Far F x room (take_round e.dialect e.form n bs S.new (length room - x.words) (λ l nw free. by_rounds e.dialect e.form rounds limit l (nw ++ remainders (S.done ++ bs)) free))
            → Far F x room (by_rounds e.dialect e.form rounds limit n (S.new ++ remainders S.done) (length room - x.words))
        go zero bs z f = unfold take_round in subst (λ q. Far F x room (by_rounds e.dialect e.form rounds limit zero (S.new ++ remainders q) (length room - x.words))) (append-nil S.done) (subst (λ bs. Far F x room (take_round e.dialect e.form zero bs S.new (length room - x.words) (λ l nw free. by_rounds e.dialect e.form rounds limit l (nw ++ remainders (S.done ++ bs)) free))) z f)
        go (suc n) bs z f = unfold take_round in subst (λ q. Far F x room (by_rounds e.dialect e.form rounds limit (suc n) (S.new ++ remainders q) (length room - x.words))) (append-nil S.done) (subst (λ bs. Far F x room (take_round e.dialect e.form (suc n) bs S.new (length room - x.words) (λ l nw free. by_rounds e.dialect e.form rounds limit l (nw ++ remainders (S.done ++ bs)) free))) z f)
