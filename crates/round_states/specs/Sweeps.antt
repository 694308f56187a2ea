-- A round over the lent table, list after list: the new lists are written over those already taken up, the remainders behind all of them.
use Rattle.std.specs.Prelude.{ℕ, zero, suc, ◌+◌, ◌-◌, ◌*◌, ◌≤◌, ◌<◌, ◌≡◌, ℤ}
use native.Mathlib.Omega.{arith}
use Rattle.std.proofs.Math.Path.{refl, subst}
use Rattle.std.proofs.Common.{sym, ap, ap₂, ◌∙◌}
use mathlib.Core.List.{List, [], ◌∷◌, ◌++◌, flat_map, append-nil, append_assoc}
use Rattle.std.proofs.Math.ListN.{length, length-append}
use Rattle.rules.specs.Search as paper
use Rattle.round_rules.specs.Rounds.{Branch, branch, remainders, states, waiting, take_up, take_round, by_rounds}
use Rattle.value_rows.specs.declared.Binding.{Binding}
use Rattle.search_step.specs.declared.State.{State}
use Rattle.search.specs.Run.{Env}
use Rattle.round_table.specs.Entries.{entry_at}
use Rattle.round_states.specs.Ruled.{Ruled}
use Rattle.round_states.specs.Standing.{Used, Kept}
use Rattle.round_states.specs.Table.{nth, Lists, lists_same, lists_join}
use Rattle.round_states.specs.Taking.{Far}
use Rattle.round_states.specs.Outcomes.{Next}

-- ---- Lists counted.

pub remainders_more : (bs : List Branch) (br : Branch) → remainders (bs ++ (br ∷ [])) ≡ remainders bs ++ branch br.others
unfolding remainders flat_map
remainders_more [] br = append-nil (branch br.others)
remainders_more (x ∷ bs) br = ap (λ l. branch x.others ++ l) (remainders_more bs br) ∙ sym (append_assoc (branch x.others) (remainders bs) (branch br.others))

pub waiting_more : (bs cs : List Branch) → waiting (bs ++ cs) ≡ waiting bs + waiting cs
unfolding waiting states flat_map
waiting_more [] cs = omega arith
waiting_more (x ∷ bs) cs =
    let a = waiting_more bs cs in
    let b = length-append x.others (states (bs ++ cs)) in
    let c = length-append x.others (states bs) in
    omega arith

pub waiting_first : (br : Branch) (bs : List Branch) → waiting (br ∷ bs) ≡ suc (length br.others) + waiting bs
unfolding waiting states flat_map
waiting_first br bs = let b = length-append br.others (states bs) in omega arith

pub waiting_one : (br : Branch) → waiting (br ∷ []) ≡ suc (length br.others)
waiting_one br = waiting_first br [] ∙ none
  where
    none : suc (length br.others) + waiting [] ≡ suc (length br.others)
    none = unfold waiting states flat_map in omega arith

pub waiting_branch : (ss : List paper.State) → waiting (branch ss) ≡ length ss
unfolding branch
waiting_branch [] = unfold waiting states flat_map in refl
waiting_branch (s ∷ ss) = waiting_one (record { first = s; others = ss })

pub branch_length : (ss : List paper.State) → length (branch ss) ≤ length ss
unfolding branch
branch_length [] = omega arith
branch_length (s ∷ ss) = omega arith

pub lists_most : (bs : List Branch) → length bs ≤ waiting bs
lists_most [] = unfold waiting states flat_map in omega arith
lists_most (br ∷ bs) = let a = lists_most bs in let b = waiting_first br bs in omega arith

module _ (e : Env) (R : Ruled e) (used : ℕ) (U : Used e R used) where
  -- Within a round of `many` lists, i of them taken up: `new` are the new lists so far, `rest` those to come, and behind all lists the remainders of those
  -- that are done.
  pub record Sweeping (F : paper.Run) (rounds limit budget many : ℕ) (ws : List ℤ) (i fresh left wait : ℕ) (x : State) (room : List ℤ) : Type 0 where
    pub done : List Branch
    pub rest : List Branch
    pub new : List Branch
    pub all : length done + length rest ≡ many
    pub passed : length done ≡ i
    pub made : length new ≡ fresh
    pub over : length (remainders done) ≡ left
    pub fewer : fresh ≤ i
    pub waits : wait ≡ waiting new + (waiting rest + waiting (remainders done))
    pub most : many + left + waiting rest ≤ limit + length rest
    pub there : 825 * limit ≤ length ws
    pub new_lists : Lists e R used U ws 0 new
    pub rest_lists : Lists e R used U ws i rest
    pub left_lists : Lists e R used U ws many (remainders done)
    pub far : Far F x room (take_round e.dialect e.form (budget - x.steps) rest new (length room - x.words) (λ l nw free. by_rounds e.dialect e.form rounds limit l (nw ++ remainders (done ++ rest)) free))
    pub fuel : budget + i ≤ x.steps + suc rounds

  -- What comes after the first state of the next list.
  unfoldable pub after : (rounds limit : ℕ) (done rest new : List Branch) → Next e R
  after rounds limit done rest new l ss free =
      take_round e.dialect e.form l rest (new ++ branch ss) free (λ k nw fr. by_rounds e.dialect e.form rounds limit k (nw ++ remainders done) fr)

  -- There is a place for its remainder.
  module _ {F : paper.Run} {rounds limit budget many : ℕ} {ws : List ℤ} {i fresh left wait : ℕ} {x : State} {room : List ℤ} (S : Sweeping F rounds limit budget many ws i fresh left wait x room)
      (br : Branch) (bs : List Branch) (is : S.rest ≡ br ∷ bs) where
    pub next_kept : Kept e R used (nth e R ws i) br
    unfolding Lists
    next_kept = (subst (Lists e R used U ws i) is S.rest_lists).0

    pub next_place_lem : i < many
    next_place_lem = let a = S.all in let b = S.passed in let c = ap length is in omega arith

    pub left_place : (br.others ≡ [] → ⊥) → many + left < limit
    left_place n =
        let a = S.most in
        let b = ap waiting is ∙ waiting_first br bs in
        let c = ap length is in
        let d = lists_most bs in
        let f = some_more br.others n in
        omega arith
      where
        some_more : (ss : List paper.State) → (ss ≡ [] → ⊥) → 1 ≤ length ss
        some_more [] n = absurd (n refl)
        some_more (s ∷ ss) n = omega arith

    -- The run as it stands is that of its first state taken up.
    pub next_far : (n : ℕ) → budget - x.steps ≡ suc n
        → Far F x room (take_up e.dialect e.form n br.first (length room - x.words) (after rounds limit (S.done ++ S.rest) bs S.new))
    unfolding take_round after
    next_far n h = subst (λ (k : ℕ). Far F x room (take_round e.dialect e.form k (br ∷ bs) S.new (length room - x.words) (λ l nw free. by_rounds e.dialect e.form rounds limit l (nw ++ remainders (S.done ++ S.rest)) free))) h
        (subst (λ l. Far F x room (take_round e.dialect e.form (budget - x.steps) l S.new (length room - x.words) (λ l nw free. by_rounds e.dialect e.form rounds limit l (nw ++ remainders (S.done ++ S.rest)) free))) is S.far)

    -- ---- The list is done: its remainder stands behind the others, and what follows from its first state is new.

    abbrev done₁ : List Branch
    done₁ = S.done ++ (br ∷ [])

    same_lists : done₁ ++ bs ≡ S.done ++ S.rest
    same_lists = append_assoc S.done (br ∷ []) bs ∙ ap (λ l. S.done ++ l) (sym is)

    done_length : length done₁ ≡ suc i
    done_length = let a = length-append S.done (br ∷ []) in let b = S.passed in omega arith

    rest_length : length S.rest ≡ suc (length bs)
    rest_length = ap length is

    rest_waiting : waiting S.rest ≡ suc (length br.others) + waiting bs
    rest_waiting = ap waiting is ∙ waiting_first br bs

    -- The table after the remainder was kept: no list before it has changed.
    module _ (ws₁ : List ℤ) (long : length ws₁ ≡ length ws) (below : (k : ℕ) → k < 275 * (many + left) → entry_at ws₁ k ≡ entry_at ws k)
        (kept : Lists e R used U ws₁ many (remainders S.done ++ branch br.others)) where
      left_lists₁ : Lists e R used U ws₁ many (remainders done₁)
      left_lists₁ = subst (Lists e R used U ws₁ many) (sym (remainders_more S.done br)) kept

      left_length : length (remainders done₁) ≡ left + length (branch br.others)
      left_length =
          ap length (remainders_more S.done br) ∙ length-append (remainders S.done) (branch br.others) ∙ ap (λ n. n + length (branch br.others)) S.over

      left_waiting : waiting (remainders done₁) ≡ waiting (remainders S.done) + length br.others
      left_waiting = ap waiting (remainders_more S.done br) ∙ waiting_more (remainders S.done) (branch br.others) ∙ ap (λ n. waiting (remainders S.done) + n) (waiting_branch br.others)

      new_lists₁ : Lists e R used U ws₁ 0 S.new
      new_lists₁ = lists_same e R used U ws ws₁ 0 S.new (λ k a b. below k (let c = S.made in let d = S.fewer in let f = next_place_lem in omega arith)) S.new_lists

      rest_lists₁ : Lists e R used U ws₁ (suc i) bs
      unfolding Lists
      rest_lists₁ = lists_same e R used U ws ws₁ (suc i) bs (λ k a b. below k (let c = S.all in let d = S.passed in let f = rest_length in omega arith)) (subst (Lists e R used U ws i) is S.rest_lists).1

      most₁ : many + (left + length (branch br.others)) + waiting bs ≤ limit + length bs
      most₁ = let a = S.most in let b = rest_waiting in let c = rest_length in let d = branch_length br.others in omega arith

      module _ (x₁ : State) (room₁ : List ℤ) (later : suc x.steps ≤ x₁.steps) where
        -- Nothing follows.
        pub turned_none : Far F x₁ room₁ (after rounds limit (S.done ++ S.rest) bs S.new (budget - x₁.steps) [] (length room₁ - x₁.words))
            → Sweeping F rounds limit budget many ws₁ (suc i) fresh (left + length (branch br.others)) (wait - 1) x₁ room₁
        unfolding after branch
        turned_none far₁ = record {
          done = done₁;
          rest = bs;
          new = S.new;
          all = let a = S.all in let b = done_length in let c = rest_length in let d = S.passed in omega arith;
          passed = done_length;
          made = S.made;
          over = left_length;
          fewer = let a = S.fewer in omega arith;
          waits = let a = S.waits in let b = rest_waiting in let c = left_waiting in omega arith;
          most = most₁;
          there = let a = S.there in omega arith;
          new_lists = new_lists₁;
          rest_lists = rest_lists₁;
          left_lists = left_lists₁;
          far = subst (λ q. Far F x₁ room₁ (take_round e.dialect e.form (budget - x₁.steps) bs S.new (length room₁ - x₁.words) (λ l nw free. by_rounds e.dialect e.form rounds limit l (nw ++ remainders q) free))) (sym same_lists)
              (subst (λ q. Far F x₁ room₁ (take_round e.dialect e.form (budget - x₁.steps) bs q (length room₁ - x₁.words) (λ l nw free. by_rounds e.dialect e.form rounds limit l (nw ++ remainders (S.done ++ S.rest)) free))) (append-nil S.new) far₁);
          fuel = let a = S.fuel in omega arith;
        }

        -- A list follows, and is kept over one that was taken up.
        pub turned_some : (br₁ : Branch) → Far F x₁ room₁ (after rounds limit (S.done ++ S.rest) bs S.new (budget - x₁.steps) (br₁.first ∷ br₁.others) (length room₁ - x₁.words))
            → (ws₂ : List ℤ) → length ws₂ ≡ length ws₁ → ((k : ℕ) → k < 275 * fresh → entry_at ws₂ k ≡ entry_at ws₁ k) → ((k : ℕ) → 275 * fresh + 275 ≤ k → entry_at ws₂ k ≡ entry_at ws₁ k)
            → Kept e R used (nth e R ws₂ fresh) br₁
            → Sweeping F rounds limit budget many ws₂ (suc i) (suc fresh) (left + length (branch br.others)) (wait + length br₁.others) x₁ room₁
        unfolding after branch
        turned_some br₁ far₁ ws₂ long₂ low high kept₁ = record {
          done = done₁;
          rest = bs;
          new = S.new ++ (br₁ ∷ []);
          all = let a = S.all in let b = done_length in let c = rest_length in let d = S.passed in omega arith;
          passed = done_length;
          made = let a = length-append S.new (br₁ ∷ []) in let b = S.made in omega arith;
          over = left_length;
          fewer = let a = S.fewer in omega arith;
          waits = let a = S.waits in let b = rest_waiting in let c = left_waiting in let d = waiting_more S.new (br₁ ∷ []) in let f = waiting_one br₁ in omega arith;
          most = most₁;
          there = let a = S.there in omega arith;
          new_lists = lists_join e R used U ws₂ 0 S.new (br₁ ∷ []) (lists_same e R used U ws₁ ws₂ 0 S.new (λ k a b. low k (let c = S.made in omega arith)) new_lists₁) one_more;
          rest_lists = lists_same e R used U ws₁ ws₂ (suc i) bs (λ k a b. high k (let c = S.fewer in omega arith)) rest_lists₁;
          left_lists = lists_same e R used U ws₁ ws₂ many (remainders done₁) (λ k a b. high k (let c = S.fewer in let d = next_place_lem in omega arith)) left_lists₁;
          far = subst (λ q. Far F x₁ room₁ (take_round e.dialect e.form (budget - x₁.steps) bs (S.new ++ (br₁ ∷ [])) (length room₁ - x₁.words) (λ l nw free. by_rounds e.dialect e.form rounds limit l (nw ++ remainders q) free))) (sym same_lists) far₁;
          fuel = let a = S.fuel in omega arith;
        }
          where
            one_more : Lists e R used U ws₂ (0 + length S.new) (br₁ ∷ [])
            one_more = unfold Lists in let z : 0 + length S.new ≡ fresh = (let c = S.made in omega arith) in subst (λ n. Kept e R used (nth e R ws₂ n) br₁ × Unit {0}) (sym z) (kept₁, tt)
