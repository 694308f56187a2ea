-- One list of a round, and all of them, as the code asks for it.
use Prim.Native.Nat.{ℕ, zero, suc, ◌+◌, ◌-◌, ◌*◌, ◌^◌, ◌≤◌, ◌<◌}
use native.Mathlib.Omega.{arith}
use borrow.Author.Rules.{rules}
use mathlib.Core.Path.{◌≡◌, refl, sym, ap, ◌∙◌, subst}
use mathlib.Core.Logic.{◌⊎◌, inl, inr, ⊎_elim}
use mathlib.Core.Bool.{Bool, true, false}
use mathlib.Core.List.{List, [], ◌∷◌, ◌++◌}
use lib.ListN.{length, get_or, take}
use lib.Dec.{leb}
use lib.IntN.{ℤ}
use Rattle.std.specs.Prelude.{Option, Some, None}
use Rattle.rules.specs.Dialects.{Dialect}
use Rattle.rules.specs.Rows.{Form, row}
use Rattle.rules.specs.Search as paper
use Rattle.rules.specs.Search.{atom, end_of_not, state, stopped, step, row_step}
use Rattle.round_rules.specs.Rounds.{Branch, branch, remainders, waiting, take_up}
use Rattle.tables.specs.Slot.{view_of}
use Rattle.value_rows.specs.declared.Binding.{Binding}
use Rattle.search_step.specs.declared.State.{State}
use Rattle.search.specs.Run.{Env, run}
use Rattle.search.specs.Stops.{number_of}
use Rattle.search.specs.declared.stop.Stop.{Stop}
use Rattle.search.specs.declared.stop.Stop.TheVariants.{Budget, Room}
use Rattle.search.proofs.Whole as whole
use Rattle.round_table.specs.Entries.{entry_at}
use Rattle.round_lists.specs.Lists.{Framed, Stored}
use Rattle.round_states.specs.Ruled.{Ruled}
use Rattle.round_states.specs.Standing.{Clean, Standing, Used, Kept}
use Rattle.round_states.specs.Counts.{choices_in, others_count}
use Rattle.round_states.specs.Table.{nth, kept_is, kept_same, framed, Lists, lists_same, lists_join}
use Rattle.round_states.specs.Taking.{Far, on}
use Rattle.round_states.specs.Outcomes.{Next, Outcome}
use Rattle.round_states.specs.Sweeps.{Sweeping, after, next_kept, next_far, left_place, turned_none, turned_some, lists_most, waiting_first}
use Rattle.round_states.specs.Rounding.{sweep_spent}
use Rattle.search_rounds.specs.Firsts.{Firsts, TookBy}
use Rattle.search_rounds.specs.declared.first.Taken.{Taken}
use Rattle.round_sweep.specs.Frames.{Framing}
use Rattle.round_sweep.specs.Rests.{Rests, Rested}
use Rattle.round_sweep.specs.Turns.{Course, stopped_at, Swept, Midway, Following, Followed, Turning, GivenUp, Turned, Sweeps, SweptBy}
use Rattle.round_sweep.specs.declared.turn.Sweep.{Sweep}

-- A stop is one.
pub some_none : (a : Stop) → ◌≡◌ {A = Option Stop} (Some a) None → ⊥
some_none a z = absurd (cc)

-- A state that is neither the last nor one whose row does not fit stands.
lives : {n : ℕ} → (n ≡ 3 → ⊥) → (n ≡ 0 → ⊥) → (n ≡ 0) ⊎ ((n ≡ 1) ⊎ (n ≡ 3)) → n ≡ 1
lives a b p = ⊎_elim (λ z. absurd (b z)) (⊎_elim (λ z. z) (λ z. absurd (a z))) p

-- ---- What follows is kept.

module _ {e : Env} {used : ℕ} {t : Taken} {fresh left wait : ℕ} {ws : List ℤ} {slots : List ℕ} where
  -- An end of the run.
  ended : (a : Stop) → (w : Sweep) → w ≡ stopped_at t.state t.binds a
      → ((C : Course e used) (budget many i : ℕ) (room : List ℤ) → Midway e used C budget many i fresh left wait t ws slots room → Far C.whole t.state room (stopped (number_of (Some a)) 0))
      → Followed e used t fresh left wait ws ws slots w
  ended a w q f = record {
    long = refl;
    swept = λ C budget many i room M. subst (λ (v : Sweep). Swept e used C budget many (suc i) v ws slots room) (sym q) (unfold stopped_at in record {
      clean = M.outcome.clean;
      words = M.outcome.words;
      counts = M.outcome.counts;
      most = M.outcome.most;
      kept = M.outcome.kept;
      few = omega arith;
      later = λ z. absurd (cc);
      goes = λ z. absurd (cc);
      stops = λ z. f C budget many i room M;
    });
  }

  pub follow_spent : (w : Sweep) → t.spent ≡ true → w ≡ stopped_at t.state t.binds Budget → Followed e used t fresh left wait ws ws slots w
  follow_spent w h q = ended Budget w q (λ C budget many i room M. (M.outcome.over h).0)

  pub follow_full : (w : Sweep) → t.spent ≡ false → t.state.live ≡ 3 → w ≡ stopped_at t.state t.binds Room → Followed e used t fresh left wait ws ws slots w
  follow_full w h l q = ended Room w q (λ C budget many i room M. M.outcome.full h l)

  pub follow_none : t.spent ≡ false → t.state.live ≡ 0
      → Followed e used t fresh left wait ws ws slots (record { state = t.state; binds = t.binds; fresh = fresh; left = left; waiting = wait - 1; stop = None })
  follow_none h l = record {
    long = refl;
    swept = λ C budget many i room M. record {
      clean = M.outcome.clean;
      words = M.outcome.words;
      counts = M.outcome.counts;
      most = M.outcome.most;
      kept = M.outcome.kept;
      few = let f = M.few in omega arith;
      later = λ z. M.later;
      goes = λ z. M.none (M.outcome.none h l);
      stops = λ z. absurd (z refl);
    };
  }

  module _ (h : t.spent ≡ false) (n₃ : t.state.live ≡ 3 → ⊥) (n₀ : t.state.live ≡ 0 → ⊥) where
    module _ (P : Following e used t fresh left wait ws slots) where
      standing : Standing e P.course.ruled t.state slots t.binds (P.mid.outcome.some h (lives n₃ n₀ P.mid.outcome.phase)).0
      standing = (P.mid.outcome.some h (lives n₃ n₀ P.mid.outcome.phase)).2

      pub follow_framed : Framed e.arg slots t.state.top
      follow_framed = framed e P.course.ruled standing

      pub follow_framing : Framing e.op e.arg slots t.state.top
      follow_framing = record { slotted = follow_framed.slotted; within = λ n o. (standing.frames.last.frame n).within o }

    pub follow_some : (new : List ℤ) (more : ℕ) → Stored ws new fresh e.vars used t.state (view_of e.arg slots) slots t.binds
        → more ≡ choices_in e.op t.state.top (view_of e.arg slots) → more ≤ 65
        → Followed e used t fresh left wait ws new slots (record { state = t.state; binds = t.binds; fresh = fresh + 1; left = left; waiting = wait + more; stop = None })
    follow_some new more st q l = record {
      long = st.long;
      swept = λ C budget many i room M.
          let s = M.outcome.some h (lives n₃ n₀ M.outcome.phase) in
          record {
            clean = M.outcome.clean;
            words = M.outcome.words;
            counts = M.outcome.counts;
            most = M.outcome.most;
            kept = M.outcome.kept;
            few = let f = M.few in omega arith;
            later = λ z. M.later;
            goes = λ z.
                let o = others_count e C.ruled t.state slots t.binds s.0 s.2 in
                let p : wait + length s.0.others ≡ wait + more = ap (λ k. wait + k) (sym (q ∙ o)) in
                let y : suc fresh ≡ fresh + 1 = omega arith in
                subst (λ k. Sweeping e C.ruled used C.uses C.whole C.rounds C.limit budget many new (suc i) k left (wait + more) t.state room) y
                (subst (λ k. Sweeping e C.ruled used C.uses C.whole C.rounds C.limit budget many new (suc i) (suc fresh) left k t.state room) p
                (M.some s.0 s.1 new st.long st.below st.above (kept_is e C.ruled used C.uses t.state slots t.binds s.0 s.2 ws new fresh st)));
            stops = λ z. absurd (z refl);
          };
    }

-- ---- One list.

module _ (e : Env) (R : Ruled e) (used : ℕ) (U : Used e R used) {F : paper.Run} {rounds limit budget many : ℕ} {ws : List ℤ} {i fresh left wait : ℕ} {x : State} {room : List ℤ}
    (S : Sweeping e R used U F rounds limit budget many ws i fresh left wait x room) where
  pub left_few : many + left ≤ limit
  left_few = let a = S.most in let b = lists_most S.rest in omega arith

  -- There is a list to come.
  next_list : i < many → (br : Branch) × (bs : List Branch) × (S.rest ≡ br ∷ bs)
  next_list h = go S.rest (λ z. let a = S.all in let b = S.passed in omega arith)
    where
      go : (l : List Branch) → (length l ≡ 0 → ⊥) → (br : Branch) × (bs : List Branch) × (l ≡ br ∷ bs)
      go [] n = absurd (n refl)
      go (br ∷ bs) n = (br, bs, refl)

-- A state that was taken up has taken a step, whatever comes next.
module _ (dialect : Dialect) (f : Form) (n : ℕ) (free : ℕ) (next : ℕ → List paper.State → ℕ → paper.Run) where
  row_takes : (b : Bool) (ws : List ℤ) (r : paper.Run) → 1 ≤ (elim b as (λ _. paper.Run) [ true ↦ row_step ws r | false ↦ stopped 8 1 ]).steps
  unfolding row_step stopped
  row_takes true ws r = omega arith
  row_takes false ws r = omega arith

  takes : (s : paper.State) → 1 ≤ (take_up dialect f n s free next).steps
  unfolding take_up step
  takes (state g [] b) = row_takes (leb (length (row f b)) free) (row f b) _
  takes (state g (end_of_not ∷ older) b) = omega arith
  takes (state g (atom p m v ∷ older) b) = omega arith

took_later : (e : Env) (R : Ruled e) (used : ℕ) → Used e R used → (ws : List ℤ) (r budget : ℕ) (x₀ : State) (slots₀ : List ℕ) (b₀ : List Binding) (room₀ : List ℤ) (spent : Bool) (x : State) (slots : List ℕ) (b : List Binding) (room : List ℤ)
    → TookBy e used ws r budget x₀ slots₀ b₀ room₀ spent x slots b room → (br : Branch) → Kept e R used (nth e R ws r) br → Clean e R slots₀ b₀ → suc x₀.steps ≤ x.steps
unfolding TookBy Far on stopped
took_later e R used U ws r budget x₀ slots₀ b₀ room₀ spent x slots b room T br K C =
    let next : Next e R = λ l ss free. stopped 0 0 in
    let u = take_up e.dialect e.form (budget - suc x₀.steps) br.first (length room₀ - x₀.words) next in
    let a = takes e.dialect e.form (budget - suc x₀.steps) (length room₀ - x₀.words) next br.first in
    let F = on x₀.rows x₀.steps (take x₀.words room₀) u in
    let o = T R U br K C F next room₀ (record { long = refl; after = refl }) refl in
    go spent o a
  where
    F₀ : paper.Run
    F₀ = on x₀.rows x₀.steps (take x₀.words room₀) (take_up e.dialect e.form (budget - suc x₀.steps) br.first (length room₀ - x₀.words) (λ l ss free. stopped 0 0))

    same : (a : ℕ) → F₀ ≡ on x.rows x.steps (take x.words room) (stopped a 0) → 1 ≤ (take_up e.dialect e.form (budget - suc x₀.steps) br.first (length room₀ - x₀.words) (λ l ss free. stopped 0 0)).steps
        → suc x₀.steps ≤ x.steps
    same a q h = let p = ap (λ (r : paper.Run). r.steps) q in omega arith

    go : (spent : Bool) → Outcome e R F₀ budget (λ l ss free. stopped 0 0) room₀ spent x slots b room
        → 1 ≤ (take_up e.dialect e.form (budget - suc x₀.steps) br.first (length room₀ - x₀.words) (λ l ss free. stopped 0 0)).steps → suc x₀.steps ≤ x.steps
    go true o h = same 7 (o.over refl).0 h
    go false o h = ⊎_elim (λ z. same 0 (o.none refl z) h) (⊎_elim (λ z. same 0 (o.some refl z).1 h) (λ z. same 8 (o.full refl z) h)) o.phase

module _ {e : Env} {used budget many i : ℕ} {w : Sweep} {ws : List ℤ} {slots : List ℕ} {room : List ℤ} (inside : i < many) (going : w.stop ≡ None) where
  -- The budget is used up.
  pub turn_spent : budget ≤ w.state.steps → (v : Sweep) → v ≡ stopped_at w.state w.binds Budget → Turned e used budget many i w ws slots room v ws slots room
  turn_spent m v q = record {
    long = refl;
    swept = λ C S. subst (λ (v : Sweep). Swept e used C budget many (suc i) v ws slots room) (sym q) (unfold stopped_at in record {
      clean = S.clean;
      words = S.words;
      counts = S.counts;
      most = S.most;
      kept = S.kept;
      few = omega arith;
      later = λ z. absurd (cc);
      goes = λ z. absurd (cc);
      stops = λ z. sweep_spent e C.ruled used C.uses (S.goes going) inside m;
    });
  }

  module _ (C : Course e used) (S : Swept e used C budget many i w ws slots room) where
    abbrev sweeping : Sweeping e C.ruled used C.uses C.whole C.rounds C.limit budget many ws i w.fresh w.left w.waiting w.state room
    sweeping = S.goes going

    list : (br : Branch) × (bs : List Branch) × (sweeping.rest ≡ br ∷ bs)
    list = next_list e C.ruled used C.uses sweeping inside

    place : 825 * i + 825 ≤ length ws
    place = let a = sweeping.there in let b = left_few e C.ruled used C.uses sweeping in omega arith

    pub turn_left : many + w.left ≤ C.limit
    turn_left = left_few e C.ruled used C.uses sweeping

    kept₀ : Kept e C.ruled used (nth e C.ruled ws i) list.0
    kept₀ = next_kept e C.ruled used C.uses sweeping list.0 list.1 list.2

    pub turn_rests : Rests e used ws i (many + w.left) w.state slots w.binds
    turn_rests = record {
      ruled = C.ruled;
      uses = C.uses;
      br = list.0;
      kept = kept₀;
      clean = S.clean;
      apart = omega arith;
      here = place;
      there = λ n. let a = left_place e C.ruled used C.uses sweeping list.0 list.1 list.2 n in let b = sweeping.there in omega arith;
      counts = S.counts;
    }

    module _ (ws₁ : List ℤ) (more : ℕ) (slots₁ : List ℕ) (b₁ : List Binding) (r : Rested e used ws ws₁ i (many + w.left) more slots slots₁ w.binds b₁) where
      kept₁ : Kept e C.ruled used (nth e C.ruled ws₁ i) list.0
      kept₁ = kept_same e C.ruled used C.uses (nth e C.ruled ws i) (nth e C.ruled ws₁ i) list.0 (λ k h. r.below (275 * i + k) (let u = C.uses.most in omega arith)) kept₀

      clean₁ : Clean e C.ruled slots₁ b₁
      clean₁ = r.clean C.ruled C.uses list.0 kept₀ S.clean

      pub turn_firsts : w.state.steps < budget → Firsts e used ws₁ i budget w.state slots₁ b₁ room
      turn_firsts m = record {
        ruled = C.ruled;
        uses = C.uses;
        br = list.0;
        kept = kept₁;
        clean = clean₁;
        there = let a = place in let b = r.long in omega arith;
        words = S.words;
        counts = S.counts;
        steps = m;
      }

      lists₁ : Lists e C.ruled used C.uses ws₁ many (remainders sweeping.done ++ branch list.0.others)
      lists₁ = lists_join e C.ruled used C.uses ws₁ many (remainders sweeping.done) (branch list.0.others)
          (lists_same e C.ruled used C.uses ws ws₁ many (remainders sweeping.done) (λ k a b. r.below k (let c = sweeping.over in omega arith)) sweeping.left_lists)
          (subst (λ n. Lists e C.ruled used C.uses ws₁ (many + n) (branch list.0.others)) (sym sweeping.over) (r.lists C.ruled C.uses list.0 kept₀ S.clean))

      module _ (t : Taken) (slots₂ : List ℕ) (room₂ : List ℤ) (m : w.state.steps < budget)
          (k : TookBy e used ws₁ i budget w.state slots₁ b₁ room t.spent t.state slots₂ t.binds room₂) where
        abbrev next₁ : Next e C.ruled
        next₁ = after e C.ruled used C.uses C.rounds C.limit (sweeping.done ++ sweeping.rest) list.1 sweeping.new

        outcome₁ : Outcome e C.ruled C.whole budget next₁ C.base t.spent t.state slots₂ t.binds room₂
        unfolding TookBy
        outcome₁ = k C.ruled C.uses list.0 kept₁ clean₁ C.whole next₁ C.base (record { long = S.kept.long; after = S.kept.after })
            (next_far e C.ruled used C.uses sweeping list.0 list.1 list.2 (budget - suc w.state.steps) (omega arith))

        later₁ : suc w.state.steps ≤ t.state.steps
        later₁ = took_later e C.ruled used C.uses ws₁ i budget w.state slots₁ b₁ room t.spent t.state slots₂ t.binds room₂ k list.0 kept₁ clean₁

        more_is : w.left + length (branch list.0.others) ≡ w.left + more
        more_is = ap (λ n. w.left + n) (sym (r.count C.ruled C.uses list.0 kept₀))

        pub turn_midway : Midway e used C budget many i w.fresh (w.left + more) w.waiting t ws₁ slots₂ room₂
        turn_midway = record {
          next = next₁;
          outcome = outcome₁;
          place = let a = place in let b = sweeping.fewer in let c = r.long in omega arith;
          early = sweeping.fewer;
          few = S.few;
          one = let a = sweeping.waits in let b = ap waiting list.2 ∙ waiting_first list.0 list.1 in omega arith;
          later = let a = S.later going in let b = later₁ in omega arith;
          none = λ far. subst (λ n. Sweeping e C.ruled used C.uses C.whole C.rounds C.limit budget many ws₁ (suc i) w.fresh n (w.waiting - 1) t.state room₂) more_is
              (turned_none e C.ruled used C.uses sweeping list.0 list.1 list.2 ws₁ r.long r.below lists₁ t.state room₂ later₁ far);
          some = λ br far new long low high kept. subst (λ n. Sweeping e C.ruled used C.uses C.whole C.rounds C.limit budget many new (suc i) (suc w.fresh) n (w.waiting + length br.others) t.state room₂) more_is
              (turned_some e C.ruled used C.uses sweeping list.0 list.1 list.2 ws₁ r.long r.below lists₁ t.state room₂ later₁ br far new long low high kept);
        }

  pub turn_given_up : (ws₁ : List ℤ) (more : ℕ) (slots₁ : List ℕ) (b₁ : List Binding) → Rested e used ws ws₁ i (many + w.left) more slots slots₁ w.binds b₁ → (t : Taken) (slots₂ : List ℕ) (room₂ : List ℤ)
      → w.state.steps < budget → TookBy e used ws₁ i budget w.state slots₁ b₁ room t.spent t.state slots₂ t.binds room₂ → GivenUp e used budget many i w ws slots room t more ws₁ slots₂ room₂
  turn_given_up ws₁ more slots₁ b₁ r t slots₂ room₂ m k = record { long = r.long; few = r.few; midway = λ C S. turn_midway C S ws₁ more slots₁ b₁ r t slots₂ room₂ m k }

module _ {e : Env} {used budget many i : ℕ} {w : Sweep} {ws : List ℤ} {slots : List ℕ} {room : List ℤ} {t : Taken} {more : ℕ} {ws₁ : List ℤ} {slots₁ : List ℕ} {room₁ : List ℤ}
    (g : GivenUp e used budget many i w ws slots room t more ws₁ slots₁ room₁) where
  pub turn_following : Turning e used budget many i w ws slots room → Following e used t w.fresh (w.left + more) w.waiting ws₁ slots₁
  turn_following P = record {
    course = P.course;
    budget = budget;
    many = many;
    i = i;
    room = room₁;
    mid = g.midway P.course P.swept;
    small = P.small;
    index = let a = P.inside in let b = P.most in omega arith;
  }

  -- What has come of the list.
  pub turn_done : (ws₂ : List ℤ) (v : Sweep) → Followed e used t w.fresh (w.left + more) w.waiting ws₁ ws₂ slots₁ v → Turned e used budget many i w ws slots room v ws₂ slots₁ room₁
  turn_done ws₂ v f = record { long = f.long ∙ g.long; swept = λ C S. f.swept C budget many i room₁ (g.midway C S) }

-- ---- All lists.

-- i lists are done.
pub record SweptTo (e : Env) (used budget many : ℕ) (w₀ : Sweep) (ws₀ : List ℤ) (slots₀ : List ℕ) (room₀ : List ℤ) (i : ℕ) (w : Sweep) (ws : List ℤ) (slots : List ℕ) (room : List ℤ) : Type 0 where
  pub within : i ≤ many
  pub long : length ws ≡ length ws₀
  pub swept : (C : Course e used) → Swept e used C budget many 0 w₀ ws₀ slots₀ room₀ → Swept e used C budget many i w ws slots room

pub swept_none : (e : Env) (used budget many : ℕ) (w : Sweep) (ws : List ℤ) (slots : List ℕ) (room : List ℤ) → SweptTo e used budget many w ws slots room 0 w ws slots room
swept_none e used budget many w ws slots room = record { within = omega arith; long = refl; swept = λ C S. S }

module _ {e : Env} {used budget many : ℕ} {w₀ : Sweep} {ws₀ : List ℤ} {slots₀ : List ℕ} {room₀ : List ℤ} {i : ℕ} {w : Sweep} {ws : List ℤ} {slots : List ℕ} {room : List ℤ}
    (T : SweptTo e used budget many w₀ ws₀ slots₀ room₀ i w ws slots room) where
  pub swept_room : Sweeps e used budget many w₀ ws₀ slots₀ room₀ → length room ≡ length room₀
  swept_room P = (T.swept P.course P.swept).kept.long ∙ sym P.swept.kept.long

  pub swept_turning : Sweeps e used budget many w₀ ws₀ slots₀ room₀ → w.stop ≡ None → i < many → Turning e used budget many i w ws slots room
  swept_turning P h l = record {
    course = P.course;
    swept = T.swept P.course P.swept;
    going = h;
    small = P.small;
    inside = l;
    most = P.most;
  }

  pub swept_next : i < many → (w' : Sweep) (ws' : List ℤ) (slots' : List ℕ) (room' : List ℤ) → Turned e used budget many i w ws slots room w' ws' slots' room'
      → SweptTo e used budget many w₀ ws₀ slots₀ room₀ (i + 1) w' ws' slots' room'
  swept_next l w' ws' slots' room' t = record {
    within = omega arith;
    long = t.long ∙ T.long;
    swept = λ C S. let z : suc i ≡ i + 1 = omega arith in subst (λ n. Swept e used C budget many n w' ws' slots' room') z (t.swept C (T.swept C S));
  }

  pub swept_all : many ≤ i → SweptBy e used budget many w₀ ws₀ slots₀ room₀ w ws slots room
  swept_all h = record {
    long = T.long;
    swept = λ C S. let l = T.within in let z : i ≡ many = omega arith in subst (λ n. Swept e used C budget many n w ws slots room) z (T.swept C S);
  }

  pub swept_stopped : (a : Stop) → w.stop ≡ Some a → SweptBy e used budget many w₀ ws₀ slots₀ room₀ w ws slots room
  swept_stopped a n = record {
    long = T.long;
    swept = λ C S.
        let s = T.swept C S in
        record {
          clean = s.clean;
          words = s.words;
          counts = s.counts;
          most = s.most;
          kept = s.kept;
          few = let f = s.few in let l = T.within in omega arith;
          later = λ z. absurd (some_none a (sym n ∙ z));
          goes = λ z. absurd (some_none a (sym n ∙ z));
          stops = s.stops;
        };
  }
