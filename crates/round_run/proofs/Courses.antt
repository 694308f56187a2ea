-- One round, and all of them, as the code asks for it.
use Prim.Native.Nat.{ℕ, zero, suc, ◌+◌, ◌*◌, ◌≤◌, ◌<◌}
use native.Mathlib.Omega.{arith}
use mathlib.Core.Path.{◌≡◌, refl, sym, ◌∙◌, subst}
use mathlib.Core.List.{List}
use lib.ListN.{length}
use lib.IntN.{ℤ}
use Rattle.std.specs.Prelude.{Some, None}
use Rattle.rules.specs.Search.{stopped}
use Rattle.search.specs.Run.{Env}
use Rattle.search.specs.Stops.{number_of}
use Rattle.search.specs.declared.stop.Stop.{Stop}
use Rattle.search.specs.declared.stop.Stop.TheVariants.{Budget, Table}
use Rattle.round_states.specs.Taking.{Far}
use Rattle.round_states.specs.Sweeps.{lists_most}
use Rattle.round_states.specs.Rounding.{Rounding, rounds_done, rounds_spent, rounds_table, round_begins, sweep_ends}
use Rattle.round_sweep.specs.Pulls.{Pulled}
use Rattle.round_sweep.specs.Turns.{Course, Swept, Sweeps, SweptBy}
use Rattle.round_sweep.specs.declared.turn.Sweep.{Sweep}
use Rattle.round_sweep.proofs.Turns.{some_none, left_few}
use Rattle.round_run.specs.Courses.{Journey, halted_at, Onward, Begins, Rounded, Starts, Arrived}
use Rattle.round_run.specs.declared.rounds.Round.{Round}

-- ---- One round.

-- No list of it is taken up yet.
abbrev pub sweep_from : Round → Sweep
sweep_from r = record { state = r.state; binds = r.binds; fresh = 0; left = 0; waiting = r.waiting; stop = None }

module _ {e : Env} {used budget : ℕ} {r : Round} {ws : List ℤ} {slots : List ℕ} {room : List ℤ} (going : r.stop ≡ None) (some : r.many ≡ 0 → ⊥) (steps : r.state.steps < budget) where
  module _ (J : Journey e used) (O : Onward e used J budget r ws slots room) (few : r.waiting ≤ J.limit) where
    abbrev rounding : Rounding e J.ruled used J.uses J.whole O.rounds J.limit budget ws r.many r.waiting r.state room
    rounding = O.goes going

    one_more : (k : ℕ) × (O.rounds ≡ suc k)
    one_more = go O.rounds (let f = rounding.fuel in omega arith)
      where
        go : (n : ℕ) → 1 ≤ n → (k : ℕ) × (n ≡ suc k)
        go zero h = absurd (omega arith)
        go (suc k) h = (k, refl)

    abbrev course : Course e used
    course = record { ruled = J.ruled; uses = J.uses; whole = J.whole; rounds = one_more.0; limit = J.limit; base = J.base; before = r.state.steps }

    swept₀ : Swept e used course budget r.many 0 (sweep_from r) ws slots room
    swept₀ = record {
      clean = O.clean;
      words = O.words;
      counts = O.counts;
      most = O.most;
      kept = O.kept;
      few = omega arith;
      later = λ z. omega arith;
      goes = λ z. round_begins e J.ruled used J.uses rounding one_more.0 one_more.1 some steps few;
      stops = λ z. absurd (z refl);
    }

    many_few : r.many ≤ J.limit
    many_few = let a = rounding.count in let b = rounding.waits in let c = lists_most rounding.all in omega arith

    module _ {v : Sweep} {ws₁ : List ℤ} {slots₁ : List ℕ} {room₁ : List ℤ} (T : SweptBy e used budget r.many (sweep_from r) ws slots room v ws₁ slots₁ room₁) where
      swept₁ : Swept e used course budget r.many r.many v ws₁ slots₁ room₁
      swept₁ = T.swept course swept₀

      round_few : v.stop ≡ None → (v.fresh ≤ r.many) × (825 * (r.many + v.left) ≤ length ws₁) × (r.many + v.left ≤ J.limit)
      round_few z =
          let s = swept₁.goes z in
          let a = left_few e J.ruled used J.uses s in
          (s.fewer, (let b = s.there in omega arith), a)

      round_later : v.stop ≡ None → r.state.steps < v.state.steps
      round_later z = let a = swept₁.later z in let b = above some in omega arith
        where
          above : (r.many ≡ 0 → ⊥) → 1 ≤ r.many
          above n = omega arith

      ends₁ : (z : v.stop ≡ None) (ws₂ : List ℤ) → Pulled ws₁ ws₂ r.many v.fresh v.left used
          → Rounding e J.ruled used J.uses J.whole one_more.0 J.limit budget ws₂ (v.fresh + v.left) v.waiting v.state room₁
      ends₁ z ws₂ p = sweep_ends e J.ruled used J.uses (swept₁.goes z) (omega arith) (above some) ws₂ p.long p.low p.moved
        where
          above : (r.many ≡ 0 → ⊥) → 1 ≤ r.many
          above n = omega arith

  -- The run has ended within the round.
  pub round_halts : {v : Sweep} {ws₁ : List ℤ} {slots₁ : List ℕ} {room₁ : List ℤ} → SweptBy e used budget r.many (sweep_from r) ws slots room v ws₁ slots₁ room₁
      → (a : Stop) → v.stop ≡ Some a → (q : Round) → q ≡ halted_at v.state v.binds a → Rounded e used budget r ws slots room q ws₁ slots₁ room₁
  unfolding halted_at
  round_halts {v} {ws₁} {slots₁} {room₁} T a n q h = subst (λ (q : Round). Rounded e used budget r ws slots room q ws₁ slots₁ room₁) (sym h) (record {
    long = T.long;
    later = λ z. absurd (cc);
    onward = λ J O w.
        let s = swept₁ J O w T in
        record { clean = s.clean; words = s.words; counts = s.counts; most = s.most; kept = s.kept; rounds = 0; goes = λ z. absurd (cc); stops = λ z. subst (λ o. Far J.whole v.state room₁ (stopped (number_of o) 0)) n (s.stops (λ y. some_none a (sym n ∙ y))) };
  })

  -- All lists are done, and those of the next round stand in the table.
  pub round_goes : (J : Journey e used) → Onward e used J budget r ws slots room → r.waiting ≤ J.limit
      → {v : Sweep} {ws₁ : List ℤ} {slots₁ : List ℕ} {room₁ : List ℤ} → SweptBy e used budget r.many (sweep_from r) ws slots room v ws₁ slots₁ room₁
      → v.stop ≡ None → (ws₂ : List ℤ) → Pulled ws₁ ws₂ r.many v.fresh v.left used
      → Rounded e used budget r ws slots room (record { state = v.state; binds = v.binds; many = v.fresh + v.left; waiting = v.waiting; stop = None }) ws₂ slots₁ room₁
  round_goes J₀ O₀ w₀ T z ws₂ p = record {
    long = p.long ∙ T.long;
    later = λ y. round_later J₀ O₀ w₀ T z;
    onward = λ J O w.
        let s = swept₁ J O w T in
        record {
          clean = s.clean;
          words = s.words;
          counts = s.counts;
          most = s.most;
          kept = s.kept;
          rounds = (one_more J O w).0;
          goes = λ y. ends₁ J O w T z ws₂ p;
          stops = λ y. absurd (y refl);
        };
  }

module _ {e : Env} {used budget : ℕ} {r : Round} {ws : List ℤ} {slots : List ℕ} {room : List ℤ} (P : Begins e used budget r ws slots room) where
  pub begins_sweeps : Sweeps e used budget r.many (sweep_from r) ws slots room
  begins_sweeps = record {
    course = course P.going P.some P.steps P.journey P.onward P.waits;
    swept = swept₀ P.going P.some P.steps P.journey P.onward P.waits;
    small = P.small;
    most = let a = many_few P.going P.some P.steps P.journey P.onward P.waits in let b = P.small in omega arith;
  }

  module _ {v : Sweep} {ws₁ : List ℤ} {slots₁ : List ℕ} {room₁ : List ℤ} (T : SweptBy e used budget r.many (sweep_from r) ws slots room v ws₁ slots₁ room₁) (z : v.stop ≡ None) where
    pub begins_fresh : v.fresh ≤ r.many
    begins_fresh = (round_few P.going P.some P.steps P.journey P.onward P.waits T z).0

    pub begins_there : 825 * (r.many + v.left) ≤ length ws₁
    begins_there = (round_few P.going P.some P.steps P.journey P.onward P.waits T z).1

    pub begins_few : r.many + v.left ≤ 256
    begins_few = let a = (round_few P.going P.some P.steps P.journey P.onward P.waits T z).2 in let b = P.small in omega arith

  pub begins_room : {v : Sweep} {ws₁ : List ℤ} {slots₁ : List ℕ} {room₁ : List ℤ} → SweptBy e used budget r.many (sweep_from r) ws slots room v ws₁ slots₁ room₁ → length room₁ ≡ length room
  begins_room T = (swept₁ P.going P.some P.steps P.journey P.onward P.waits T).kept.long ∙ sym P.onward.kept.long

-- ---- All rounds.

pub record Gone (e : Env) (used budget limit : ℕ) (r₀ : Round) (ws₀ : List ℤ) (slots₀ : List ℕ) (room₀ : List ℤ) (r : Round) (ws : List ℤ) (slots : List ℕ) (room : List ℤ) : Type 0 where
  pub long : length ws ≡ length ws₀
  pub going : r.stop ≡ None
  pub onward : (J : Journey e used) → J.limit ≡ limit → Onward e used J budget r₀ ws₀ slots₀ room₀ → Onward e used J budget r ws slots room

pub gone_none : {e : Env} {used budget limit : ℕ} {r : Round} {ws : List ℤ} {slots : List ℕ} {room : List ℤ} → Starts e used budget limit r ws slots room
    → Gone e used budget limit r ws slots room r ws slots room
gone_none P = record { long = refl; going = P.going; onward = λ J l O. O }

module _ {e : Env} {used budget limit : ℕ} {r₀ : Round} {ws₀ : List ℤ} {slots₀ : List ℕ} {room₀ : List ℤ} {r : Round} {ws : List ℤ} {slots : List ℕ} {room : List ℤ}
    (G : Gone e used budget limit r₀ ws₀ slots₀ room₀ r ws slots room) where
  pub gone_room : Starts e used budget limit r₀ ws₀ slots₀ room₀ → length room ≡ length room₀
  gone_room P = (G.onward P.journey P.limited P.onward).kept.long ∙ sym P.onward.kept.long

  pub gone_begins : Starts e used budget limit r₀ ws₀ slots₀ room₀ → (r.many ≡ 0 → ⊥) → r.state.steps < budget → r.waiting ≤ limit → Begins e used budget r ws slots room
  gone_begins P n m w = record {
    journey = P.journey;
    onward = G.onward P.journey P.limited P.onward;
    going = G.going;
    some = n;
    steps = m;
    waits = let l = P.limited in omega arith;
    small = let l = P.limited in let s = P.small in omega arith;
  }

  -- What ends the run between two rounds.
  halts : (a : Stop) → ((J : Journey e used) → J.limit ≡ limit → Onward e used J budget r ws slots room → Far J.whole r.state room (stopped (number_of (Some a)) 0)) → (q : Round) → q ≡ halted_at r.state r.binds a
      → Arrived e used budget limit r₀ ws₀ slots₀ room₀ q ws slots room
  unfolding halted_at
  halts a f q h = subst (λ (q : Round). Arrived e used budget limit r₀ ws₀ slots₀ room₀ q ws slots room) (sym h) (record {
    long = G.long;
    ended = λ J l O. let o = G.onward J l O in record { words = o.words; kept = o.kept; far = f J l o };
  })

  pub gone_spent : (r.many ≡ 0 → ⊥) → budget ≤ r.state.steps → (q : Round) → q ≡ halted_at r.state r.binds Budget → Arrived e used budget limit r₀ ws₀ slots₀ room₀ q ws slots room
  gone_spent n m q h = halts Budget (λ J l o. rounds_spent e J.ruled used J.uses (o.goes G.going) n m) q h

  pub gone_table : (r.many ≡ 0 → ⊥) → r.state.steps < budget → limit < r.waiting → (q : Round) → q ≡ halted_at r.state r.binds Table → Arrived e used budget limit r₀ ws₀ slots₀ room₀ q ws slots room
  gone_table n m w q h = halts Table (λ J l o. rounds_table e J.ruled used J.uses (o.goes G.going) n m (omega arith)) q h

  pub gone_done : r.many ≡ 0 → Arrived e used budget limit r₀ ws₀ slots₀ room₀ r ws slots room
  gone_done z = record {
    long = G.long;
    ended = λ J l O.
        let o = G.onward J l O in
        record { words = o.words; kept = o.kept; far = subst (λ a. Far J.whole r.state room (stopped (number_of a) 0)) (sym G.going) (rounds_done e J.ruled used J.uses (o.goes G.going) z) };
  }

  module _ (few : r.waiting ≤ limit) (q : Round) (ws₁ : List ℤ) (slots₁ : List ℕ) (room₁ : List ℤ) (d : Rounded e used budget r ws slots room q ws₁ slots₁ room₁) where
    next : (J : Journey e used) → J.limit ≡ limit → Onward e used J budget r₀ ws₀ slots₀ room₀ → Onward e used J budget q ws₁ slots₁ room₁
    next J l O = d.onward J (G.onward J l O) (omega arith)

    pub gone_stopped : (a : Stop) → q.stop ≡ Some a → Arrived e used budget limit r₀ ws₀ slots₀ room₀ q ws₁ slots₁ room₁
    gone_stopped a n = record {
      long = d.long ∙ G.long;
      ended = λ J l O. let o = next J l O in record { words = o.words; kept = o.kept; far = o.stops (λ z. some_none a (sym n ∙ z)) };
    }

    pub gone_next : q.stop ≡ None → Gone e used budget limit r₀ ws₀ slots₀ room₀ q ws₁ slots₁ room₁
    gone_next z = record { long = d.long ∙ G.long; going = z; onward = next }

    pub gone_more : Starts e used budget limit r₀ ws₀ slots₀ room₀ → length room₁ ≡ length room₀
    gone_more P = (next P.journey P.limited P.onward).kept.long ∙ sym P.onward.kept.long
