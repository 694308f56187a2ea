-- A state is taken up, and then choices of the last open frame are passed over: what the code of the run asks for. Assumes nothing.
use Prim.Native.Nat.{ℕ, ◌+◌, ◌-◌, ◌<◌, ◌≤◌}
use native.Mathlib.Omega.{arith}
use mathlib.Core.Path.{◌≡◌, refl, sym, ap, ◌∙◌}
use mathlib.Core.Logic.{◌⊎◌, inl, inr}
use mathlib.Core.Bool.{Bool, true, false, not}
use mathlib.Core.List.{List}
use lib.ListN.{length, get_or, length-set}
use lib.Seq.{get_or-set_same, get_or-set_other}
use lib.Dec.{eqb}
use lib.IntN.{ℤ}
use Rattle.std.specs.Prelude.{Some}
use borrow.Author.Tests.{eq-eqb, ne_eqb, eqb-true, eqb-false}
use Rattle.words.specs.Words.{entries}
use Rattle.value_places.specs.Places.{Target}
use Rattle.value_places.proofs.Elements.{second}
use Rattle.value_rows.specs.Row.{nothing}
use Rattle.value_rows.specs.declared.Binding.{Binding}
use Rattle.tables.specs.Slot.{Tables, put_held, put_left, held_in, view_of}
use Rattle.search_atom.specs.Leaves.{when, Parts}
use Rattle.search_step.specs.declared.State.{State}
use Rattle.search_choice.specs.Choices.{Frame, cons_by, cons_of, choice_of, pick_of}
use Rattle.search_seek.specs.Passed.{timed, Over}
use Rattle.search_seek.specs.Pairs.{waiting, OverPairs}
use Rattle.search_seek.specs.Asked.{first_of, second_of, asked_of, sum_of, sum_if, wanted_by, wanted_of, Opens, Seeking}
use Rattle.search_seek.specs.declared.asked.Asking.{Asking}
use Rattle.search_seek.specs.declared.pairs.Sum.{Sum}
use Rattle.search_seek.proofs.Laws.{passed_some, passed_le}
use Rattle.search_seek.proofs.Lines.{Asks, first_asks, Also, second_asks, first_line_lem}
use Rattle.search_seek.proofs.Passing.{pairs_some, pairs_le}
use Rattle.search.specs.Run.{Env, Run, run, after_turn, take_of, settled, run_of}
use Rattle.search.specs.Valid.{Fine}
use Rattle.search.proofs.Sweeps.{run_add, Turns, passed_turns}
use Rattle.search.proofs.Laws.{Here}
use Rattle.search.proofs.Swept.{Swept}
use Rattle.search.proofs.Leaves.{inside}
use Rattle.search.proofs.Leafed.{kept, bound_all}
use Rattle.search.proofs.Pairs.{Then, Wants, pairs_turns}

-- The state y is that after the one which was taken up.
module _ (e : Env) (w : Run) (budget : ℕ) (room₀ : List ℤ) (r : Run) (h : Here e w budget room₀ r) (fine : Fine e) (g : Target e.words) (l : r.state.live ≡ 1)
    (y : State) (u : Tables) (b : List Binding) (room : List ℤ) (m : Swept e r budget y u b room) where
  -- What the look for a line that asks for an integer asks.
  pub sought_opens : Opens e.op e.to y
  sought_opens = record { place = λ k t. ((m.picks.picks k).frame t).place; places = fine.places; last = fine.last }

  module _ (a : Asking) (p : a ≡ asked_of e.op e.from e.to y) (yes : 0 < a.first) where
    part_is : a.part ≡ y.top
    unfolding asked_of
    part_is = ap (λ (z : Asking). z.part) p

    first_is : a.first ≡ first_of e.op y
    unfolding asked_of
    first_is = ap (λ (z : Asking). z.first) p

    second_is : a.second ≡ second_of e.op e.from e.to y.top a.first
    unfolding asked_of
    second_is = ap (λ (z : Asking). z.second) p ∙ ap (second_of e.op e.from e.to y.top) (sym first_is)

    asks : Asks e.op y a.first
    asks = first_asks e.op y a.first first_is yes

    pub first_place : a.first < entries
    first_place = first_line_lem e.op e.to y a.first sought_opens first_is yes

    -- The second line is the first, or asks too.
    line_asks : (a.second < entries) × (get_or e.op a.second 0 ≡ 5)
    line_asks = go (second_asks e.op e.from e.to y.top a.first a.second second_is)
      where
        go : (a.second ≡ a.first) ⊎ Also e.op e.from e.to y.top a.first a.second → (a.second < entries) × (get_or e.op a.second 0 ≡ 5)
        go (inl q) = (rw q first_place, rw q asks.line)
        go (inr q) = (rw q.next (fine.places a.first first_place), q.line)

    pub second_place : a.second < entries
    second_place = line_asks.0

    pub first_number : (v : ℕ) → v ≡ get_or e.arg a.first 0 → v < 16
    first_number v q = rw q (fine.numbers a.first first_place (omega (arith, asks.line)) (omega (arith, asks.line)))

    pub second_number : (v : ℕ) → v ≡ get_or e.arg a.second 0 → v < 16
    second_number v q = rw q (fine.numbers a.second second_place (omega (arith, line_asks.1)) (omega (arith, line_asks.1)))

    frame : Frame (get_or e.op (y.top - 1) 0) e.words (y.top - 1) (get_or u.ats (y.top - 1) 0) (get_or u.wholes (y.top - 1) 0) (get_or u.lefts (y.top - 1) 0)
    frame = (m.picks.picks asks.live).frame asks.top

    abbrev choices : ℕ
    choices = get_or u.lefts (y.top - 1) 0

    chosen : 0 < choices
    chosen = frame.some (omega (arith, asks.cons))

    top_some : 0 < y.top
    top_some = let t = asks.top in omega (arith, t)

    top_line : y.top - 1 + 1 ≡ y.top
    top_line = let t = top_some in omega (arith, t)

    -- Where it is not the first part's own line that asks, the first part is a pair.
    pair_lines : (a.first ≡ a.part → ⊥) → (a.first ≡ y.top + 1) × (get_or e.op y.top 0 ≡ 11)
    pair_lines n = go asks.kind
      where
        go : (a.first ≡ y.top) ⊎ ((a.first ≡ y.top + 1) × (get_or e.op y.top 0 ≡ 11)) → (a.first ≡ y.top + 1) × (get_or e.op y.top 0 ≡ 11)
        go (inl q) = absurd (n (q ∙ sym part_is))
        go (inr q) = q

    top_place : y.top < entries
    top_place = go asks.kind
      where
        go : (a.first ≡ y.top) ⊎ ((a.first ≡ y.top + 1) × (get_or e.op y.top 0 ≡ 11)) → y.top < entries
        go (inl q) = let k = first_place in omega (arith, q, k)
        go (inr q) = let k = first_place in omega (arith, q.0, k)

    -- What it asks to pass over them.
    pub sought_seeking : (i k : ℕ) → i ≡ get_or e.arg a.first 0 → k ≡ get_or e.arg a.second 0 → (slots : List ℕ) → u ≡ view_of e.arg slots
        → Seeking e.words e.con e.arg slots a (get_or b i nothing).at (get_or b k nothing).at budget y.steps
    sought_seeking i k p₁ p₂ slots q =
        let bound = bound_all e w budget room₀ r h fine g l y u b room m in
        record {
          seeks = record {
            some = rw part_is top_some;
            place = rw part_is top_place;
            constant = rw part_is (fine.constants y.top top_place);
            number = second e.words (get_or b i nothing).at g (bound.are i (first_number i p₁)).tag;
            steps = m.within;
            held = rw (part_is, ← q) (record { tag = (frame.held (omega (arith, asks.cons))).tag; marks = frame.there (omega (arith, asks.cons)) });
            choice = rw (part_is, ← q) chosen;
          };
          slotted = rw part_is (record { place = frame.place; slot = fine.slot (y.top - 1); long = rw q at m.long });
          alone = rw part_is (fine.alone (y.top - 1) frame.place (omega (arith, asks.cons)) (omega (arith, asks.cons)));
          first = (first_place, fine.constants a.first first_place);
          second = (second_place, fine.constants a.second second_place);
          other = second e.words (get_or b k nothing).at g (bound.are k (second_number k p₂)).tag;
          parts = λ n. rw part_is (parts (pair_lines n).1);
        }
      where
        parts : get_or e.op y.top 0 ≡ 11 → Parts e.arg slots y.top 1
        parts o = record {
          fits = (let k = top_place in omega (arith, k));
          slot = fine.slot;
          alone = λ k z. fine.each y.top top_place (omega (arith, o)) (omega (arith, o)) k (omega (arith, o, z));
          long = rw q at m.long;
        }

    -- After turns that leave the frame as it is, but for what is left to choose from.
    module _ (n left : ℕ) (u' : Tables) (turns : Turns e (run y u b room) (run (timed y n) u' b room)) (within : n ≤ budget) (some : 0 < left) (few : left ≤ choices)
        (ats : get_or u'.ats (y.top - 1) 0 ≡ get_or u.ats (y.top - 1) 0) (wholes : u'.wholes ≡ u.wholes) (lefts : get_or u'.lefts (y.top - 1) 0 ≡ left)
        (long : length u'.backs ≡ entries) where
      next_frame : Frame (get_or e.op (y.top - 1) 0) e.words (y.top - 1) (get_or u.ats (y.top - 1) 0) (get_or u.wholes (y.top - 1) 0) left
      next_frame = record {
        place = frame.place;
        splits = frame.splits;
        chooses = frame.chooses;
        whole = frame.whole;
        held = frame.held;
        within = λ z. absurd (omega (arith, asks.cons, z));
        some = λ z. some;
        there = λ z. (let t = frame.there (omega (arith, asks.cons)) in omega (arith, t, few));
      }

      swept_on : Swept e r budget (timed y n) u' b room
      unfolding timed
      swept_on = record {
        more = m.more + turns.more;
        next = turns.are ∙ ap (run_of e turns.more) m.next ∙ sym (run_add e m.more turns.more (settled e (take_of e r)));
        steps = omega (arith, turns.steps, m.steps);
        within = within;
        picks = record { picks = λ z. record { frame = λ t. rw (ats, wholes, lefts) next_frame } };
        long = long;
      }

    left_there : y.top - 1 < length u.lefts
    left_there = inside u.lefts (y.top - 1) chosen

    -- A choice leaves where values stand.
    settled_ats : (settled e (run y u b room)).tables.ats ≡ u.ats
    unfolding settled after_turn pick_of choice_of cons_of cons_by when
    settled_ats = rw (eq-eqb y.live 2 asks.live, ne_eqb y.top 0 asks.top, asks.cons)

    ats_long : length u.ats ≡ entries
    ats_long = sym (ap length settled_ats) ∙ (kept e w budget room₀ r h fine g l y u b room m).valid.long.ats

    module _ (i k : ℕ) (p₁ : i ≡ get_or e.arg a.first 0) (p₂ : k ≡ get_or e.arg a.second 0) (n : ℕ) (u' : Tables) where
      abbrev first_at : ℕ
      first_at = (get_or b i nothing).at

      abbrev second_at : ℕ
      second_at = (get_or b k nothing).at

      over_integers : a.first ≡ a.part → Over e.words e.con first_at budget a.part y.steps u n u' → Swept e r budget (timed y n) u' b room
      unfolding put_left
      over_integers q o = go (rw part_is at o)
        where
          line : a.first ≡ y.top
          line = q ∙ part_is

          go : Over e.words e.con first_at budget y.top y.steps u n u' → Swept e r budget (timed y n) u' b room
          go o = rw o.tables (swept_on n o.left (put_left (y.top - 1) o.left u)
              (passed_turns e (y.top - 1) y.top top_line asks.cons (rw line at asks.line) y u b room first_at (rw line at (ap (λ (z : ℕ). (get_or b z nothing).at) p₁)) asks.live asks.top refl
              left_there o.left n o.passed)
              o.within (passed_some _ _ _ _ _ _ _ _ o.passed chosen) (passed_le _ _ _ _ _ _ _ _ o.passed) refl refl
              (get_or-set_same u.lefts (y.top - 1) o.left 0 left_there) m.long)

      module _ (other : a.first ≡ a.part → ⊥) where
        first_line_is : y.top - 1 + 1 + 1 ≡ a.first
        first_line_is = let q = (pair_lines other).0 in let z = top_line in omega (arith, q, z)

        then : (z : Sum) → (wanted_of e.con a first_at second_at).second ≡ Some z → Then e b (y.top - 1) z
        unfolding wanted_of wanted_by sum_if sum_of
        then z is = go (eqb a.first a.second) refl is
          where
            by : (a.first ≡ a.second → ⊥) → sum_of e.con a.second second_at ≡ z → (a.second ≡ a.first) ⊎ Also e.op e.from e.to y.top a.first a.second → Then e b (y.top - 1) z
            by n m (inl q) = absurd (n (sym q))
            by n m (inr q) = record {
              waits = rw (first_line_is, top_line) q.waits;
              line = rw (first_line_is, ← q.next) q.line;
              at = rw (← m, first_line_is, ← q.next) (ap (λ (z : ℕ). (get_or b z nothing).at) p₂);
              plus = rw (← m, first_line_is, ← q.next) refl;
            }

            go : (d : Bool) → eqb a.first a.second ≡ d → sum_if e.con a.second second_at (not d) ≡ Some z → Then e b (y.top - 1) z
            go true d h = absurd (cc)
            go false d h = by (eqb-false _ _ d) (cc) (second_asks e.op e.from e.to y.top a.first a.second second_is)

        wants : Wants e b (y.top - 1) (wanted_of e.con a first_at second_at)
        unfolding wanted_of wanted_by sum_of
        wants = record {
          cons = asks.cons;
          pair = rw top_line (pair_lines other).1;
          line = rw first_line_is asks.line;
          at = rw first_line_is (ap (λ (z : ℕ). (get_or b z nothing).at) p₁);
          plus = rw first_line_is refl;
          also = then;
        }

        over_pairs : OverPairs e.words (wanted_of e.con a first_at second_at) budget a.part y.steps u n u' → Swept e r budget (timed y n) u' b room
        unfolding put_left put_held wanted_of
        over_pairs o = go (rw part_is at o)
          where
            go : OverPairs e.words (wanted_of e.con a first_at second_at) budget y.top y.steps u n u' → Swept e r budget (timed y n) u' b room
            go o =
                let v = waiting e.words o.last (held_in u y.top) in
                let t = pairs_turns e b (y.top - 1) (wanted_of e.con a first_at second_at) wants room y u asks.live asks.top refl left_there
                (let z = top_place in let d = top_line in omega (arith, z, d, ats_long)) o.left n o.last o.passed in
                rw o.tables (swept_on n o.left (put_left (y.top - 1) o.left (put_held y.top v u)) (rw top_line at t) o.within
                (pairs_some _ _ _ _ _ _ _ _ o.passed chosen) (pairs_le _ _ _ _ _ _ _ _ o.passed)
                (get_or-set_other u.ats y.top (y.top - 1) v.at 0 (λ q. let z = top_some in absurd (omega (arith, q, z)))) refl
                (get_or-set_same u.lefts (y.top - 1) o.left 0 left_there) (length-set u.backs y.top v.marks ∙ m.long))

      pub swept_pass : (a.first ≡ a.part → Over e.words e.con first_at budget a.part y.steps u n u')
          → ((a.first ≡ a.part → ⊥) → OverPairs e.words (wanted_of e.con a first_at second_at) budget a.part y.steps u n u') → Swept e r budget (timed y n) u' b room
      swept_pass o₁ o₂ = go (eqb a.first a.part) refl
        where
          go : (d : Bool) → eqb a.first a.part ≡ d → Swept e r budget (timed y n) u' b room
          go true d = let q = eqb-true _ _ d in over_integers q (o₁ q)
          go false d = let q = eqb-false _ _ d in over_pairs q (o₂ q)
