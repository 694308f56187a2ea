-- A choice taken keeps a run valid.
use Prim.Native.Nat.{ℕ, suc, ◌+◌, ◌-◌, ◌^◌, ◌≤◌, ◌<◌}
use native.Mathlib.Omega.{arith}
use mathlib.Core.Path.{◌≡◌, ◌∙◌}
use mathlib.Core.List.{List}
use lib.ListN.{length, get_or, set, length-set}
use lib.Seq.{get_or-set_same, get_or-set_other}
use lib.Dec.{eqb, ltb}
use lib.Count.{count_trailing_zeros}
use lib.IntN.{ℤ}
use borrow.Author.Tests.{eqb-true, eqb-false, ltb-true, ltb-false}
use Rattle.words.specs.Words.{entries}
use Rattle.words.specs.Marks.{clear}
use Rattle.words.proofs.marks.Places.{clear_le, clear_lt}
use Rattle.value_places.specs.Places.{Target, Tag, marks_at, element_at}
use Rattle.value_places.specs.Held.{Held, whole_at}
use Rattle.value_places.proofs.Elements.{element_tag}
use Rattle.value_places.proofs.Held.{marks_count, held_64}
use Rattle.value_rows.specs.declared.Binding.{Binding}
use Rattle.search_step.proofs.Laws.{low_there}
use Rattle.search_step.specs.declared.State.{State}
use Rattle.search_atom.specs.Leaves.{now_left, longer_of, slot_by}
use Rattle.tables.specs.Slot.{Tables, tables}
use Rattle.search_step.specs.Steps.{Turned, moved, lived, topped}
use Rattle.search_choice.specs.Choices.{top_left, join_by, join_of, cons_by, cons_of, resumed_by, resumed_at, resume_of, choice_of, pick_of, Frame, Picks}
use Rattle.search.specs.Run.{Env, Run, run, after_turn, settled}
use Rattle.search.specs.Valid.{Fine, Valid}
use Rattle.search.proofs.Frames.{when_if, by_place, next_place_lem, held_less, held_whole, low_le, frame_left}

module _ (e : Env) (fine : Fine e) (g : Target e.words) where
  module _ (x : State) (t : Tables) (b : List Binding) (room : List ℤ) (v : Valid e (run x t b room)) (two : x.live ≡ 2) where
    none_keeps : x.top ≡ 0 → Valid e (run (lived x 0) t b room)
    unfolding lived
    none_keeps z = record {
      place = v.place;
      held = v.held;
      frames = v.frames;
      waits = record { held = λ j h n. v.waits.held j h (λ p q k. absurd (omega arith)) };
      binds = v.binds;
      room = v.room;
      counts = (let q = v.counts in omega arith);
      long = v.long;
    }

    module _ (j : ℕ) (top : x.top ≡ suc j) (f : Frame (get_or e.op j 0) e.words j (get_or t.ats j 0) (get_or t.wholes j 0) (get_or t.lefts j 0)) where
      choice_keeps : (at m back more : ℕ) → Held e.words at m → Held e.words (get_or t.ats j 0) back
          → ((more ≡ 0 → ⊥) → Frame (get_or e.op j 0) e.words j (get_or t.ats j 0) (get_or t.wholes j 0) more)
          → Valid e (run (top_left more j t.lows (moved x (j + 1) at m)) (tables t.ats t.wholes (now_left more j t.lefts) t.lows (set t.backs j back)) b room)
      unfolding top_left now_left topped moved
      choice_keeps at m back more h w p = when_if (λ (y : State). Valid e (run y new b room)) (eqb more 0) _ _
          (λ z. open_at (get_or t.lows j 0) (v.frames.below j f.place)) (λ z. open_at x.top v.frames.last)
        where
          new : Tables
          new = tables t.ats t.wholes (now_left more j t.lefts) t.lows (set t.backs j back)

          kept : (n : ℕ) → Picks e.op e.words n t.ats t.wholes t.lefts → Picks e.op e.words n t.ats t.wholes (now_left more j t.lefts)
          kept n k = record { frame = λ y. frame_left e.op e.words t v.long j f.place more (n - 1) p (k.frame y) }

          longer : length (now_left more j t.lefts) ≡ entries
          longer = when_if (λ (k : List ℕ). length k ≡ entries) (eqb more 0) _ _ (λ z. v.long.lefts) (λ z. length-set t.lefts j more ∙ v.long.lefts)

          open_at : (n : ℕ) → Picks e.op e.words n t.ats t.wholes t.lefts → Valid e (run (topped (moved x (j + 1) at m) n) new b room)
          open_at n k = record {
            place = next_place_lem e.op j fine.last f.place (λ z. let y = f.splits in absurd (omega arith));
            held = h;
            frames = record { last = kept n k; below = λ i y. kept (get_or t.lows i 0) (v.frames.below i y) };
            waits = record {
              held = λ i y z. by_place _ j i
                  (λ q. rw (q, get_or-set_same t.backs j back 0 (let u = f.place in omega (arith, v.long.backs))) w)
                  (λ q. rw (get_or-set_other t.backs j i back 0 q) (v.waits.held i y (λ u o k. q (omega arith))));
            };
            binds = v.binds;
            room = v.room;
            counts = (let q = v.counts in omega arith);
            long = record {
              ats = v.long.ats;
              wholes = v.long.wholes;
              lefts = longer;
              lows = v.long.lows;
              backs = length-set t.backs j back ∙ v.long.backs;
            };
          }

      join_keeps : get_or e.op j 0 ≡ 10 → Valid e (after_turn (join_of j x t) b room)
      unfolding join_of join_by longer_of after_turn
      join_keeps z =
          let w = f.within z in
          choice_keeps (get_or t.ats j 0) c (m - c) (longer_of c (m - c)) (held_less c (f.held (omega arith)) w) (held_less (m - c) (f.held (omega arith)) (omega arith))
          (λ n. record {
            place = f.place;
            splits = f.splits;
            chooses = f.chooses;
            whole = f.whole;
            held = f.held;
            within = λ y. longer_le n w;
            some = λ y. absurd (omega arith);
            there = λ y. absurd (omega arith);
          })
        where
          c : ℕ
          c = get_or t.lefts j 0

          m : ℕ
          m = get_or t.wholes j 0

          m_64 : m < 2 ^ 64
          m_64 = held_64 e.words (get_or t.ats j 0) m g (f.held (omega arith))

          longer_le : (longer_of c (m - c) ≡ 0 → ⊥) → c ≤ m → longer_of c (m - c) ≤ m
          longer_le n w = when_if (λ (k : ℕ). k ≤ m) (eqb (m - c) 0) 0 _ (λ y. omega arith)
              (λ y. let d = eqb-false (m - c) 0 y in let h : 0 < m - c = omega arith in let u = m_64 in let q = low_le (m - c) h (omega arith) in omega arith)

      cons_keeps : get_or e.op j 0 ≤ 9 → Valid e (after_turn (cons_of e.words j x t) b room)
      unfolding cons_of cons_by after_turn
      cons_keeps z = choice_keeps place (whole_at e.words place) (clear k m) (clear k c) (held_whole place inside) (held_less (clear k m) (f.held (omega arith)) (clear_le k m))
          (λ n. record {
            place = f.place;
            splits = f.splits;
            chooses = f.chooses;
            whole = f.whole;
            held = f.held;
            within = λ y. absurd (omega arith);
            some = λ y. omega arith;
            there = λ y. clear_lt (marks_at e.words (get_or t.ats j 0)) k c (f.there (omega arith));
          })
        where
          c : ℕ
          c = get_or t.lefts j 0

          m : ℕ
          m = get_or t.wholes j 0

          k : ℕ
          k = count_trailing_zeros 64 c

          place : ℕ
          place = element_at e.words (get_or t.ats j 0) k

          inside : Tag e.words place
          inside =
              let p = marks_count e.words (get_or t.ats j 0) in
              let q = g.small (get_or t.ats j 0) (f.held (omega arith)).tag in
              let r = low_there (marks_at e.words (get_or t.ats j 0)) c (omega arith) (f.some (omega arith)) (f.there (omega arith)) in
              element_tag e.words (get_or t.ats j 0) k g (f.held (omega arith)).tag (omega arith)

      -- An or or a not: what waits in its slot is held.
      module _ (o : 10 < get_or e.op j 0) where
        all_wait : (i : ℕ) → i < entries → Held e.words (get_or t.ats i 0) (get_or t.backs i 0)
        all_wait i h = v.waits.held i h (λ p q k. let z : i ≡ j = omega arith in let y : get_or e.op j 0 < 11 = rw z at k in omega arith)

        slot_there : slot_by (get_or e.op j 0) j e.from < entries
        unfolding slot_by
        slot_there = when_if (λ (i : ℕ). i < entries) (eqb (get_or e.op j 0) 15) _ _ (λ z. f.place) (λ z. fine.slots j f.place)

        resume_keeps : Valid e (after_turn (resume_of (get_or e.op j 0) j e.from e.to x t) b room)
        unfolding resume_of resumed_at resumed_by after_turn
        resume_keeps = record {
          place = fine.places j f.place;
          held = all_wait _ slot_there;
          frames = record { last = v.frames.below j f.place; below = v.frames.below };
          waits = record { held = λ i h z. all_wait i h };
          binds = v.binds;
          room = v.room;
          counts = (let q = v.counts in omega arith);
          long = v.long;
        }

      any_keeps : Valid e (after_turn (choice_of (get_or e.op j 0) j e.from e.to e.words x t) b room)
      unfolding choice_of after_turn
      any_keeps = when_if at_turn (ltb 9 (get_or e.op j 0)) _ _
          (λ z. let h : 9 < get_or e.op j 0 = ltb-true 9 _ z in when_if at_turn (eqb (get_or e.op j 0) 10) _ _ (λ k. join_keeps (eqb-true _ _ k))
          (λ k. let d = eqb-false (get_or e.op j 0) 10 k in resume_keeps (omega arith)))
          (λ z. cons_keeps (ltb-false 9 _ z))
        where
          at_turn : Turned → Type 0
          at_turn u = Valid e (run u.state u.tables b room)

    pick_keeps : Valid e (after_turn (pick_of e.op e.from e.to e.words x t) b room)
    unfolding pick_of after_turn
    pick_keeps = when_if at_turn (eqb x.top 0) _ _ (λ z. none_keeps (eqb-true _ _ z))
        (λ z. let n = eqb-false x.top 0 z in let u : x.top ≡ suc (x.top - 1) = omega arith in any_keeps (x.top - 1) u (v.frames.last.frame n))
      where
        at_turn : Turned → Type 0
        at_turn u = Valid e (run u.state u.tables b room)

  pub settle_keeps : (r : Run) → Valid e r → Valid e (settled e r)
  unfolding settled
  settle_keeps r v = when_if (Valid e) (eqb r.state.live 2) _ _ (λ z. pick_keeps r.state r.tables r.binds r.room v (eqb-true _ _ z)) (λ z. v)
