-- A state taken up keeps a run valid.
use Prim.Native.Nat.{ℕ, ◌+◌, ◌-◌, ◌^◌, ◌≤◌, ◌<◌}
use native.Mathlib.Omega.{arith}
use lib.Pow.{pow_pos}
use mathlib.Core.Path.{◌≡◌, refl, ◌∙◌}
use mathlib.Core.Bool.{Bool, true, false}
use mathlib.Core.List.{List, []}
use lib.ListN.{length, get_or, set, length-set}
use lib.Seq.{get_or-set_same, get_or-set_other}
use lib.Dec.{eqb, ltb}
use lib.Count.{count_trailing_zeros}
use lib.IntN.{ℤ, pos}
use borrow.Author.Tests.{eqb-true, eqb-false, ltb-true, ltb-false, ne_eqb}
use Rattle.rules.specs.Equality.{equal}
use Rattle.rules.specs.Dialects.{Dialect, every_place, first_places}
use Rattle.rules.specs.Rows.{row}
use Rattle.words.specs.Words.{entries}
use Rattle.value_places.specs.Places.{Target, Tag, count_at, element_at, value_at, elements}
use Rattle.value_places.specs.Held.{Held}
use Rattle.value_places.proofs.Held.{held_64, held_some}
use Rattle.value_places.proofs.Elements.{element_tag}
use Rattle.matchers.specs.Places.{matcher_at}
use Rattle.value_firsts.specs.Firsts.{firsts_of, firsts_at}
use Rattle.value_firsts.proofs.Differing.{firsts_le, firsts_some}
use Rattle.value_rows.proofs.Room.{length_put}
use Rattle.value_rows.specs.Row.{bound, Bound, nothing}
use Rattle.value_rows.specs.declared.Binding.{Binding}
use Rattle.search_step.specs.declared.State.{State}
use Rattle.search_atom.specs.Leaves.{when, passes_of, none_of, stored, is_wide, part_marks}
use Rattle.tables.specs.Slot.{Tables, tables}
use Rattle.search_step.specs.Steps.{Turned, counted, moved, lived, dropped, pushed, pushed_in, apart_at, apart_ats, apart_backs, apart_of, kept_at, kept_in, framed_at, framed_in, cut_to, sides_of}
use Rattle.search_machine.specs.Operations.{opens_with}
use Rattle.search.specs.Plain.{split_of, divide_of, step_by, step_of}
use Rattle.search_choice.specs.Choices.{Frame, Picks}
use Rattle.search.specs.Run.{Env, Run, run, Ended, filled, wrote, end_by, end_of, asked, choices_in, choices_of, after_turn, after_end, take_end, take_bind, take_step, take_of}
use Rattle.search.specs.Valid.{Fine, Valid}
use Rattle.search.proofs.Parts.{by_range, stored_length, stored_before, stored_after, stored_at}
use Rattle.search.proofs.Frames.{when_if, by_place, next_place_lem, held_whole, low_le, frame_beyond, frame_waits, frame_pushed}

-- ---- A state taken up.

-- The choices of a cons under a multiset are among its marks, and there is one where there are marks.
record Chosen (m c : ℕ) : Type 0 where
  some : 0 < m → 0 < c
  among : c ≤ m

chosen_are : (e : Env) → Target e.words → (r : Run) → Held e.words r.state.at r.state.marks → Chosen r.state.marks (choices_of e r)
unfolding choices_of choices_in firsts_at firsts_of when
chosen_are e g r w = go e.dialect
  where
    m : ℕ
    m = r.state.marks

    every : Chosen m m
    every = record { some = λ h. h; among = omega arith }

    go : (d : Dialect) → Chosen m (choices_in d (get_or e.op r.state.pc 0) e.matcher (get_or e.mat r.state.pc 0) e.words r.state.at m)
    go every_place = every
    go first_places = when_if (Chosen m) (eqb (get_or e.op r.state.pc 0) 9) _ _
        (λ z. when_if (Chosen m) (ltb (get_or e.mat r.state.pc 0) (length e.matcher)) _ _
        (λ k. record {
          some = λ h. firsts_some (equal (matcher_at e.matcher (get_or e.mat r.state.pc 0 + 1))) (elements (value_at e.words r.state.at)) m h (held_some e.words r.state.at m g w);
          among = firsts_le (equal (matcher_at e.matcher (get_or e.mat r.state.pc 0 + 1))) [] (elements (value_at e.words r.state.at)) m;
        }) (λ k. every))
        (λ z. every)

module _ (e : Env) (fine : Fine e) (g : Target e.words) where
  module _ (x : State) (t : Tables) (b : List Binding) (room : List ℤ) (v : Valid e (run x t b room)) (l : x.live ≡ 1) where
    waiting : (j : ℕ) → j < entries → Held e.words (get_or t.ats j 0) (get_or t.backs j 0)
    waiting j h = v.waits.held j h (λ z. absurd (omega arith))

    word_64 : x.marks < 2 ^ 64
    word_64 = held_64 e.words x.at x.marks g v.held

    strip_keeps : (get_or e.op x.pc 0 ≡ 0 → ⊥) → Valid e (run (moved (counted x) (x.pc + 1) x.at x.marks) t b room)
    unfolding moved counted
    strip_keeps n = record {
      place = next_place_lem e.op x.pc fine.last v.place n;
      held = v.held;
      frames = v.frames;
      waits = record { held = λ j h z. waiting j h };
      binds = v.binds;
      room = v.room;
      counts = (let q = v.counts in omega arith);
      long = v.long;
    }

    drop_keeps : (b' : List Binding) → Bound e.words b' 16 → Valid e (run (dropped e.from e.to t.ats t.backs (counted x)) t b' room)
    unfolding dropped moved counted
    drop_keeps b' w = record {
      place = fine.places x.pc v.place;
      held = waiting _ (fine.slots x.pc v.place);
      frames = v.frames;
      waits = record { held = λ j h z. waiting j h };
      binds = w;
      room = v.room;
      counts = (let q = v.counts in omega arith);
      long = v.long;
    }

    back_keeps : Valid e (run (lived (counted x) 2) t b room)
    unfolding lived counted
    back_keeps = record {
      place = v.place;
      held = v.held;
      frames = v.frames;
      waits = record { held = λ j h z. waiting j h };
      binds = v.binds;
      room = v.room;
      counts = (let q = v.counts in omega arith);
      long = v.long;
    }

    push_keeps : (c : ℕ) → get_or e.op x.pc 0 < 11 → Frame (get_or e.op x.pc 0) e.words x.pc x.at x.marks c → Valid e (run (pushed (counted x)) (pushed_in c (counted x) t) b room)
    unfolding pushed pushed_in counted
    push_keeps c u f = record {
      place = v.place;
      held = v.held;
      frames = record {
        last = record { frame = λ n. let z : x.pc + 1 - 1 ≡ x.pc = omega arith in rw (z, get_or-set_same t.ats x.pc x.at 0 (omega (arith, v.long.ats, v.place)), get_or-set_same t.wholes x.pc x.marks 0 (omega (arith, v.long.wholes, v.place)), get_or-set_same t.lefts x.pc c 0 (omega (arith, v.long.lefts, v.place))) f };
        below = λ i h. by_place _ x.pc i
            (λ z. rw (z, get_or-set_same t.lows x.pc x.top 0 (omega (arith, v.long.lows, v.place))) (kept x.top v.frames.last))
            (λ n. rw (get_or-set_other t.lows x.pc i x.top 0 n) (kept (get_or t.lows i 0) (v.frames.below i h)));
      };
      waits = record { held = λ j h z. let n : j ≡ x.pc → ⊥ = λ q. z refl (omega arith) (rw q u) in rw (get_or-set_other t.ats x.pc j x.at 0 n) (waiting j h) };
      binds = v.binds;
      room = v.room;
      counts = (let q = v.counts in omega arith);
      long = record {
        ats = length-set t.ats x.pc x.at ∙ v.long.ats;
        wholes = length-set t.wholes x.pc x.marks ∙ v.long.wholes;
        lefts = length-set t.lefts x.pc c ∙ v.long.lefts;
        lows = length-set t.lows x.pc x.top ∙ v.long.lows;
        backs = v.long.backs;
      };
    }
      where
        kept : (top : ℕ) → Picks e.op e.words top t.ats t.wholes t.lefts
            → Picks e.op e.words top (set t.ats x.pc x.at) (set t.wholes x.pc x.marks) (set t.lefts x.pc c)
        kept top p = record { frame = λ n. frame_pushed e.op e.words t v.long x.pc v.place x.at x.marks c (top - 1) f (p.frame n) }

    -- The choices that a frame is opened with.
    opened : (c : ℕ) → Chosen x.marks c → 7 < get_or e.op x.pc 0 → get_or e.op x.pc 0 < 11 → none_of (get_or e.op x.pc 0) x.marks ≡ false
        → Frame (get_or e.op x.pc 0) e.words x.pc x.at x.marks (opens_with (get_or e.op x.pc 0) x.marks c)
    unfolding none_of opens_with when
    opened c i o u f = when_if (λ (c : ℕ). Frame (get_or e.op x.pc 0) e.words x.pc x.at x.marks c) (eqb (get_or e.op x.pc 0) 10) 0 _
        (λ z. let y = eqb-true (get_or e.op x.pc 0) 10 z in record {
          place = v.place;
          splits = o;
          chooses = omega arith;
          whole = λ n. absurd (omega arith);
          held = λ n. v.held;
          within = λ n. omega arith;
          some = λ n. absurd (omega arith);
          there = λ n. absurd (omega arith);
        })
        (λ z. let y = eqb-false (get_or e.op x.pc 0) 10 z in let p = marked y in
        when_if (λ (c : ℕ). Frame (get_or e.op x.pc 0) e.words x.pc x.at x.marks c) (eqb (get_or e.op x.pc 0) 8) _ _
        (λ k. let q = low_le x.marks p word_64 in let h = v.held.marks in record {
          place = v.place;
          splits = o;
          chooses = omega arith;
          whole = λ n. absurd (omega arith);
          held = λ n. v.held;
          within = λ n. absurd (y n);
          some = λ n. pow_pos (count_trailing_zeros 64 x.marks);
          there = λ n. omega arith;
        })
        (λ k. record {
          place = v.place;
          splits = o;
          chooses = omega arith;
          whole = λ n. absurd (omega arith);
          held = λ n. v.held;
          within = λ n. absurd (y n);
          some = λ n. i.some p;
          there = λ n. let h = v.held.marks in let k = i.among in omega arith;
        }))
      where
        marked : (get_or e.op x.pc 0 ≡ 10 → ⊥) → 0 < x.marks
        marked n = let k : eqb x.marks 0 ≡ false = rw (ne_eqb (get_or e.op x.pc 0) 10 n) at f in let d = eqb-false x.marks 0 k in omega arith

    split_keeps : (c : ℕ) → Chosen x.marks c → 7 < get_or e.op x.pc 0 → get_or e.op x.pc 0 < 11
        → Valid e (after_turn (split_of (get_or e.op x.pc 0) c (counted x) t) b room)
    unfolding split_of counted after_turn
    split_keeps c i o u = when_if (λ (u : Turned). Valid e (run u.state u.tables b room)) (none_of (get_or e.op x.pc 0) x.marks) _ _
        (λ z. back_keeps) (λ z. push_keeps _ u (opened c i o u z))

    -- A tuple: no frame is open at its place or at those reserved, where its parts wait.
    module _ (n : ℕ) (o : get_or e.op x.pc 0 ≡ 10 + n) (z : 0 < n) (few : n < 4) (w : count_at e.words x.at ≡ n + 1) where
      part_tag : (i : ℕ) → i < n + 1 → Tag e.words (element_at e.words x.at i)
      part_tag i h = element_tag e.words x.at i g v.held.tag (omega arith)

      room_for : x.pc + n < entries
      room_for = let h = fine.parts x.pc v.place (omega arith) (omega arith) in omega arith

      no_frame : (j : ℕ) → x.pc ≤ j → j < x.pc + n → 7 < get_or e.op j 0 → (10 < get_or e.op j 0 → 14 < get_or e.op j 0) → ⊥
      no_frame j a b c d = by_place _ x.pc j
          (λ y. let q : get_or e.op j 0 ≡ 10 + n = rw y o in let k = d (omega arith) in omega arith)
          (λ y. let k : x.pc + (j - x.pc) ≡ j = omega arith in let q = rw k at (fine.reserved x.pc (j - x.pc) (omega arith) (omega arith) (omega arith)) in omega arith)

      parts_kept : (top : ℕ) → Picks e.op e.words top t.ats t.wholes t.lefts
          → Picks e.op e.words top (stored (element_at e.words x.at) x.pc 1 n t.ats) t.wholes t.lefts
      parts_kept top p = record {
        frame = λ y. let f = p.frame y in by_range _ x.pc (x.pc + n) (top - 1)
            (λ h. rw (stored_before (element_at e.words x.at) x.pc 1 n t.ats (top - 1) h) f)
            (λ h k. absurd (no_frame (top - 1) h k f.splits f.whole))
            (λ h. rw (stored_after (element_at e.words x.at) x.pc 1 n t.ats (top - 1) h) f);
      }

      parts_wait : (j : ℕ) → j < entries
          → Held e.words (get_or (stored (element_at e.words x.at) x.pc 1 n t.ats) j 0) (get_or (stored (part_marks e.words x.at) x.pc 1 n t.backs) j 0)
      unfolding part_marks
      parts_wait j l = by_range _ x.pc (x.pc + n) j
          (λ h. rw (stored_before (element_at e.words x.at) x.pc 1 n t.ats j h, stored_before (part_marks e.words x.at) x.pc 1 n t.backs j h) (waiting j l))
          (λ h k.
          let q : x.pc + (j - x.pc) ≡ j = omega arith in
          let r = room_for in
          let a = stored_at (element_at e.words x.at) x.pc 1 n t.ats (j - x.pc) (omega arith) (omega (arith, v.long.ats)) in
          let b = stored_at (part_marks e.words x.at) x.pc 1 n t.backs (j - x.pc) (omega arith) (omega (arith, v.long.backs)) in
          rw (rw q at a, rw q at b) (held_whole (element_at e.words x.at (1 + (j - x.pc))) (part_tag (1 + (j - x.pc)) (omega arith))))
          (λ h. rw (stored_after (element_at e.words x.at) x.pc 1 n t.ats j h, stored_after (part_marks e.words x.at) x.pc 1 n t.backs j h) (waiting j l))

      parts_keep : Valid e (run (moved (counted x) (x.pc + n) (element_at e.words x.at 0) (part_marks e.words x.at 0))
          (tables (stored (element_at e.words x.at) x.pc 1 n t.ats) t.wholes t.lefts t.lows (stored (part_marks e.words x.at) x.pc 1 n t.backs)) b room)
      unfolding moved counted part_marks
      parts_keep = record {
        place = room_for;
        held = held_whole (element_at e.words x.at 0) (part_tag 0 (omega arith));
        frames = record { last = parts_kept x.top v.frames.last; below = λ i h. parts_kept (get_or t.lows i 0) (v.frames.below i h) };
        waits = record { held = λ j h y. parts_wait j h };
        binds = v.binds;
        room = v.room;
        counts = (let q = v.counts in omega arith);
        long = record {
          ats = stored_length (element_at e.words x.at) x.pc 1 n t.ats ∙ v.long.ats;
          wholes = v.long.wholes;
          lefts = v.long.lefts;
          lows = v.long.lows;
          backs = stored_length (part_marks e.words x.at) x.pc 1 n t.backs ∙ v.long.backs;
        };
      }

    apart_keeps : (n : ℕ) → get_or e.op x.pc 0 ≡ 10 + n → 0 < n → n < 4 → Valid e (after_turn (apart_of e.words n (counted x) t) b room)
    unfolding apart_of apart_at apart_ats apart_backs is_wide after_turn counted
    apart_keeps n o z f = go (eqb (count_at e.words x.at) (n + 1)) (eqb-true _ _)
      where
        go : (q : Bool) → (q ≡ true → count_at e.words x.at ≡ n + 1)
            → Valid e (run (when q (moved (counted x) (x.pc + n) (element_at e.words x.at 0) (part_marks e.words x.at 0)) (lived (counted x) 2))
            (tables (when q (stored (element_at e.words x.at) x.pc 1 n t.ats) t.ats) t.wholes t.lefts t.lows
            (when q (stored (part_marks e.words x.at) x.pc 1 n t.backs) t.backs)) b room)
        go true w = parts_keep n o z f (w refl)
        go false w = back_keeps

    -- And, or, not: the value waits at the state's own place.
    module _ (k : 13 < get_or e.op x.pc 0) where
      side_kept : (top : ℕ) → Picks e.op e.words top t.ats t.wholes t.lefts
          → Picks e.op e.words top (set t.ats x.pc x.at) t.wholes t.lefts
      side_kept top p = record { frame = λ n. frame_waits e.op e.words t v.long x.pc v.place k x.at (top - 1) (p.frame n) }

      side_waits : (j : ℕ) → j < entries → Held e.words (get_or (set t.ats x.pc x.at) j 0) (get_or (set t.backs x.pc x.marks) j 0)
      side_waits j h = by_place _ x.pc j
          (λ z. rw (z, get_or-set_same t.ats x.pc x.at 0 (omega (arith, v.long.ats, v.place)), get_or-set_same t.backs x.pc x.marks 0 (omega (arith, v.long.backs, v.place))) v.held)
          (λ n. rw (get_or-set_other t.ats x.pc j x.at 0 n, get_or-set_other t.backs x.pc j x.marks 0 n) (waiting j h))

      both_keeps : Valid e (run (kept_at (counted x)) (kept_in (counted x) t) b room)
      unfolding kept_at kept_in moved counted
      both_keeps = record {
        place = next_place_lem e.op x.pc fine.last v.place (λ z. omega arith);
        held = v.held;
        frames = record { last = side_kept x.top v.frames.last; below = λ i h. side_kept (get_or t.lows i 0) (v.frames.below i h) };
        waits = record { held = λ j h y. side_waits j h };
        binds = v.binds;
        room = v.room;
        counts = (let q = v.counts in omega arith);
        long = record {
          ats = length-set t.ats x.pc x.at ∙ v.long.ats;
          wholes = v.long.wholes;
          lefts = v.long.lefts;
          lows = v.long.lows;
          backs = length-set t.backs x.pc x.marks ∙ v.long.backs;
        };
      }

      frame_keeps : 14 < get_or e.op x.pc 0 → get_or e.op x.pc 0 < 17 → Valid e (run (framed_at (counted x)) (framed_in (counted x) t) b room)
      unfolding framed_at framed_in counted
      frame_keeps o u = record {
        place = next_place_lem e.op x.pc fine.last v.place (λ z. omega arith);
        held = v.held;
        frames = record {
          last = record { frame = λ n. let z : x.pc + 1 - 1 ≡ x.pc = omega arith in rw z (frame_beyond (get_or e.op x.pc 0) e.words x.pc _ _ _ v.place o u) };
          below = λ i h. by_place _ x.pc i
              (λ z. rw (z, get_or-set_same t.lows x.pc x.top 0 (omega (arith, v.long.lows, v.place))) (side_kept x.top v.frames.last))
              (λ n. rw (get_or-set_other t.lows x.pc i x.top 0 n) (side_kept (get_or t.lows i 0) (v.frames.below i h)));
        };
        waits = record { held = λ j h y. side_waits j h };
        binds = v.binds;
        room = v.room;
        counts = (let q = v.counts in omega arith);
        long = record {
          ats = length-set t.ats x.pc x.at ∙ v.long.ats;
          wholes = v.long.wholes;
          lefts = v.long.lefts;
          lows = length-set t.lows x.pc x.top ∙ v.long.lows;
          backs = length-set t.backs x.pc x.marks ∙ v.long.backs;
        };
      }

    -- The end of the search inside a not: the frame below the not's is the last.
    cut_keeps : Valid e (run (cut_to e.from t.lows (counted x)) t b room)
    unfolding cut_to counted
    cut_keeps = record {
      place = v.place;
      held = v.held;
      frames = record { last = v.frames.below (get_or e.from x.pc 0) (fine.slots x.pc v.place); below = v.frames.below };
      waits = record { held = λ j h z. waiting j h };
      binds = v.binds;
      room = v.room;
      counts = (let q = v.counts in omega arith);
      long = v.long;
    }

    sides_keep : 13 < get_or e.op x.pc 0 → Valid e (after_turn (sides_of (get_or e.op x.pc 0) e.from (counted x) t) b room)
    unfolding sides_of after_turn
    sides_keep k = when_if at_turn (eqb (get_or e.op x.pc 0) 14) _ _ (λ z. both_keeps k)
        (λ z. let d = eqb-false (get_or e.op x.pc 0) 14 z in
        when_if at_turn (ltb (get_or e.op x.pc 0) 17) _ _ (λ y. frame_keeps k (omega arith) (ltb-true _ 17 y))
        (λ y. when_if at_turn (eqb (get_or e.op x.pc 0) 17) _ _ (λ w. cut_keeps) (λ w. back_keeps)))
      where
        at_turn : Turned → Type 0
        at_turn u = Valid e (run u.state u.tables b room)

    divide_keeps : (c : ℕ) → Chosen x.marks c → 7 < get_or e.op x.pc 0 → Valid e (after_turn (divide_of e.words (get_or e.op x.pc 0) c e.from (counted x) t) b room)
    unfolding divide_of after_turn
    divide_keeps c i o = when_if (λ (u : Turned). Valid e (run u.state u.tables b room)) (ltb 10 (get_or e.op x.pc 0)) _ _
        (λ z. let h : 10 < get_or e.op x.pc 0 = ltb-true 10 _ z in
        when_if (λ (u : Turned). Valid e (run u.state u.tables b room)) (ltb (get_or e.op x.pc 0) 14) _ _
        (λ y. let k : get_or e.op x.pc 0 < 14 = ltb-true _ 14 y in apart_keeps (get_or e.op x.pc 0 - 10) (omega arith) (omega arith) (omega arith))
        (λ y. let k : 14 ≤ get_or e.op x.pc 0 = ltb-false _ 14 y in sides_keep (omega arith)))
        (λ z. let h : get_or e.op x.pc 0 ≤ 10 = ltb-false 10 _ z in split_keeps c i o (omega arith))

    step_keeps : (q : Bool) (c : ℕ) → Chosen x.marks c → (get_or e.op x.pc 0 ≡ 0 → ⊥) → Valid e (after_turn (step_of e.op e.from e.to e.con e.words q c x t) b room)
    unfolding step_of step_by after_turn counted
    step_keeps q c i n =
        when_if at_turn (eqb (get_or e.op x.pc 0) 1) _ _ (λ z. strip_keeps n)
        (λ z. when_if at_turn (ltb 7 (get_or e.op x.pc 0)) _ _ (λ k. divide_keeps c i (ltb-true 7 _ k))
        (λ k. when_if at_turn (passes_of (get_or e.op x.pc 0) q e.words x.at x.marks (get_or e.con x.pc (pos 0))) _ _
        (λ y. drop_keeps b v.binds) (λ y. back_keeps)))
      where
        at_turn : Turned → Type 0
        at_turn u = Valid e (run u.state u.tables b room)

    bind_keeps : get_or e.op x.pc 0 ≡ 3 → Valid e (take_bind e (run x t b room))
    unfolding take_bind
    bind_keeps three = drop_keeps (set b i now) (record {
      most = omega arith;
      long = length-set b i now ∙ v.binds.long;
      are = λ j h. by_place _ i j
          (λ z. rw (z, get_or-set_same b i now nothing (let k = fine.numbers x.pc v.place (omega arith) (omega arith) in omega (arith, v.binds.long))) v.held)
          (λ z. rw (get_or-set_other b i j now nothing z) (v.binds.are j h));
    })
      where
        i : ℕ
        i = get_or e.arg x.pc 0

        now : Binding
        now = record { at = x.at; marks = x.marks }

    end_keeps : (ws : List ℤ) → Valid e (after_end (end_by ws x room) t b)
    unfolding end_by after_end filled wrote
    end_keeps ws = when_if (λ (u : Ended). Valid e (run u.state t b u.room)) (ltb (length room - x.words) (length ws)) _ _
        (λ z. record {
          place = v.place;
          held = v.held;
          frames = v.frames;
          waits = record { held = λ j h y. waiting j h };
          binds = v.binds;
          room = v.room;
          counts = (let q = v.counts in omega arith);
          long = v.long;
        })
        (λ z. let f = ltb-false (length room - x.words) (length ws) z in let k = v.room in record {
          place = v.place;
          held = v.held;
          frames = v.frames;
          waits = record { held = λ j h y. waiting j h };
          binds = v.binds;
          room = rw (length_put room x.words ws) (omega arith);
          counts = (let q = v.counts in omega arith);
          long = v.long;
        })

  pub take_keeps : (r : Run) → Valid e r → r.state.live ≡ 1 → Valid e (take_of e r)
  unfolding take_of take_end take_step end_of
  take_keeps r v l =
      when_if (Valid e) (eqb (get_or e.op r.state.pc 0) 0) _ _ (λ z. end_keeps r.state r.tables r.binds r.room v l (row e.form (bound e.words r.binds e.vars)))
      (λ z. when_if (Valid e) (eqb (get_or e.op r.state.pc 0) 3) _ _ (λ k. bind_keeps r.state r.tables r.binds r.room v l (eqb-true _ _ k))
      (λ k. step_keeps r.state r.tables r.binds r.room v l (asked e r) (choices_of e r) (chosen_are e g r v.held) (eqb-false _ _ z)))
