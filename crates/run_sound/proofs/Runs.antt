-- The tests of a program's lines, each answer as the code asks for it. Assumes nothing.
use Prim.Native.Nat.{ℕ, zero, suc, ◌+◌, ◌-◌, ◌*◌, ◌≤◌, ◌<◌}
use native.Mathlib.Omega.{arith}
use mathlib.Core.Path.{◌≡◌, refl, sym, ap, ◌∙◌}
use mathlib.Core.Bool.{Bool, true, false, not}
use mathlib.Core.List.{List}
use lib.ListN.{length, get_or}
use lib.Dec.{eqb, ltb}
use lib.IntN.{ℤ}
use borrow.Author.Rules.{rules}
use borrow.Author.Tests.{eq-eqb, eqb-true, eqb-false, ltb-true, ltb-false}
use Rattle.words.specs.Words.{entries}
use Rattle.tables.specs.declared.slot.Held as held-slot
use Rattle.tables.specs.declared.slot.Frame as frame-slot
use Rattle.tables.specs.Section.{section}
use Rattle.tables.specs.Slot.{slot_count, Tables, by_line, view_of, Slotted, held_in, frame_in}
use Rattle.tables.specs.SlotLaws.{long_list, line_at}
use Rattle.value_places.specs.Held.{Held}
use Rattle.value_rows.specs.Row.{Bound}
use Rattle.value_rows.specs.declared.Binding.{Binding}
use Rattle.search_step.specs.declared.State.{State}
use Rattle.search_choice.specs.Choices.{Frame, Picks}
use Rattle.run_sound.specs.Tested.{Decides}
use Rattle.run_sound.specs.Sound.{Numbered, Closes, Line, Lined, Sound}
use Rattle.run_sound.proofs.Tests.{refuted, upheld, never, always, alike}

pub numbered_slot : (arg slots : List ℕ) (j : ℕ) → Numbered arg slots → j < entries → Slotted arg slots j
numbered_slot arg slots j n h = record { place = h; slot = n.slot j; long = n.long }

-- ---- The frame that is named.

module _ (op : List ℕ) (s : List ℤ) (top : ℕ) (t : Tables) where
  pub open_none : top ≡ 0 → Decides true (Picks op s top t.ats t.wholes t.lefts)
  open_none e = always (record { frame = λ n. absurd (n e) })

  module _ (some : top ≡ 0 → ⊥) where
    pub open_out : entries ≤ top - 1 → Decides false (Picks op s top t.ats t.wholes t.lefts)
    open_out h = never (λ p. let q = (p.frame some).place in omega arith)

    pub open_then : (o : ℕ) (f : frame-slot.Frame) (r : Bool) → o ≡ get_or op (top - 1) 0 → f ≡ frame_in t (top - 1)
        → Decides r (Frame o s (top - 1) f.at f.whole f.left) → Decides r (Picks op s top t.ats t.wholes t.lefts)
    unfolding frame_in
    open_then o f r e q d = alike d
        (λ p. record { frame = λ n. rw (← e) (rw q at p) })
        (λ p. rw (e, q) (p.frame some))

pub ruleset open_rules = (numbered_slot, open_none, open_out, open_then, rules)

-- ---- A line.

module _ (op : List ℕ) (s : List ℤ) (t : Tables) (j : ℕ) (h : held-slot.Held) (e : h ≡ held_in t j) (r : Bool) (d : Decides r (Held s h.at h.marks)) where
  pub line_unheld : not r ≡ true → Decides false (Line op s t j)
  unfolding held_in
  line_unheld n = never (λ l. refuted r n (d.whole (rw e l.held)))

  pub line_then : not r ≡ false → (low : ℕ) (q : Bool) → low ≡ get_or t.lows j 0 → Decides q (Picks op s low t.ats t.wholes t.lefts) → Decides q (Line op s t j)
  unfolding held_in
  line_then n low q k c = alike c
      (λ p. record { held = rw e at (d.sound (upheld r n)); below = rw (← k) p })
      (λ l. rw k l.below)

pub ruleset line_rules = (numbered_slot, line_unheld, line_then, rules)

-- ---- All lines: those before j are sound, and none of them is an end.

pub record LinedTo (op : List ℕ) (s : List ℤ) (t : Tables) (j : ℕ) : Type 0 where
  pub inside : j < entries
  pub each : (i : ℕ) → i < j → Line op s t i

pub lines_first : (op : List ℕ) (s : List ℤ) (t : Tables) → LinedTo op s t 0
lines_first op s t = record { inside = omega arith; each = λ i h. absurd (omega arith) }

pub lines_inside : (op : List ℕ) (s : List ℤ) (t : Tables) (j : ℕ) → LinedTo op s t j → j < entries
lines_inside op s t j l = l.inside

pub lines_not : (op : List ℕ) (s : List ℤ) (t : Tables) (j : ℕ) (r : Bool) → j < entries → Decides r (Line op s t j) → not r ≡ true → Decides false (Lined op s t)
lines_not op s t j r h d n = never (λ l. refuted r n (d.whole (l.each j h)))

pub lines_next : (op arg : List ℕ) (s : List ℤ) (t : Tables) (j : ℕ) (y r : Bool) → Closes op arg → Decides y (get_or op j 0 ≡ 0) → not y ≡ true → Decides r (Line op s t j) → not r ≡ false
    → LinedTo op s t j → LinedTo op s t (j + 1)
lines_next op arg s t j y r c e z d n l = record { inside = go (eqb j (entries - 1)) refl; each = λ i h. by i h (eqb i j) refl }
  where
    go : (q : Bool) → eqb j (entries - 1) ≡ q → j + 1 < entries
    go true u = absurd (refuted y z (e.whole (ap (λ k. get_or op k 0) (eqb-true j (entries - 1) u) ∙ c.last)))
    go false u = let a = eqb-false j (entries - 1) u in let b = l.inside in omega arith

    by : (i : ℕ) → i < j + 1 → (q : Bool) → eqb i j ≡ q → Line op s t i
    by i h true y = rw (eqb-true i j y) (d.sound (upheld r n))
    by i h false y = l.each i (let a = eqb-false i j y in omega arith)

-- Lines with one slot between them.
module _ (arg slots : List ℕ) (n : Numbered arg slots) (i j : ℕ) (a : i < entries) (b : j < entries) (e : get_or arg i 0 ≡ get_or arg j 0) where
  alike_at : (c : ℕ) → c ≤ 4 → get_or (by_line arg (section slot_count c slots)) i 0 ≡ get_or (by_line arg (section slot_count c slots)) j 0
  alike_at c h = sym (line_at arg slots i a (n.slot i) (long_list arg slots n.long) c h) ∙ ap (λ k. get_or slots (c * slot_count + k) 0) e ∙ line_at arg slots j b (n.slot j) (long_list arg slots n.long) c h

  line_alike : (op : List ℕ) (s : List ℤ) → Line op s (view_of arg slots) j → Line op s (view_of arg slots) i
  unfolding view_of
  line_alike op s l = record {
    held = rw (alike_at 0 (omega arith), alike_at 4 (omega arith)) l.held;
    below = rw (alike_at 3 (omega arith)) l.below;
  }

pub lines_all : (op arg slots : List ℕ) (s : List ℤ) (j : ℕ) (u r q : Bool) → Numbered arg slots → Closes op arg → Decides u (get_or op j 0 ≡ 0) → not u ≡ false
    → LinedTo op s (view_of arg slots) j → Decides r (Line op s (view_of arg slots) j) → not r ≡ false
    → Decides q (Line op s (view_of arg slots) (entries - 1)) → Decides q (Lined op s (view_of arg slots))
lines_all op arg slots s j u r q n c e z l d k f = alike f
    (λ p. record { each = λ i h. by i h p (eqb i j) refl (ltb i j) refl })
    (λ p. p.each (entries - 1) (omega arith))
  where
    by : (i : ℕ) → i < entries → Line op s (view_of arg slots) (entries - 1) → (y : Bool) → eqb i j ≡ y → (w : Bool) → ltb i j ≡ w → Line op s (view_of arg slots) i
    by i h p true y w v = rw (eqb-true i j y) (d.sound (upheld r k))
    by i h p false y true v = l.each i (ltb-true i j v)
    by i h p false y false v = line_alike arg slots n i (entries - 1) h (omega arith)
        (c.after j i (e.sound (upheld u z)) (let a = eqb-false i j y in let b = ltb-false i j v in omega arith)
        ∙ sym (c.after j (entries - 1) (e.sound (upheld u z)) (let a = eqb-false i j y in let b = ltb-false i j v in omega arith))) op s p

pub end_is : (o n : ℕ) → o ≡ n → Decides (eqb o 0) (n ≡ 0)
end_is o n i = record { sound = λ e. sym i ∙ eqb-true o 0 e; whole = λ e. eq-eqb o 0 (i ∙ e) }

pub ruleset lines_rules = (end_is, lines_first, lines_inside, lines_not, lines_next, lines_all, rules)

-- ---- The run.

module _ (op : List ℕ) (s : List ℤ) (t : Tables) (x : State) (b : List Binding) (size : ℕ) where
  pub sound_place : entries ≤ x.pc → Decides false (Sound op s t x b size)
  sound_place h = never (λ p. let q = p.place in omega arith)

  pub sound_room : size < x.words → Decides false (Sound op s t x b size)
  sound_room h = never (λ p. let q = p.room in omega arith)

  pub sound_counts : x.steps < x.rows → Decides false (Sound op s t x b size)
  sound_counts h = never (λ p. let q = p.counts in omega arith)

  pub sound_held : (r : Bool) → Decides r (Held s x.at x.marks) → not r ≡ true → Decides false (Sound op s t x b size)
  sound_held r d n = never (λ p. refuted r n (d.whole p.held))

  pub sound_last : (r : Bool) → Decides r (Picks op s x.top t.ats t.wholes t.lefts) → not r ≡ true → Decides false (Sound op s t x b size)
  sound_last r d n = never (λ p. refuted r n (d.whole p.last))

  pub sound_binds : (r : Bool) → Decides r (Bound s b 16) → not r ≡ true → Decides false (Sound op s t x b size)
  sound_binds r d n = never (λ p. refuted r n (d.whole p.binds))

  pub sound_then : (h o c r : Bool) → x.pc < entries → x.words ≤ size → x.rows ≤ x.steps → Decides h (Held s x.at x.marks) → not h ≡ false
      → Decides o (Picks op s x.top t.ats t.wholes t.lefts) → not o ≡ false → Decides c (Bound s b 16) → not c ≡ false → Decides r (Lined op s t)
      → Decides r (Sound op s t x b size)
  sound_then h o c r p w k dh nh df nf dc nc dr = alike dr
      (λ l. record {
        place = p;
        held = dh.sound (upheld h nh);
        last = df.sound (upheld o nf);
        room = w;
        counts = k;
        binds = dc.sound (upheld c nc);
        lines = l;
      })
      (λ q. q.lines)

pub ruleset sound_rules = (sound_place, sound_room, sound_counts, sound_held, sound_last, sound_binds, sound_then, rules)
