-- The laws that the next choice of the last open frame asks for. Assumes nothing.
use mathlib.Core.Path.{◌≡◌, refl, sym, ap, ◌∙◌}
use mathlib.Core.Bool.{Bool, true, false}
use mathlib.Core.List.{List}
use Prim.Native.Nat.{ℕ, ◌+◌, ◌-◌, ◌^◌, ◌<◌, ◌≤◌}
use native.Mathlib.Omega.{arith}
use borrow.Author.Rules.{rules}
use lib.ListN.{length, get_or, length-set}
use lib.Dec.{eqb}
use lib.IntN.{ℤ}
use lib.Count.{count_trailing_zeros}
use Rattle.words.specs.Words.{entries}
use Rattle.words.specs.Marks.{clear}
use Rattle.tables.specs.declared.slot.Held.{Held}
use Rattle.tables.specs.declared.slot.Frame.{Frame}
use Rattle.tables.specs.Slot.{Tables, view_of, Slotted, Alone, held_in, frame_in, put_back}
use Rattle.value_places.specs.Places.{Target, Tag, count_at, marks_at, element_at}
use Rattle.value_places.specs.Held.{whole_at}
use Rattle.value_places.proofs.Elements.{element_tag}
use Rattle.value_places.proofs.Held.{marks_count, held_64}
use Rattle.search_atom.specs.Leaves.{when, top_by, left_in, longer_of, slot_by}
use Rattle.search_atom.proofs.Laws.{when_eq, when_ne, when_lt, when_le}
use Rattle.search_step.specs.declared.State.{State}
use Rattle.search_step.specs.Steps.{Turned, turned, moved, lived, topped}
use Rattle.search_step.proofs.Laws.{low_there, cases}
use Rattle.search_choice.specs.Choices.{top_left, join_of, join_by, cons_of, cons_by, resumed_by, resumed_at, resume_of, choice_of, pick_of, Joins, Conses, Named, Picks, PicksIf}

-- A state with that frame as its last.
topped_left : (more j top : ℕ) (lows : List ℕ) (x : State) → top ≡ top_by more j lows x.top → topped x top ≡ top_left more j lows x
unfolding top_by top_left topped when
topped_left more j top lows x e = go (eqb more 0) e
  where
    go : (b : Bool) → top ≡ when b (get_or lows j 0) x.top → topped x top ≡ when b (topped x (get_or lows j 0)) x
    go true h = rw h
    go false h = rw h

-- ---- The frame that is read.

module _ (s : List ℤ) (t : Tables) (pc k : ℕ) (f : Frame) (i : f ≡ frame_in t pc) (g : Target s) (c : Conses s t.ats t.lefts pc) (e : k ≡ count_trailing_zeros 64 f.left) where
  there : k < count_at s (get_or t.ats pc 0)
  unfolding frame_in
  there =
      let p = marks_count s (get_or t.ats pc 0) in
      let q = low_there (marks_at s (get_or t.ats pc 0)) (get_or t.lefts pc 0) (omega (arith, g.small (get_or t.ats pc 0) c.tag)) c.some c.there in
      let z : k ≡ count_trailing_zeros 64 (get_or t.lefts pc 0) = rw i at e in
      omega arith

  pub cons_there : k < count_at s f.at
  unfolding frame_in
  cons_there = rw i there

  pub cons_64 : k < 64
  cons_64 = let h = there in let l = g.small (get_or t.ats pc 0) c.tag in omega arith

  pub cons_at : Tag s f.at
  unfolding frame_in
  cons_at = rw i c.tag

  pub cons_some : 0 < f.left
  unfolding frame_in
  cons_some = rw i c.some

  pub cons_tag : (p : ℕ) → p ≡ element_at s f.at k → Tag s p
  cons_tag p q = rw q (element_tag s f.at k g cons_at cons_there)

pub long_back : (arg t u : List ℕ) (pc b : ℕ) → Slotted arg t pc → view_of arg u ≡ put_back pc b (view_of arg t) → Slotted arg u pc
unfolding put_back
long_back arg t u pc b h e = record { place = h.place; slot = h.slot; long = ap (λ (v : Tables). length v.backs) e ∙ length-set (view_of arg t).backs pc b ∙ h.long }

pub cons_is : (s : List ℤ) (pc k e m b more top : ℕ) (x : State) (t u v : Tables) (f : Frame) → f ≡ frame_in t pc
    → k ≡ count_trailing_zeros 64 f.left → e ≡ element_at s f.at k → m ≡ whole_at s e → b ≡ clear k f.whole → u ≡ put_back pc b t
    → more ≡ clear (count_trailing_zeros 64 f.left) f.left → top ≡ top_by more pc u.lows x.top → v ≡ left_in more pc u
    → turned (topped (moved x (pc + 1) e m) top) v ≡ cons_of s pc x t
unfolding cons_of cons_by frame_in put_back left_in
cons_is s pc k e m b more top x t u v f p₀ p₁ p₂ p₃ p₄ p₅ p₆ p₇ p₈ = rw (topped_left more pc top u.lows (moved x (pc + 1) e m) p₇, p₈, p₆, p₅, p₄, p₃, p₂, p₁, p₀)

module _ (t : Tables) (pc : ℕ) (f : Frame) (i : f ≡ frame_in t pc) (h : Joins t.wholes t.lefts pc) where
  pub join_within : f.left ≤ f.whole
  unfolding frame_in
  join_within = rw i h.within

  pub join_word : f.left + (f.whole - f.left) < 2 ^ 64
  unfolding frame_in
  join_word = let w = h.within in let l = h.word in rw i (omega arith)

pub join_is : (pc more top : ℕ) (x : State) (t u v : Tables) (f : Frame) → f ≡ frame_in t pc → u ≡ put_back pc (f.whole - f.left) t
    → more ≡ longer_of f.left (f.whole - f.left) → top ≡ top_by more pc u.lows x.top → v ≡ left_in more pc u
    → turned (topped (moved x (pc + 1) f.at f.left) top) v ≡ join_of pc x t
unfolding join_of join_by frame_in put_back left_in
join_is pc more top x t u v f p₀ p₁ p₂ p₃ p₄ = rw (topped_left more pc top u.lows (moved x (pc + 1) f.at f.left) p₃, p₄, p₂, p₁, p₀)

-- ---- An or or a not.

pub resume_slot : (o j i : ℕ) (from arg t : List ℕ) → Slotted arg t j → Slotted arg t (get_or from j 0) → i ≡ slot_by o j from → Slotted arg t i
unfolding slot_by when
resume_slot o j i from arg t a b e = rw e (go (eqb o 15))
  where
    go : (c : Bool) → Slotted arg t (when c j (get_or from j 0))
    go true = a
    go false = b

pub resume_is : (o j i a l : ℕ) (from to : List ℕ) (t : Tables) (h : Held) (x : State) → i ≡ slot_by o j from → a ≡ get_or to j 0 → h ≡ held_in t i → l ≡ get_or t.lows j 0
    → topped (moved x a h.at h.marks) l ≡ resumed_at o j from to t.ats t.lows t.backs x
unfolding resumed_at resumed_by moved topped held_in
resume_is o j i a l from to t h x e f g k = rw (k, g, f, e)

pub ruleset resume_rules = (resume_slot, resume_is, rules)

module _ (op : List ℕ) (s : List ℤ) (top : ℕ) (ats wholes lefts : List ℕ) (g : Target s) (p : Picks op s top ats wholes lefts) (n : top ≡ 0 → ⊥) where
  pub pick_place : top - 1 < entries
  pick_place = (p.frame n).place

  pub pick_join : (o : ℕ) → o ≡ get_or op (top - 1) 0 → o ≡ 10 → Joins wholes lefts (top - 1)
  pick_join o i e =
      let f = p.frame n in
      record { place = f.place; within = f.within (sym i ∙ e); word = held_64 s (get_or ats (top - 1) 0) (get_or wholes (top - 1) 0) g (f.held (omega arith)) }

  pub pick_cons : (o : ℕ) → o ≡ get_or op (top - 1) 0 → o ≤ 9 → Conses s ats lefts (top - 1)
  pick_cons o i e = let f = p.frame n in record { place = f.place; tag = (f.held (omega arith)).tag; some = f.some (omega arith); there = f.there (omega arith) }

  pub pick_slot : (from arg t : List ℕ) → Named op from arg t → Slotted arg t (top - 1)
  pick_slot from arg t h = record { place = pick_place; slot = h.slot (top - 1); long = h.long }

  pub pick_next : (from arg t : List ℕ) → Named op from arg t → Slotted arg t (get_or from (top - 1) 0)
  pick_next from arg t h = record { place = h.there (top - 1) pick_place; slot = h.slot (get_or from (top - 1) 0); long = h.long }

  pub pick_alone : (from arg t : List ℕ) → Named op from arg t → Alone arg (top - 1)
  pick_alone from arg t h = let f = p.frame n in h.alone (top - 1) f.place f.splits f.chooses

-- By the instruction o of the frame's line.
module _ (op from to : List ℕ) (s : List ℤ) (x y : State) (n : x.top ≡ 0 → ⊥) (o : ℕ) (i : o ≡ get_or op (x.top - 1) 0) (t : Tables) where
  by_op : (z : Turned) → z ≡ choice_of o (x.top - 1) from to s x t → z ≡ pick_of op from to s x t
  unfolding pick_of
  by_op z e = when_ne _ _ _ x.top 0 n (e ∙ ap (λ (k : ℕ). choice_of k (x.top - 1) from to s x t) i)

  pub picked_join : (u : Tables) → 9 < o → o ≡ 10 → turned y u ≡ join_of (x.top - 1) x t → turned y u ≡ pick_of op from to s x t
  unfolding choice_of
  picked_join u h z e = by_op _ (when_lt _ _ _ 9 o h (when_eq _ _ _ o 10 z e))

  pub picked_cons : (u : Tables) → o ≤ 9 → turned y u ≡ cons_of s (x.top - 1) x t → turned y u ≡ pick_of op from to s x t
  unfolding choice_of
  picked_cons u h e = by_op _ (when_le _ _ _ 9 o h e)

  pub picked_other : 9 < o → (o ≡ 10 → ⊥) → y ≡ resumed_at o (x.top - 1) from to t.ats t.lows t.backs x → turned y t ≡ pick_of op from to s x t
  unfolding choice_of resume_of
  picked_other h z e = by_op _ (when_lt _ _ _ 9 o h (when_ne _ _ _ o 10 z (rw e)))

pub pick_none : (op from to : List ℕ) (s : List ℤ) (x : State) (t : Tables) → x.top ≡ 0 → turned (lived x 0) t ≡ pick_of op from to s x t
unfolding pick_of
pick_none op from to s x t z = when_eq _ _ _ x.top 0 z refl

pub ruleset cons_rules = (cons_there, cons_64, cons_at, cons_some, cons_tag, long_back, cons_is, rules)

pub ruleset join_rules = (join_within, join_word, long_back, join_is, rules)

pub ruleset pick_rules = (pick_none, pick_place, pick_join, pick_cons, pick_slot, pick_next, pick_alone, picked_join, picked_cons, picked_other, cases)

pub settle_picks : (live : ℕ) (op : List ℕ) (s : List ℤ) (top : ℕ) (ats wholes lefts : List ℕ) → PicksIf live op s top ats wholes lefts → live ≡ 2
    → Picks op s top ats wholes lefts
settle_picks live op s top ats wholes lefts p e = p.picks e

pub ruleset settle_rules = (settle_picks, cases)
