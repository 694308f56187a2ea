-- The laws that the code of a step asks for. Assumes nothing.
use mathlib.Core.Path.{◌≡◌, refl, sym, ◌∙◌, ap}
use mathlib.Core.Bool.{Bool, true, false}
use mathlib.Core.List.{List}
use Prim.Native.Nat.{ℕ, ◌+◌, ◌-◌, ◌^◌, ◌<◌, ◌≤◌}
use native.Mathlib.Omega.{arith}
use borrow.Author.Rules.{rules}
use borrow.Author.Tests.{eqb-true}
use lib.ListN.{length, get_or}
use lib.IntN.{ℤ, pos}
use lib.Count.{count_trailing_zeros}
use lib.Pow.{pow_mono}
use Rattle.words.specs.Words.{entries}
use Rattle.words.specs.Marks.{clear}
use Rattle.words.proofs.marks.Places.{low_digit, digit_below}
use Rattle.tables.specs.declared.slot.Held as slots
use Rattle.tables.specs.declared.slot.Frame.{Frame}
use Rattle.tables.specs.Slot.{Tables, view_of, Slotted, Alone, held_in, put_held, put_frame, put_side, put_back}
use Rattle.value_places.specs.Places.{Target, Tag, count_at, marks_at, element_at}
use Rattle.value_places.specs.Held.{Held, whole_at}
use Rattle.value_places.proofs.Elements.{element_tag}
use Rattle.value_places.proofs.Held.{marks_count}
use Rattle.search_atom.specs.Leaves.{when, passes_of, none_of, opens_of, is_wide, part_marks, parts_in, Parts}
use Rattle.search_atom.proofs.Laws.{when_eq, when_ne, when_lt, when_le, when_true, when_false, flag_false}
use Rattle.search_step.specs.declared.State.{State}
use Rattle.search_step.specs.Steps.{Turned, turned, counted, moved, lived, topped, dropped, pushed, pushed_in, split_of, head_of, head_by, head_in}
use Rattle.search_step.specs.Steps.{apart_at, apart_ats, apart_backs, apart_of, kept_at, kept_in, framed_at, framed_in, cut_to, sides_of, divide_of, step_by, step_of, Owns, Steps, Divides, Aparts, Sides}

pub turned_at : (r r' : State) (t : Tables) → r ≡ r' → turned r t ≡ turned r' t
turned_at r r' t e = ap (λ x. turned x t) e

pub ruleset cases = (when_eq, when_ne, when_lt, when_le, when_true, when_false, flag_false, turned_at, rules)

-- ---- Slots.

module _ (o : ℕ) (arg slots : List ℕ) (pc : ℕ) (w : Owns o arg slots pc) where
  pub own_slot : (i : ℕ) → i < entries → Slotted arg slots i
  own_slot i h = record { place = h; slot = w.slot i; long = w.long }

  pub own_parts : (n : ℕ) → n ≡ o - 10 → 10 < o → o < 14 → Parts arg slots pc n
  own_parts n e h k = let f = w.fits h k in record { fits = omega arith; slot = w.slot; alone = λ i l. w.parts h k i (omega arith); long = w.long }

-- ---- The state.

pub slot_in : (f : ℕ) (from : List ℕ) (i : ℕ) (arg t : List ℕ) → f ≡ get_or from i 0 → Slotted arg t (get_or from i 0) → Slotted arg t f
slot_in f from i arg t e h = rw e h

pub drop_is : (x : State) (from to : List ℕ) (t : Tables) (f n : ℕ) (h : slots.Held) → f ≡ get_or from x.pc 0 → n ≡ get_or to x.pc 0 → h ≡ held_in t f
    → moved x n h.at h.marks ≡ dropped from to t.ats t.backs x
unfolding dropped held_in
drop_is x from to t f n h e g i = rw (i, g, e)

pub ruleset drop_rules = (slot_in, drop_is, rules)

pub push_is : (c : ℕ) (x : State) (t u : Tables) → u ≡ put_frame x.pc (record { at = x.at; whole = x.marks; left = c }) x.top t → u ≡ pushed_in c x t
unfolding put_frame pushed_in
push_is c x t u e = e

pub ruleset push_rules = (push_is, rules)

pub split_is : (b : Bool) (r : State) (o c : ℕ) (x : State) (t u : Tables) → b ≡ none_of o x.marks → b ≡ false → c ≡ opens_of o x.marks
    → r ≡ pushed x → u ≡ pushed_in c x t → turned r u ≡ split_of o x t
unfolding split_of
split_is b r o c x t u h f q a e = when_false _ _ _ b (none_of o x.marks) h f (rw (← q) (rw (a, e)))

pub ruleset split_rules = (split_is, cases)

-- ---- A list's cons.

-- The lowest of the choices left is an element that there is.
pub low_there : (n c : ℕ) → n ≤ 64 → 0 < c → c < 2 ^ n → count_trailing_zeros 64 c < n
low_there n c l h k = digit_below (count_trailing_zeros 64 c) n c (low_digit 64 c h (let p = pow_mono l in omega arith)) k

module _ (s : List ℤ) (at m k : ℕ) (g : Target s) (h : Held s at m) (n : m ≡ 0 → ⊥) (e : k ≡ count_trailing_zeros 64 m) where
  pub head_there : k < count_at s at
  head_there =
      let p = marks_count s at in
      let q = low_there (marks_at s at) m (omega (arith, g.small at h.tag)) (omega arith) h.marks in
      omega arith

  pub head_64 : k < 64
  head_64 = let a = head_there in let l = g.small at h.tag in omega arith

  pub head_tag : (i : ℕ) → i ≡ element_at s at k → Tag s i
  head_tag i q = rw q (element_tag s at k g h.tag head_there)

pub head_some : (m : ℕ) → (m ≡ 0 → ⊥) → 0 < m
head_some m n = omega arith

pub long_frame : (arg t u : List ℕ) (pc : ℕ) (f : Frame) (low : ℕ) → Slotted arg t pc → view_of arg u ≡ put_frame pc f low (view_of arg t) → Slotted arg u pc
unfolding put_frame
long_frame arg t u pc f low h e = record { place = h.place; slot = h.slot; long = ap (λ (v : Tables). length v.backs) e ∙ h.long }

pub head_none : (s : List ℤ) (x : State) (t : Tables) → x.marks ≡ 0 → turned (lived x 2) t ≡ head_of s x t
unfolding head_of
head_none s x t z = when_eq _ _ _ x.marks 0 z refl

pub head_is : (s : List ℤ) (x : State) (t u v : Tables) (k c b e m : ℕ) → (x.marks ≡ 0 → ⊥) → k ≡ count_trailing_zeros 64 x.marks → c ≡ 2 ^ k
    → u ≡ put_frame x.pc (record { at = x.at; whole = x.marks; left = c }) x.top t → b ≡ clear (count_trailing_zeros 64 x.marks) x.marks
    → v ≡ put_back x.pc b u → e ≡ element_at s x.at k → m ≡ whole_at s e → turned (moved x (x.pc + 1) e m) v ≡ head_of s x t
unfolding head_of head_by head_in put_frame put_back
head_is s x t u v k c b e m n a d f g i j w = when_ne _ _ _ x.marks 0 n (rw (w, j, i, g, f, d, a))

pub ruleset head_rules = (head_there, head_64, head_tag, head_some, long_frame, head_none, head_is, rules)

-- ---- A tuple's parts.

pub few_wait : (n o : ℕ) → n ≡ o - 10 → o < 256 → n < 256
few_wait n o e h = omega arith

pub some_wait : (n o : ℕ) → n ≡ o - 10 → 10 < o → 0 < n
some_wait n o e h = omega arith

pub three_wait : (n o : ℕ) → n ≡ o - 10 → o < 14 → n < 4
three_wait n o e h = omega arith

module _ (s : List ℤ) (at n : ℕ) (b : Bool) (h : b ≡ is_wide s at n) (t : b ≡ true) where
  wide_count : count_at s at ≡ n + 1
  unfolding is_wide
  wide_count = eqb-true (count_at s at) (n + 1) (sym h ∙ t)

  pub wide_some : 0 < count_at s at
  wide_some = let e = wide_count in omega arith

  pub wide_keeps : n < count_at s at
  wide_keeps = let e = wide_count in omega arith

  pub wide_first : (e : ℕ) → Target s → Tag s at → e ≡ element_at s at 0 → Tag s e
  wide_first e g w p = rw p (element_tag s at 0 g w wide_some)

module _ (s : List ℤ) (n k : ℕ) (x : State) (b : Bool) (h : b ≡ is_wide s x.at n) (q : n ≡ k) where
  same_wide : b ≡ is_wide s x.at k
  same_wide = h ∙ ap (is_wide s x.at) q

  apart_some : is_wide s x.at k ≡ true → (e m : ℕ) (t u : Tables) → e ≡ element_at s x.at 0 → m ≡ whole_at s e → u ≡ parts_in s x.at x.pc n t
      → turned (moved x (x.pc + n) e m) u ≡ apart_of s k x t
  unfolding apart_of apart_at apart_ats apart_backs part_marks parts_in when
  apart_some y e m t u i j p = rw (y, p, j, i, q)

  pub apart_is : (e m : ℕ) (t u : Tables) → b ≡ true → e ≡ element_at s x.at 0 → m ≡ whole_at s e → u ≡ parts_in s x.at x.pc n t
      → turned (moved x (x.pc + n) e m) u ≡ apart_of s k x t
  apart_is e m t u z = apart_some (sym same_wide ∙ z) e m t u

  pub apart_none : (t : Tables) → b ≡ false → turned (lived x 2) t ≡ apart_of s k x t
  unfolding apart_of apart_at apart_ats apart_backs when
  apart_none t z = let y : is_wide s x.at k ≡ false = sym same_wide ∙ z in rw y

pub apart_parts : (s : List ℤ) (o n : ℕ) (arg t : List ℕ) (x : State) → Aparts s o arg t x → n ≡ o - 10 → Parts arg t x.pc n
apart_parts s o n arg t x a e = own_parts o arg t x.pc a.owns n e a.tuple a.few

pub apart_place : (s : List ℤ) (o n : ℕ) (arg t : List ℕ) (x : State) → Aparts s o arg t x → n ≡ o - 10 → x.pc + n < 2 ^ 64
apart_place s o n arg t x a e = let f = a.owns.fits a.tuple a.few in omega arith

pub ruleset apart_rules = (few_wait, some_wait, three_wait, wide_some, wide_keeps, wide_first, apart_is, apart_none, apart_parts, apart_place, rules)

-- ---- And, or, not.

pub both_is : (x : State) (t u : Tables) → u ≡ put_held x.pc (record { at = x.at; marks = x.marks }) t → u ≡ kept_in x t
unfolding put_held kept_in
both_is x t u e = e

pub frame_is : (x : State) (t u : Tables) → u ≡ put_side x.pc (record { at = x.at; marks = x.marks }) x.top t → u ≡ framed_in x t
unfolding put_side framed_in
frame_is x t u e = e

pub ruleset both_rules = (both_is, frame_is, rules)

pub cut_is : (x : State) (from lows : List ℕ) (j n : ℕ) → j ≡ get_or from x.pc 0 → n ≡ get_or lows j 0 → lived (topped x n) 2 ≡ cut_to from lows x
unfolding cut_to lived topped
cut_is x from lows j n e h = rw (h, e)

pub ruleset cut_rules = (slot_in, cut_is, rules)

module _ (o : ℕ) (from : List ℕ) (x r : State) (t u : Tables) where
  pub sides_both : o ≡ 14 → r ≡ kept_at x → u ≡ kept_in x t → turned r u ≡ sides_of o from x t
  unfolding sides_of
  sides_both z a b = when_eq _ _ _ o 14 z (rw (a, b))

  pub sides_frame : (o ≡ 14 → ⊥) → o < 17 → r ≡ framed_at x → u ≡ framed_in x t → turned r u ≡ sides_of o from x t
  unfolding sides_of
  sides_frame n h a b = when_ne _ _ _ o 14 n (when_lt _ _ _ o 17 h (rw (a, b)))

  pub sides_cut : (o ≡ 14 → ⊥) → 17 ≤ o → o ≡ 17 → r ≡ cut_to from t.lows x → turned r t ≡ sides_of o from x t
  unfolding sides_of
  sides_cut n h z a = when_ne _ _ _ o 14 n (when_le _ _ _ o 17 h (when_eq _ _ _ o 17 z (rw a)))

  pub sides_none : (o ≡ 14 → ⊥) → 17 ≤ o → (o ≡ 17 → ⊥) → turned (lived x 2) t ≡ sides_of o from x t
  unfolding sides_of
  sides_none n h z = when_ne _ _ _ o 14 n (when_le _ _ _ o 17 h (when_ne _ _ _ o 17 z refl))

module _ (o : ℕ) (from arg slots : List ℕ) (x : State) (a : Sides o from arg slots x) where
  pub sides_slot : Slotted arg slots x.pc
  sides_slot = own_slot o arg slots x.pc a.owns x.pc a.place

  pub sides_next : Slotted arg slots (get_or from x.pc 0)
  sides_next = own_slot o arg slots x.pc a.owns (get_or from x.pc 0) a.next

  pub sides_14 : o ≡ 14 → Alone arg x.pc
  sides_14 e = a.owns.alone (omega arith) (omega arith)

  pub sides_17 : o < 17 → Alone arg x.pc
  sides_17 h = let k = a.above in a.owns.alone (omega arith) h

pub ruleset sides_rules = (sides_both, sides_frame, sides_cut, sides_none, sides_slot, sides_next, sides_14, sides_17, rules)

-- ---- A cons, a join, a tuple; and, or, not.

module _ (s : List ℤ) (o : ℕ) (from : List ℕ) (x r : State) (t u : Tables) where
  pub divide_apart : 10 < o → o < 14 → turned r u ≡ apart_of s (o - 10) x t → turned r u ≡ divide_of s o from x t
  unfolding divide_of
  divide_apart h g e = when_lt _ _ _ 10 o h (when_lt _ _ _ o 14 g e)

  pub divide_sides : 10 < o → 14 ≤ o → turned r u ≡ sides_of o from x t → turned r u ≡ divide_of s o from x t
  unfolding divide_of
  divide_sides h g e = when_lt _ _ _ 10 o h (when_le _ _ _ o 14 g e)

  pub divide_head : o ≤ 10 → o ≡ 8 → turned r u ≡ head_of s x t → turned r u ≡ divide_of s o from x t
  unfolding divide_of
  divide_head h z e = when_le _ _ _ 10 o h (when_eq _ _ _ o 8 z e)

  pub divide_split : o ≤ 10 → (o ≡ 8 → ⊥) → turned r u ≡ split_of o x t → turned r u ≡ divide_of s o from x t
  unfolding divide_of
  divide_split h n e = when_le _ _ _ 10 o h (when_ne _ _ _ o 8 n e)

module _ (s : List ℤ) (o : ℕ) (from arg slots : List ℕ) (x : State) (d : Divides s o from arg slots x) where
  pub apart_asks : 10 < o → o < 14 → Aparts s o arg slots x
  apart_asks h g = record { tuple = h; few = g; tag = d.held.tag; owns = d.owns }

  pub sides_asks : 14 ≤ o → Sides o from arg slots x
  sides_asks h = record { above = omega arith; place = d.place; next = d.next; owns = d.owns }

  pub divide_slot : Slotted arg slots x.pc
  divide_slot = own_slot o arg slots x.pc d.owns x.pc d.place

  pub divide_alone : o ≤ 10 → Alone arg x.pc
  divide_alone h = d.owns.alone d.above (omega arith)

pub ruleset divide_rules = (divide_apart, divide_sides, divide_head, divide_split, apart_asks, sides_asks, divide_slot, divide_alone, cases)

module _ (s : List ℤ) (op from arg : List ℕ) (con : List ℤ) (slots : List ℕ) (x : State) (h : Steps s op from arg con slots x) where
  pub step_divides : (o : ℕ) → o ≡ get_or op x.pc 0 → 7 < o → Divides s o from arg slots (counted x)
  unfolding counted
  step_divides o e l = record { above = l; place = h.place; next = h.next; held = h.held; owns = rw e h.owns }

  pub step_next : Slotted arg slots (get_or from x.pc 0)
  step_next = own_slot (get_or op x.pc 0) arg slots x.pc h.owns (get_or from x.pc 0) h.next

-- By the instruction o of the line.
module _ (op from to : List ℕ) (con s : List ℤ) (q : Bool) (x : State) (o : ℕ) (e : o ≡ get_or op x.pc 0) where
  by_op : (z : Turned) (t : Tables) → z ≡ step_by o from to con s q (counted x) t → z ≡ step_of op from to con s q x t
  unfolding step_of
  by_op z t p = p ∙ ap (λ (k : ℕ). step_by k from to con s q (counted x) t) e

  pub step_strip : (t : Tables) → o ≡ 1 → turned (moved (counted x) (x.pc + 1) x.at x.marks) t ≡ step_of op from to con s q x t
  unfolding step_by counted
  step_strip t z = by_op _ t (when_eq _ _ _ o 1 z refl)

  pub step_divided : (r : State) (t u : Tables) → (o ≡ 1 → ⊥) → 7 < o → turned r u ≡ divide_of s o from (counted x) t → turned r u ≡ step_of op from to con s q x t
  unfolding step_by
  step_divided r t u n l p = by_op _ t (when_ne _ _ _ o 1 n (when_lt _ _ _ 7 o l p))

  module _ (n : o ≡ 1 → ⊥) (l : o ≤ 7) (b : Bool) (k : b ≡ passes_of o q s x.at x.marks (get_or con x.pc (pos 0))) where
    pub step_dropped : (r : State) (t : Tables) → b ≡ true → r ≡ dropped from to t.ats t.backs (counted x) → turned r t ≡ step_of op from to con s q x t
    unfolding step_by counted
    step_dropped r t j p = by_op _ t (when_ne _ _ _ o 1 n (when_le _ _ _ 7 o l (when_true _ _ _ b _ k j (rw p))))

    pub step_fails : (t : Tables) → b ≡ false → turned (lived (counted x) 2) t ≡ step_of op from to con s q x t
    unfolding step_by counted
    step_fails t j = by_op _ t (when_ne _ _ _ o 1 n (when_le _ _ _ 7 o l (when_false _ _ _ b _ k j refl)))

pub ruleset step_rules = (step_divides, step_next, step_strip, step_divided, step_dropped, step_fails, rules)
