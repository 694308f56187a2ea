-- The machine: what it holds, and one step. (`code` is the program, an instruction for each place.)
use Prim.Native.Nat.{ℕ, zero, suc, ◌+◌}
use Rattle.std.specs.Prelude.{Bool, eqb}
use Rattle.std.proofs.Math.Bool.{true, false}
use Rattle.std.proofs.Math.Option.{Option, none, some}
use Rattle.program_rules.specs.Points.{Test, as_constant, as_value, as_nil, Instr, strip, keep, other, close, drop, bind, test, split, apart, choice, deny, cut_at, end}
use Rattle.search_machine.specs.Held.{Picked, Data}

-- A table with the entry i changed.
unfoldable pub put : {A : Type 0} → (ℕ → A) → ℕ → A → ℕ → A
put f i x j = elim (eqb i j) [ true ↦ x | false ↦ f j ]

-- What the slot of an instruction holds: the value divided there, the choices left, the open frame before it (0: none, j + 1: at j), and the
-- value that waits for the second part. The frames of an or and a not hold theirs as a value that waits.
pub record Slot (D : Data) : Type 0 where
  pub held : D.Held
  pub rem : D.Rem
  pub prev : ℕ
  pub second : D.Held

pub record Conf (D : Data) : Type 0 where
  pub pc : ℕ
  pub cur : D.Held
  pub top : ℕ
  pub slots : ℕ → Slot D
  pub binds : ℕ → D.Held

-- After an instruction: a state goes on, or the next choice of the last open frame is taken.
pub data Turn (D : Data) : Type 0 where
  on back : Conf D → Turn D

module _ (D : Data) where
  unfoldable pub check : Test → (ℕ → D.Held) → D.Held → Bool
  check (as_constant c) b h = D.is_number c h
  check (as_value m x c) b h = D.is_same m c (b x) h
  check (as_nil m) b h = D.is_empty_held h

  -- The state at another place, on a value.
  unfoldable pub next : Conf D → (to : ℕ) → D.Held → (ℕ → D.Held) → Conf D
  next c to h b = record { pc = to; cur = h; top = c.top; slots = c.slots; binds = b }

  unfoldable pub pushed : Conf D → D.Rem → Conf D
  unfolding put
  pushed c r = record {
    pc = c.pc;
    cur = c.cur;
    top = suc c.pc;
    binds = c.binds;
    slots = put c.slots c.pc (record { held = c.cur; rem = r; prev = c.top; second = D.stale c.cur (c.slots c.pc).second });
  }

  unfoldable pub opening : Conf D → Option D.Rem → Conf D
  unfolding pushed
  opening c none = c
  opening c (some r) = pushed c r

  -- A value waits in a slot.
  unfoldable pub kept : Slot D → D.Held → Slot D
  kept s h = record { held = D.stale h s.held; rem = s.rem; prev = s.prev; second = h }

  -- And: the value waits here for the second part, and the first is next, on the same value.
  unfoldable pub kept_here : Conf D → Conf D
  unfolding put kept
  kept_here c = record { pc = suc c.pc; cur = c.cur; top = c.top; binds = c.binds; slots = put c.slots c.pc (kept (c.slots c.pc) c.cur) }

  -- Or, not: a frame is open here, with the value; what is inside is next, on the same value.
  unfoldable pub framed : Slot D → D.Held → (prev : ℕ) → Slot D
  framed s h n = record { held = D.stale h s.held; rem = s.rem; prev = n; second = h }

  unfoldable pub framed_here : Conf D → Conf D
  unfolding put framed
  framed_here c =
      record { pc = suc c.pc; cur = c.cur; top = suc c.pc; binds = c.binds; slots = put c.slots c.pc (framed (c.slots c.pc) c.cur c.top) }

  -- The frame at j and those above it are no longer open.
  unfoldable pub without : Conf D → (j : ℕ) → Conf D
  without c j = record { pc = c.pc; cur = c.cur; top = (c.slots j).prev; slots = c.slots; binds = c.binds }

  -- A tuple's parts from number i on wait in the slots from j on, n of them.
  unfoldable pub keeping : (ℕ → Slot D) → (j : ℕ) → D.Held → (i n : ℕ) → ℕ → Slot D
  unfolding put kept
  keeping slots j h i zero = slots
  keeping slots j h i (suc n) = keeping (put slots j (kept (slots j) (D.part h i))) (suc j) h (suc i) n

  -- The first part, after the places that are reserved.
  unfoldable pub parting : Conf D → (reserved : ℕ) → Conf D
  unfolding keeping
  parting c n = record {
    pc = suc (c.pc + n);
    cur = D.part c.cur 0;
    top = c.top;
    binds = c.binds;
    slots = keeping c.slots c.pc c.cur 1 (suc n);
  }

  unfoldable pub exec : Instr → Conf D → Turn D
  unfolding next put check opening parting kept_here framed_here without
  exec strip c = on (next c (suc c.pc) c.cur c.binds)
  exec (drop n to) c = on (next c to (c.slots n).second c.binds)
  exec (bind i n to) c = on (next c to (c.slots n).second (put c.binds i c.cur))
  exec (test t n to) c = elim (check t c.binds c.cur) [ true ↦ on (next c to (c.slots n).second c.binds) | false ↦ back c ]
  exec (split k) c = back (opening c (D.opens k c.cur))
  exec (apart n) c = elim (D.is_wide (suc (suc n)) c.cur) [ true ↦ on (parting c n) | false ↦ back c ]
  exec keep c = on (kept_here c)
  exec (choice to) c = on (framed_here c)
  exec (deny n to) c = on (framed_here c)
  exec (cut_at j) c = back (without c j)
  exec other c = back c
  exec close c = back c
  exec (end n) c = back c

  -- The slot and the last open frame after a choice at j.
  unfoldable pub slot_after : Slot D → Option D.Rem → D.Held → Slot D
  slot_after s none h = record { held = s.held; rem = s.rem; prev = s.prev; second = h }
  slot_after s (some r) h = record { held = s.held; rem = r; prev = s.prev; second = h }

  unfoldable pub top_after : ℕ → Slot D → Option D.Rem → ℕ
  top_after j s none = s.prev
  top_after j s (some r) = suc j

  unfoldable pub chosen : Conf D → ℕ → Picked D.Held D.Rem → Conf D
  unfolding put slot_after top_after
  chosen c j t = record {
    pc = suc j;
    cur = t.one;
    top = top_after j (c.slots j) t.more;
    binds = c.binds;
    slots = put c.slots j (slot_after (c.slots j) t.more t.two);
  }

  -- The frame at j is no longer open: a state stands at `to`, its value from the slot n.
  unfoldable pub resumed : Conf D → (j to n : ℕ) → Conf D
  resumed c j to n = record { pc = to; cur = (c.slots n).second; top = (c.slots j).prev; slots = c.slots; binds = c.binds }

  -- An or goes on with its second side, on the value of its frame; a not, inside which the search has ended without a row, with what follows it.
  unfoldable pub choose : Instr → ℕ → Conf D → Option (Conf D)
  unfolding chosen resumed
  choose strip j c = none
  choose (drop n to) j c = none
  choose (bind i n to) j c = none
  choose (test t n to) j c = none
  choose (split k) j c = some (chosen c j (D.pick k (c.slots j).held (c.slots j).rem))
  choose (apart n) j c = none
  choose keep j c = none
  choose (choice to) j c = some (resumed c j to j)
  choose (deny n to) j c = some (resumed c j to n)
  choose (cut_at i) j c = none
  choose other j c = none
  choose close j c = none
  choose (end n) j c = none

  module _ (code : ℕ → Instr) where
    unfoldable pub next_choice : ℕ → Conf D → Option (Conf D)
    unfolding choose
    next_choice zero c = none
    next_choice (suc j) c = choose (code j) j c

    unfoldable pub settle : Turn D → Option (Conf D)
    unfolding next_choice
    settle (on c) = some c
    settle (back c) = next_choice c.top c
