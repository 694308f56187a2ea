-- The code takes the one choice of a list's cons at once. Where the next choice is then taken, that is the same as its frame opened.
use Prim.Native.Nat.{ℕ, ◌+◌, ◌-◌, ◌^◌, ◌<◌}
use native.Mathlib.Omega.{arith}
use mathlib.Core.Path.{◌≡◌, refl, sym, ap, ◌∙◌}
use mathlib.Core.Bool.{Bool, true, false}
use mathlib.Core.List.{List}
use lib.ListN.{length, get_or, length-set}
use lib.Seq.{get_or-set_same}
use lib.Dec.{eqb}
use lib.Count.{count_trailing_zeros}
use lib.IntN.{ℤ}
use lib.Pow.{pow_pos, pow-lt}
use borrow.Author.Tests.{ne_eqb, eqb-false}
use Rattle.words.specs.Words.{entries}
use Rattle.words.specs.Marks.{clear}
use Rattle.words.proofs.marks.Places.{low_lt, low_digit, clear_add, positions_one, positions_low}
use Rattle.tables.specs.Slot.{Tables}
use Rattle.value_places.specs.Places.{element_at}
use Rattle.value_rows.specs.declared.Binding.{Binding}
use Rattle.search_atom.specs.Leaves.{when, none_of, now_left}
use Rattle.search_step.specs.declared.State.{State}
use Rattle.search_step.specs.Steps.{Turned, turned, moved, lived, topped, pushed, pushed_in, head_in, head_by, head_of}
use Rattle.search_machine.specs.Operations.{opens_with}
use Rattle.search.specs.Plain.{split_of}
use Rattle.search_choice.specs.Choices.{top_left, cons_of, cons_by, choice_of, pick_of, Picks, PicksIf}
use Rattle.search.specs.Run.{Env, run, after_turn, settled}
use Rattle.search.specs.Valid.{Long}

-- One place marked.
low_one : (k : ℕ) → k < 64 → count_trailing_zeros 64 (2 ^ k) ≡ k
low_one k h = ap (λ l. get_or l 0 0) (sym (positions_low 64 (2 ^ k) (pow_pos k) (pow-lt h)) ∙ positions_one 64 k h)

clear_one : (k : ℕ) → k < 64 → clear k (2 ^ k) ≡ 0
clear_one k h =
    let d = clear_add k (2 ^ k) (rw (low_one k h) at (low_digit 64 (2 ^ k) (pow_pos k) (pow-lt h))) in
    omega arith

module _ (s : List ℤ) (x : State) (t : Tables) (l : Long t) (p : x.pc < entries) where
  -- The choice of the frame that is opened with one place.
  cons_head : (k : ℕ) → k ≡ count_trailing_zeros 64 x.marks → k < 64 → cons_of s x.pc (pushed x) (pushed_in (2 ^ k) x t) ≡ head_by s (element_at s x.at k) x t
  unfolding cons_of cons_by pushed pushed_in head_by head_in moved top_left topped now_left when
  cons_head k e h = rw (
    get_or-set_same t.ats x.pc x.at 0 (omega (arith, l.ats)),
    get_or-set_same t.wholes x.pc x.marks 0 (omega (arith, l.wholes)),
    get_or-set_same t.lefts x.pc (2 ^ k) 0 (omega (arith, l.lefts)),
    get_or-set_same t.lows x.pc x.top 0 (omega (arith, l.lows)),
    low_one k h,
    clear_one k h,
    ← e,
  )

  pick_head : (op from to : List ℕ) (k : ℕ) → get_or op x.pc 0 ≡ 8 → k ≡ count_trailing_zeros 64 x.marks → k < 64
      → pick_of op from to s (pushed x) (pushed_in (2 ^ k) x t) ≡ head_by s (element_at s x.at k) x t
  unfolding pick_of choice_of pushed when
  pick_head op from to k z e h =
      let a : x.pc + 1 - 1 ≡ x.pc = omega arith in
      rw (ne_eqb (x.pc + 1) 0 (λ y. omega arith), a, z) (cons_head k e h)

module _ (e : Env) (x : State) (t : Tables) (b : List Binding) (room : List ℤ) (l : Long t) (p : x.pc < entries) where
  head_settles : (c : ℕ) → get_or e.op x.pc 0 ≡ 8 → x.marks < 2 ^ 64
      → settled e (after_turn (head_of e.words x t) b room) ≡ settled e (after_turn (split_of 8 c x t) b room)
  unfolding head_of split_of none_of opens_with when settled after_turn head_by moved pushed
  head_settles c z w = go (eqb x.marks 0) refl
    where
      go : (d : Bool) → eqb x.marks 0 ≡ d
          → settled e (after_turn (when d (turned (lived x 2) t) (head_by e.words (element_at e.words x.at (count_trailing_zeros 64 x.marks)) x t)) b room)
          ≡ settled e (after_turn (when d (turned (lived x 2) t) (turned (pushed x) (pushed_in (2 ^ count_trailing_zeros 64 x.marks) x t))) b room)
      go true j = refl
      go false j =
          let n = eqb-false x.marks 0 j in
          let k = low_lt 64 x.marks (omega arith) w in
          sym (ap (λ (u : Turned). run u.state u.tables b room) (pick_head e.words x t l p e.op e.from e.to (count_trailing_zeros 64 x.marks) z refl k))

  -- Where no choice was left, nothing has changed.
  head_waits : (y : State) (u : Tables) → turned y u ≡ head_of e.words x t → y.live ≡ 2 → (y.top ≡ x.top) × (u ≡ t)
  unfolding head_of when lived head_by moved
  head_waits y u h q = go (eqb x.marks 0) h
    where
      go : (d : Bool) → turned y u ≡ when d (turned (lived x 2) t) (head_by e.words (element_at e.words x.at (count_trailing_zeros 64 x.marks)) x t) → (y.top ≡ x.top) × (u ≡ t)
      go true i = (ap (λ (w : Turned). w.state.top) i, ap (λ (w : Turned). w.tables) i)
      go false i = let a = ap (λ (w : Turned). w.state.live) i in absurd (omega arith)

  head_long : (y : State) (u : Tables) → turned y u ≡ head_of e.words x t → length u.backs ≡ entries
  unfolding head_of when head_by head_in
  head_long y u h = go (eqb x.marks 0) h
    where
      go : (d : Bool) → turned y u ≡ when d (turned (lived x 2) t) (head_by e.words (element_at e.words x.at (count_trailing_zeros 64 x.marks)) x t) → length u.backs ≡ entries
      go true i = ap (λ (w : Turned). length w.tables.backs) i ∙ l.backs
      go false i = ap (λ (w : Turned). length w.tables.backs) i ∙ length-set t.backs x.pc _ ∙ l.backs

  pub head_next : (c : ℕ) (y : State) (u : Tables) → turned y u ≡ head_of e.words x t → get_or e.op x.pc 0 ≡ 8 → x.marks < 2 ^ 64
      → settled e (run y u b room) ≡ settled e (after_turn (split_of 8 c x t) b room)
  unfolding after_turn
  head_next c y u h z w = ap (λ (k : Turned). settled e (run k.state k.tables b room)) h ∙ head_settles c z w

  pub head_picks : (y : State) (u : Tables) → turned y u ≡ head_of e.words x t → Picks e.op e.words x.top t.ats t.wholes t.lefts
      → PicksIf y.live e.op e.words y.top u.ats u.wholes u.lefts
  head_picks y u h q = record { picks = λ z. let w = head_waits y u h z in rw (w.0, w.1) q }

  pub head_backs : (y : State) (u : Tables) → turned y u ≡ head_of e.words x t → length u.backs ≡ entries
  head_backs y u h = head_long y u h
