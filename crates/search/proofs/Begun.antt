-- A run before its first state is valid, and the search from there is document 01's; the compiler's arrays are fine.
use Prim.Native.Nat.{ℕ, ◌-◌, ◌<◌}
use native.Mathlib.Omega.{arith}
use mathlib.Core.Path.{◌≡◌, refl, sym, ap, ◌∙◌, subst}
use mathlib.Core.List.{List}
use lib.ListN.{length, get_or, length-replicate, get_or-replicate}
use lib.Pow.{pow_pos}
use lib.IntN.{ℤ}
use Rattle.words.specs.Words.{entries}
use Rattle.tables.specs.declared.line.Line.{Line}
use Rattle.program_rules.specs.Columns.{line_in}
use Rattle.value_places.specs.Places.{Target, Tag, marks_at}
use Rattle.value_places.specs.Held.{Held, whole_at}
use Rattle.value_rows.specs.Row.{nothing}
use Rattle.value_rows.specs.declared.Binding.{Binding}
use Rattle.search_step.specs.declared.State.{State}
use Rattle.tables.specs.Slot.{tables, view_of, no_slots}
use Rattle.tables.specs.SlotLaws.{no_slots_lem}
use Rattle.search_machine.proofs.Instance.{target_is}
use Rattle.search.specs.Run.{Env, Run, run, line_at, run_of, opening, matched, told}
use Rattle.search.specs.declared.Report.{Report}
use Rattle.search.specs.Told.{reported}
use Rattle.search.specs.Valid.{Fine, Valid}
use Rattle.search.specs.Searched.{zeros, unbound, begun, Searched}
use Rattle.search.specs.Stops.{number_of}
use Rattle.search.proofs.Stops.{stop_number}
use Rattle.search.proofs.Frames.{held_whole}
use Rattle.search.proofs.Whole.{search_runs}

zeros_are : (n i : ℕ) → i < n → get_or (zeros n) i 0 ≡ 0
unfolding zeros
zeros_are n i h = get_or-replicate n i 0 0 h

zeros_long : (n : ℕ) → length (zeros n) ≡ n
unfolding zeros
zeros_long n = length-replicate n 0

unbound_are : (n i : ℕ) → i < n → get_or (unbound n) i nothing ≡ nothing
unfolding unbound
unbound_are n i h = get_or-replicate n i nothing nothing h

unbound_long : (n : ℕ) → length (unbound n) ≡ n
unfolding unbound
unbound_long n = length-replicate n nothing

module _ (e : Env) (some : 0 < length e.words) where
  first_tag : Tag e.words 0
  first_tag = record { even = refl; inside = some }

  first_none : Held e.words 0 0
  first_none = record { tag = first_tag; marks = pow_pos (marks_at e.words 0) }

  pub begun_valid : (room : List ℤ) → Valid e (begun e room)
  unfolding begun opening
  begun_valid room = record {
    place = omega arith;
    held = held_whole 0 first_tag;
    frames = record {
      last = record { frame = λ n. absurd (n refl) };
      below = λ i h. rw (zeros_are entries i h) (record { frame = λ n. absurd (n refl) });
    };
    waits = record { held = λ j h z. rw (zeros_are entries j h) first_none };
    binds = record { most = omega arith; long = unbound_long 16; are = λ v h. rw (unbound_are 16 v h) first_none };
    room = omega arith;
    counts = omega arith;
    long = record { ats = zeros_long entries; wholes = zeros_long entries; lefts = zeros_long entries; lows = zeros_long entries; backs = zeros_long entries };
  }

  pub searched : Target e.words → Fine e → (budget : ℕ) (room : List ℤ) → Searched e budget room (told (run_of e budget (begun e room)))
  unfolding begun line_at line_in
  searched g fine budget room = record {
    is = refl;
    as_defined = λ r v ks holds fit wide closed read fits.
        search_runs e g fine r.matcher r.pattern 0 ks fit wide closed (λ pc l. holds.means pc l) (λ pc l. ap (λ (l : Line). l.op) (holds.after pc l)) v 0 (whole_at e.words 0) (target_is e.words v read r.matcher fits)
        (tables (zeros entries) (zeros entries) (zeros entries) (zeros entries) (zeros entries)) (unbound 16) room (begun_valid room) budget;
  }

-- ---- As the code has it.

module _ (e : Env) (some : 0 < length e.words) (x : State) (opened : x ≡ opening 0 (whole_at e.words 0)) (b : List Binding) (free : b ≡ unbound 16) (slots : List ℕ)
    (none : slots ≡ no_slots) (room : List ℤ) where
  -- The run as the code opens it.
  first_is : run x (view_of e.arg slots) b room ≡ begun e room
  unfolding begun zeros
  first_is = rw (opened, free, none, no_slots_lem e.arg)

  pub first_valid : Valid e (run x (view_of e.arg slots) b room)
  first_valid = subst (Valid e) (sym first_is) (begun_valid e some room)

  pub first_searched : Target e.words → Fine e → (budget : ℕ) (r : Run) (out : Report) → r ≡ run_of e (budget - x.steps) (run x (view_of e.arg slots) b room) → out ≡ reported r.state
      → Searched e budget room (matched (number_of out.stop) out.rows out.steps out.words r.room)
  unfolding told reported opening
  first_searched g fine budget r out q a =
      let z : budget - x.steps ≡ budget = rw opened (omega arith) in
      let p : r ≡ run_of e budget (begun e room) = q ∙ ap (λ n. run_of e n (run x (view_of e.arg slots) b room)) z ∙ ap (run_of e budget) first_is in
      rw (a, stop_number r.state.live) (subst (λ k. Searched e budget room (told k)) (sym p) (searched e some g fine budget room))
