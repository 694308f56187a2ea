-- Document 02, No. 8: a run is opened once with matcher, pattern, target and room size, and is then lent by the game to be advanced by some number of steps.
use Rattle.std.specs.Prelude.{ℕ, zero, suc, ◌+◌, ◌-◌, ◌^◌, min, true, false, List, [], ◌∷◌, ◌++◌, length, take, drop, leb, eqb, ℤ}
use Rattle.std.proofs.Math.Option.{none, some}
use Rattle.rules.specs.Forms.{Value}
use Rattle.rules.specs.Dialects.{Dialect, dialect_of}
use Rattle.rules.specs.Rows.{Form, form_of, row}
use Rattle.rules.specs.Search.{atom, end_of_not, State, state, after_in, leave_not, start, Run, run_in}
use Rattle.rules.specs.Services.{Rule, Judged, accepted, refused, rule_in, target_of, cause_in}

-- "The portions' sum, cut at 4,294,967,295."
abbrev pub most_steps : ℕ
most_steps = 2 ^ 32 - 1

unfoldable pub cut : ℕ → ℕ
cut n = min n most_steps

-- The six numbers of an answer: of the whole run since its opening, as of one match.
pub record Numbers : Type 0 where
  pub answer : ℕ
  pub place : ℕ
  pub rows : ℕ
  pub steps : ℕ
  pub words : ℕ
  pub cause : ℕ

-- What the opening is told, and holds for the whole run: the form of its rows, and its dialect.
pub record Terms : Type 0 where
  pub form : Form
  pub dialect : Dialect

-- Document 01's run on these terms.
abbrev pub run : Terms → (budget : ℕ) → List State → (free : ℕ) → Run
run t n ss free = run_in t.dialect t.form n ss free

-- ---- What a run holds between two calls.

-- It has ended, with the numbers that it gives again; or it goes on: its terms, "the run holds its waiting states", of which there is a first one,
-- and how many rows, steps and words there were since the opening.
pub data Held : Type 0 where
  ended : Numbers → Held
  going : (terms : Terms) (first : State) (others : List State) (rows steps words : ℕ) → Held

-- The room's size that was given at the opening, and what is held.
pub record Lent : Type 0 where
  pub size : ℕ
  pub held : Held

-- ---- The opening.

-- The refusal, or 0; and the run.
pub record Opened : Type 0 where
  pub answer : ℕ
  pub place : ℕ
  pub cause : ℕ
  pub run : Lent

-- "A run refused there has ended."
unfoldable pub turned_away : (size answer place cause : ℕ) → Opened
turned_away size a i c = record {
  answer = a;
  place = i;
  cause = c;
  run = record { size = size; held = ended (record { answer = a; place = i; rows = 0; steps = 0; words = 0; cause = c }) };
}

unfoldable pub begun : Terms → (size : ℕ) → Rule → Value → Opened
unfolding start
begun t size r v =
    record { answer = 0; place = 0; cause = 0; run = record { size = size; held = going t (start r.matcher r.pattern v) [] 0 0 0 } }

unfoldable pub open_target : Terms → (size : ℕ) (ts : List ℤ) → Rule → Judged Value → Opened
unfolding turned_away begun cause_in
open_target t size ts r (refused a i) = turned_away size a i (cause_in a ts)
open_target t size ts r (accepted v) = begun t size r v

unfoldable pub open_rule : Terms → (size : ℕ) (ts : List ℤ) → Judged Rule → Opened
unfolding turned_away open_target target_of
open_rule t size ts (refused a i) = turned_away size a i 0
open_rule t size ts (accepted r) = open_target t size ts r (target_of r.matcher ts)

-- "Opening makes the checks 1 to 6."
unfoldable pub opened_in : Terms → (ms ps ts : List ℤ) (size : ℕ) → Opened
unfolding open_rule rule_in
opened_in t ms ps ts size = open_rule t size ts (rule_in t.dialect ms ps)

-- The opening is told row form and dialect: "20, unknown row form, before 1"; "22, unknown dialect, before 1 and after 20".
unfoldable pub opened : (form dialect : ℕ) (ms ps ts : List ℤ) (size : ℕ) → Opened
unfolding form_of dialect_of turned_away opened_in
opened form dialect ms ps ts size = elim (form_of form) [
  | none ↦ turned_away size 20 0 0
  | some f ↦ elim (dialect_of dialect) [ none ↦ turned_away size 22 0 0 | some d ↦ opened_in (record { form = f; dialect = d }) ms ps ts size ]
]

-- ---- An advance.

-- The states that wait after a run by a budget over the waiting states, with `free` words of the room left. None where it ends with 8.
unfoldable pub remaining : Terms → (budget : ℕ) → List State → (free : ℕ) → List State
unfolding row after_in leave_not
remaining t zero ss free = ss
remaining t (suc n) [] free = []
remaining t (suc n) (state g [] e ∷ ss) free = elim (leb (length (row t.form e)) free) [ true ↦ remaining t n ss (free - length (row t.form e)) | false ↦ [] ]
remaining t (suc n) (state g (end_of_not ∷ older) e ∷ ss) free = remaining t n (leave_not ss) free
remaining t (suc n) (state g (atom p m v ∷ older) e ∷ ss) free = remaining t n (after_in t.dialect p m v older e ++ ss) free

-- What is held of the states that wait: with none the run has ended.
unfoldable pub holding : Terms → Numbers → List State → Held
holding t k [] = ended k
holding t k (s ∷ ss) = going t s ss k.rows k.steps k.words

-- The steps that a portion may take after those that were taken.
unfoldable pub allowed : (portion taken : ℕ) → ℕ
allowed n taken = min n (most_steps - taken)

-- The numbers since the opening, where before this run there were some rows, steps and words.
unfoldable pub since : (rows steps words : ℕ) → Run → Numbers
since rows steps words r =
    record { answer = r.answer; place = 0; rows = rows + r.rows; steps = steps + r.steps; words = words + length r.written; cause = 0 }

-- New words from an index on; each other word as it was.
unfoldable pub written_at : (at : ℕ) (new room : List ℤ) → List ℤ
written_at at new room = take at room ++ (new ++ drop (at + length new) room)

-- An advance is a run over the held states, with the words of the room that are left: what it tells, what is held after it, and what it leaves in the room.
-- "A run that has ended gives its answer again and touches nothing."
unfoldable pub told : (portion size : ℕ) → Held → Numbers
unfolding run_in allowed since
told n size (ended k) = k
told n size (going t s ss rows steps words) = since rows steps words (run t (allowed n steps) (s ∷ ss) (size - words))

unfoldable pub held_after : (portion size : ℕ) → Held → Held
unfolding allowed remaining holding told
held_after n size (ended k) = ended k
held_after n size (going t s ss rows steps words) =
    holding t (told n size (going t s ss rows steps words)) (remaining t (allowed n steps) (s ∷ ss) (size - words))

unfoldable pub room_after : (portion size : ℕ) → Held → (room : List ℤ) → List ℤ
unfolding run_in allowed written_at
room_after n size (ended k) room = room
room_after n size (going t s ss rows steps words) room = written_at words (run t (allowed n steps) (s ∷ ss) (size - words)).written room

-- What a call gives: the numbers, what the room then holds, and the run.
pub record Advanced : Type 0 where
  pub numbers : Numbers
  pub room : List ℤ
  pub run : Lent

unfoldable pub go_on : (portion : ℕ) (room : List ℤ) → Lent → Advanced
unfolding told held_after room_after
go_on n room l = record {
  numbers = told n l.size l.held;
  room = room_after n l.size l.held room;
  run = record { size = l.size; held = held_after n l.size l.held };
}

-- "19, a result room unlike the size given at opening": 0 in every further number.
unfoldable pub unlike : (room : List ℤ) → Lent → Advanced
unlike room l = record { numbers = record { answer = 19; place = 0; rows = 0; steps = 0; words = 0; cause = 0 }; room = room; run = l }

-- "Before anything else, the run unchanged."
unfoldable pub advanced : (portion : ℕ) (room : List ℤ) → Lent → Advanced
unfolding go_on unlike
advanced n room l = elim (eqb (length room) l.size) [ true ↦ go_on n room l | false ↦ unlike room l ]
