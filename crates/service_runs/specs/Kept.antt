-- What a run keeps, and an advance of it in the words of `run_rules`.
use Rattle.std.specs.Prelude.{ℕ, ◌≤◌, ◌<◌, ◌≡◌, true, cond, Option, List, length, get_or, take, eqb, ℤ}
use Rattle.std.proofs.Math.Path.{refl, ap, subst}
use Rattle.std.proofs.Common.{sym, ◌∙◌}
use Rattle.forms.specs.Faults.{Sane}
use Rattle.forms.specs.Written.{Widthsᵖ}
use Rattle.forms.specs.ReadPattern.{pattern_read}
use Rattle.run_rules.specs.Lent.{Terms, Numbers, Held, ended, Lent, allowed, told as tells, held_after, room_after, advanced}
use Rattle.program_rules.specs.Program.{program}
use Rattle.program_rules.specs.Closed.{Closed, closed_is}
use Rattle.program_rules.specs.Length.{instrs}
use Rattle.program_rules.specs.Meaning.{Means}
use Rattle.program_rules.specs.Columns.{line_in, Holds, compiled_zeros}
use Rattle.value_places.specs.Places.{Target}
use Rattle.value_rows.specs.declared.Binding.{Binding}
use Rattle.search_step.specs.declared.State.{State}
use Rattle.tables.specs.declared.line.Line.{Line}
use Rattle.tables.specs.Slot.{view_of}
use Rattle.search.specs.declared.Progress.{Progress}
use Rattle.search.specs.Run.{Run, line_at, run_of}
use Rattle.search.specs.Valid.{Fine, Valid}
use Rattle.services.specs.Matches.{Ready, Admitted}
use Rattle.services.proofs.Matches.{ready_sane, ready_target}
use Rattle.search.proofs.Accepted.{fine_in}
use Rattle.run_states.specs.Standing.{numbers_of, Stood, over, goes_on_lem, advance_told, advance_room, advance_held}
use Rattle.services.specs.declared.picks.Dialect.TheVariants.{EveryPlace, FirstPlaces}
use Rattle.services.specs.declared.picks.RowForm.TheVariants.{Values, Origins}
use Rattle.service_runs.specs.Going.{Still, terms_by, lines_in, env_in, run_in, Carries}
use Rattle.service_runs.specs.declared.going.Picks.{Picks}
use Rattle.service_runs.specs.declared.run.Run as struct
use Rattle.service_runs.specs.declared.run.Told as report
use Rattle.service_runs.specs.declared.run.Out as out

-- The six numbers.
unfoldable pub told : report.Told → Numbers
told r = record { answer = r.answer; place = r.place; rows = r.rows; steps = r.steps; words = r.words; cause = r.cause }

-- 19, with 0 in every further number.
abbrev pub unlike_numbers : Numbers
unlike_numbers = record { answer = 19; place = 0; rows = 0; steps = 0; words = 0; cause = 0 }

-- An advance over words: as it is carried out where they are accepted in the dialect.
pub record Goes (terms : Terms) (ms ps ts : List ℤ) (n : ℕ) (x : State) (slots : List ℕ) (b : List Binding) (room : List ℤ) (next : Option Progress) (slots' : List ℕ) (room' : List ℤ) : Type 0 where
  pub goes : Admitted terms.dialect ms ps ts → Carries terms ms ps ts n x slots b room next slots' room'
  pub still : Still next slots slots' room room'

-- The lengths of an accepted rule and target.
pub record Lengths (m p t : ℕ) : Type 0 where
  pub matcher : m ≤ 64
  pub pattern : p ≤ 256
  pub target : t ≤ 1024

-- The same over the first words of what a run keeps.
pub record Over (terms : Terms) (matchers : List ℤ) (m : ℕ) (patterns : List ℤ) (p : ℕ) (targets : List ℤ) (t n : ℕ) (x : State) (slots : List ℕ) (b : List Binding) (room : List ℤ) (next : Option Progress) (slots' : List ℕ) (room' : List ℤ) : Type 0 where
  pub goes : Lengths m p t → Goes terms (take m matchers) (take p patterns) (take t targets) n x slots b room next slots' room'
  pub still : Still next slots slots' room room'

-- ---- What the numbers of a run stand for, over a rule and a target that are accepted.

module _ (terms : Terms) (ms ps ts : List ℤ) (g : Ready ms ps ts) where
  pub sane : Sane ms ps ts g.rule g.value
  sane = ready_sane g

  pub wide : Widthsᵖ g.rule.pattern
  wide = ((pattern_read ps g.rule.pattern).0 sane.rule.pattern).2

  pub closed : Closed g.rule.pattern
  closed = closed_is g.rule.pattern true 0 0 sane.rule.numbered.0 sane.rule.numbered.1

  pub target_is : Target (env_in terms ms ps ts).words
  unfolding env_in
  target_is = ready_target ms ps ts g

  pub holds : Holds ms g.rule (env_in terms ms ps ts).vars (lines_in ms ps)
  unfolding env_in lines_in
  holds = compiled_zeros ms ps g.rule g.rule_is _ _ refl refl

  pub fine : Fine (env_in terms ms ps ts)
  unfolding env_in lines_in
  fine = fine_in ms ts g.rule _ (lines_in ms ps) terms.form holds terms.dialect

  pub means : (pc : ℕ) → pc ≤ instrs g.rule.pattern g.rule.matcher
      → Means (env_in terms ms ps ts).matcher (env_in terms ms ps ts).vars (line_at (env_in terms ms ps ts) pc) (get_or (env_in terms ms ps ts).to pc 0) (program g.rule.matcher g.rule.pattern pc)
  unfolding env_in line_at line_in
  means pc l = holds.means pc l

  pub after : (pc : ℕ) → instrs g.rule.pattern g.rule.matcher < pc → get_or (env_in terms ms ps ts).op pc 0 ≡ 0
  unfolding env_in line_in
  after pc l = ap (λ (y : Line). y.op) (holds.after pc l)

  unfoldable pub Standing : (size : ℕ) → State → (slots : List ℕ) → List Binding → Held → Type 0
  Standing size x slots b h =
      Stood (env_in terms ms ps ts) target_is fine g.rule.matcher g.rule.pattern 0 sane.rule.fitting.0 sane.rule.fitting.1 wide closed means after size x
      (view_of (lines_in ms ps).arg slots) b h

  -- By a portion of n steps, where the run went on.
  module _ (n size : ℕ) (x x' : State) (slots slots' : List ℕ) (b b' : List Binding) (room room' : List ℤ) (l : length room ≡ size)
      (went : run_in ms ps x' slots' b' room' ≡ run_of (env_in terms ms ps ts) (allowed n x.steps) (run_in ms ps x slots b room)) (h : Held) (q : Standing size x slots b h) where
    pub went_told : numbers_of x' ≡ tells n size h
    unfolding Standing run_in
    went_told = ap (λ (r : Run). numbers_of r.state) went
        ∙ advance_told (env_in terms ms ps ts) target_is fine g.rule.matcher g.rule.pattern 0 sane.rule.fitting.0 sane.rule.fitting.1 wide closed means after n size x
        (view_of (lines_in ms ps).arg slots) b room l h q

    pub went_room : room' ≡ room_after n size h room
    unfolding Standing run_in
    went_room = ap (λ (r : Run). r.room) went
        ∙ advance_room (env_in terms ms ps ts) target_is fine g.rule.matcher g.rule.pattern 0 sane.rule.fitting.0 sane.rule.fitting.1 wide closed means after n size x
        (view_of (lines_in ms ps).arg slots) b room l h q

    pub went_held : Standing size x' slots' b' (held_after n size h)
    unfolding Standing run_in
    went_held = subst
        (λ (r : Run). Stood (env_in terms ms ps ts) target_is fine g.rule.matcher g.rule.pattern 0 sane.rule.fitting.0 sane.rule.fitting.1 wide closed means after size
        r.state r.tables r.binds (held_after n size h)) (sym went)
        (advance_held (env_in terms ms ps ts) target_is fine g.rule.matcher g.rule.pattern 0 sane.rule.fitting.0 sane.rule.fitting.1 wide closed means after n size x
        (view_of (lines_in ms ps).arg slots) b room l h q)

  -- A run that stands and goes on is valid; one in which no state stands has ended.
  pub standing_valid : (size : ℕ) (x : State) (slots : List ℕ) (b : List Binding) (h : Held) (room : List ℤ) → length room ≡ size → x.live ≡ 1 → Standing size x slots b h
      → Valid (env_in terms ms ps ts) (run_in ms ps x slots b room)
  unfolding Standing run_in
  standing_valid size x slots b h room l e (over f q) = absurd (f e)
  standing_valid size x slots b h room l e (goes_on_lem s ss q w) = w.valid room l

  pub standing_over : (size : ℕ) (x : State) (slots : List ℕ) (b : List Binding) (h : Held) → (x.live ≡ 1 → ⊥) → Standing size x slots b h → h ≡ ended (numbers_of x)
  unfolding Standing
  standing_over size x slots b h f (over k q) = q
  standing_over size x slots b h f (goes_on_lem s ss q w) = absurd (f w.live_is)

-- ---- What a run holds, as `run_rules` has it: it was refused at the opening, or its numbers stand for the states that wait.

abbrev pub matcher_in : struct.Run → List ℤ
matcher_in r = take r.matcher r.matchers

abbrev pub pattern_in : struct.Run → List ℤ
pattern_in r = take r.pattern r.patterns

abbrev pub target_in : struct.Run → List ℤ
target_in r = take r.target r.targets

abbrev pub refusal_in : struct.Run → Numbers
refusal_in r = record { answer = r.answer; place = r.place; rows = 0; steps = 0; words = 0; cause = r.cause }

-- What its opening was told. A form or a dialect that there is not is taken as 1, in a run that no opening has left so.
abbrev pub picks_in : (form dialect : ℕ) → Picks
picks_in form dialect = record { form = cond (eqb form 2) Origins Values; dialect = cond (eqb dialect 2) FirstPlaces EveryPlace }

abbrev pub terms_in : struct.Run → Terms
terms_in r = terms_by (picks_in r.form r.dialect)

-- The answers of an opening that refuses.
pub data Refusal (a : ℕ) : Type 0 where
  unknown : a ≡ 20 → Refusal a
  unknown_dialect : a ≡ 22 → Refusal a
  tested : 1 ≤ a → a ≤ 6 → Refusal a

pub data Kept (r : struct.Run) (l : Lent) : Type 0 where
  refused : Refusal r.answer → l ≡ record { size = r.size; held = ended (refusal_in r) } → Kept r l
  stands : r.answer ≡ 0 → Lengths r.matcher r.pattern r.target → (g : Admitted (terms_in r).dialect (matcher_in r) (pattern_in r) (target_in r)) (h : Held) → l ≡ record { size = r.size; held = h }
      → Standing (terms_in r) (matcher_in r) (pattern_in r) (target_in r) g.ready r.size r.state r.slots r.binds h → Kept r l

-- The answers of an advance.
pub data Tabled (a : ℕ) : Type 0 where
  is_done : a ≡ 0 → Tabled a
  is_refusal : Refusal a → Tabled a
  is_budget : a ≡ 7 → Tabled a
  is_full : a ≡ 8 → Tabled a
  is_unlike : a ≡ 19 → Tabled a

-- What a run tells that has a refusal, or another number in its place.
pub record Refuses (a i c : ℕ) (t : report.Told) : Type 0 where
  pub again : Refusal a → told t ≡ record { answer = a; place = i; rows = 0; steps = 0; words = 0; cause = c }
  pub tabled : Tabled t.answer

-- A run with another state, other bindings and slots; its words, form, dialect and size are the same.
unfoldable pub changed : struct.Run → State → List Binding → (slots : List ℕ) → struct.Run
changed r x b slots = record {
  state = x;
  binds = b;
  slots = slots;
  size = r.size;
  place = r.place;
  answer = r.answer;
  cause = r.cause;
  form = r.form;
  dialect = r.dialect;
  matcher = r.matcher;
  pattern = r.pattern;
  target = r.target;
  matchers = r.matchers;
  patterns = r.patterns;
  targets = r.targets;
}

-- An advance of a run that holds what the last call left: the numbers, every word of the room, and what it then holds are those of `run_rules`. Of any run, also
-- one lent otherwise: it changes only where it may, and tells an answer of an advance; with 19 run and room are as they were.
pub record Advances (r : struct.Run) (n : ℕ) (room : List ℤ) (o : out.Out) (room' : List ℤ) : Type 0 where
  pub as_held : (l : Lent) → Kept r l
      → (told o.told ≡ (advanced n room l).numbers) × (room' ≡ (advanced n room l).room) × Kept o.run (advanced n room l).run
  pub within : o.run ≡ changed r o.run.state o.run.binds o.run.slots
  pub tabled : Tabled o.told.answer
  pub unlike_still : o.told.answer ≡ 19 → (o.run ≡ r) × (room' ≡ room)
