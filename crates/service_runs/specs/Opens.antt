-- What an opening gives: every field of the run, and that the run holds what `run_rules` says.
use Rattle.std.specs.Prelude.{ℕ, ◌≡◌, true, false, List, length, replicate, eqb, ℤ, pos}
use Rattle.std.proofs.Math.Option.{some}
use Rattle.rules.specs.Dialects.{Dialect, dialect_of}
use Rattle.rules.specs.Rows.{Form, form_of}
use Rattle.tests.specs.Judgements.{Numbers}
use Rattle.run_rules.specs.Lent.{Opened, turned_away, opened}
use Rattle.services.specs.Matches.{Admitted}
use Rattle.tables.specs.Slot.{no_slots}
use Rattle.value_places.specs.Held.{put, whole_at}
use Rattle.value_rows.specs.Row.{nothing}
use Rattle.search.specs.Run.{opening}
use Rattle.service_runs.specs.Kept.{Refusal, Kept}
use Rattle.service_runs.specs.declared.opening.Start as out

-- An opening that nothing refuses: there are the form and the dialect, and the words are accepted.
pub record Taken (n d : ℕ) (ms ps ts : List ℤ) : Type 0 where
  pub form : Form
  pub dialect : Dialect
  pub form_is : form_of n ≡ some form
  pub dialect_is : dialect_of d ≡ some dialect
  pub admitted : Admitted dialect ms ps ts

-- One that is refused with these numbers.
pub record Declines (n d : ℕ) (ms ps ts : List ℤ) (k : Numbers) : Type 0 where
  pub refusal : Refusal k.answer
  pub opens : (size : ℕ) → opened n d ms ps ts size ≡ turned_away size k.answer k.place k.cause

-- Words at the start of an array, 0 behind them.
unfoldable pub kept : (n : ℕ) (ws : List ℤ) → List ℤ
unfolding put
kept n ws = put (replicate n (pos 0)) 0 ws

-- A run that is refused has ended, and keeps no words.
unfoldable pub away : (form dialect size answer place cause : ℕ) → out.Start
unfolding opening
away form dialect size a i c = record {
  run = record {
    state = record { pc = 0; at = 0; marks = 0; top = 0; live = 0; rows = 0; steps = 0; words = 0 };
    binds = replicate 16 nothing;
    slots = no_slots;
    size = size;
    place = i;
    answer = a;
    cause = c;
    form = form;
    dialect = dialect;
    matcher = 0;
    pattern = 0;
    target = 0;
    matchers = replicate 64 (pos 0);
    patterns = replicate 256 (pos 0);
    targets = replicate 1024 (pos 0);
  };
  answer = a;
  place = i;
  cause = c;
}

-- Another stands before its first state, and keeps its own copy of the words.
unfoldable pub begun : (form dialect : ℕ) (ms ps ts : List ℤ) (size : ℕ) → out.Start
unfolding opening kept whole_at
begun form dialect ms ps ts size = record {
  run = record {
    state = opening 0 (whole_at ts 0);
    binds = replicate 16 nothing;
    slots = no_slots;
    size = size;
    place = 0;
    answer = 0;
    cause = 0;
    form = form;
    dialect = dialect;
    matcher = length ms;
    pattern = length ps;
    target = length ts;
    matchers = kept 64 ms;
    patterns = kept 256 ps;
    targets = kept 1024 ts;
  };
  answer = 0;
  place = 0;
  cause = 0;
}

-- Every field, by what `run_rules` answers.
unfoldable pub opened_as : (form dialect : ℕ) (ms ps ts : List ℤ) (size : ℕ) → Opened → out.Start
unfolding away begun
opened_as form dialect ms ps ts size o =
    elim (eqb o.answer 0) [ true ↦ begun form dialect ms ps ts size | false ↦ away form dialect size o.answer o.place o.cause ]

pub record Opens (form dialect : ℕ) (ms ps ts : List ℤ) (size : ℕ) (o : out.Start) : Type 0 where
  pub answer : o.answer ≡ (opened form dialect ms ps ts size).answer
  pub place : o.place ≡ (opened form dialect ms ps ts size).place
  pub cause : o.cause ≡ (opened form dialect ms ps ts size).cause
  pub held : Kept o.run (opened form dialect ms ps ts size).run
  pub fixed : o ≡ opened_as form dialect ms ps ts size (opened form dialect ms ps ts size)
