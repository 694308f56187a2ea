-- What the numbers of a run mean: its tables, bindings and counts are those of the engine over places and marks.
use Rattle.std.specs.Prelude.{ℕ, ◌-◌, List, get_or, ℤ}
use Rattle.std.proofs.Math.Option.{Option, none, some}
use Rattle.std.proofs.Math.ListN.{length, take}
use Rattle.std.proofs.Math.Dec.{eqb}
use Rattle.rules.specs.Dialects.{Dialect}
use Rattle.rules.specs.Rows.{Form}
use Rattle.search_machine.specs.Engine.{Slot, Conf}
use Rattle.search_machine.specs.Drive.{Engine}
use Rattle.value_places.specs.Places.{Target}
use Rattle.value_rows.specs.Row.{nothing}
use Rattle.value_rows.specs.declared.Binding.{Binding}
use Rattle.search_step.specs.declared.State.{State}
use Rattle.search_atom.specs.Leaves.{when}
use Rattle.tables.specs.Slot.{Tables}
use Rattle.search_machine.specs.Operations.{binding}
use Rattle.search_machine.proofs.Instance.{places}
use Rattle.search.specs.Run.{Run}

module _ (dialect : Dialect) (form : Form) (s : List ℤ) (g : Target s) where
  unfoldable pub slots_of : Tables → ℕ → Slot (places dialect form s g)
  slots_of t j = record {
    held = binding (get_or t.ats j 0) (get_or t.wholes j 0);
    rem = get_or t.lefts j 0;
    prev = get_or t.lows j 0;
    second = binding (get_or t.ats j 0) (get_or t.backs j 0);
  }

  unfoldable pub binds_of : List Binding → ℕ → Binding
  binds_of b v = get_or b v nothing

  unfoldable pub conf_of : State → Tables → List Binding → Conf (places dialect form s g)
  unfolding slots_of binds_of
  conf_of x t b = record { pc = x.pc; cur = binding x.at x.marks; top = x.top; slots = slots_of t; binds = binds_of b }

  -- None where no state is left.
  unfoldable pub standing : State → Tables → List Binding → Option (Conf (places dialect form s g))
  unfolding when conf_of
  standing x t b = when (eqb x.live 0) none (some (conf_of x t b))

  unfoldable pub engine_of : Run → Engine (places dialect form s g)
  unfolding standing
  engine_of r = record {
    conf = standing r.state r.tables r.binds;
    left = length r.room - r.state.words;
    rows = r.state.rows;
    steps = r.state.steps;
    written = take r.state.words r.room;
    full = eqb r.state.live 3;
  }
