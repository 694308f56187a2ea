use mathlib.Core.Path.{refl, ◌∙◌}
use Rattle.tables.specs.PlaceLaws.{no_places_lem}
use Rattle.round_run.proofs.Runs.{no_table_lem, table_some, first_framed, first_starts, run_room, run_told}
use Rattle.round_run.proofs.search_rounds.Goals as goal

pub returns-then-limit-eq0 : goal.returns-then-limit-eq0
returns-then-limit-eq0 c = no_table_lem _ _ _ _ _ c.most_states-limit.ensures c.if-limit-eq0.true _ c.without_table.ensures

pub invariant_of-units : goal.invariant_of-units
invariant_of-units c = record { target = c.requires.ruled.target_is }

pub places_of-requires : goal.places_of-requires
places_of-requires c = no_places_lem _ c.no_places-places.ensures

pub slots_used-requires : goal.slots_used-requires
slots_used-requires c = c.requires.ruled.fine.slot

pub invariant_of-used : goal.invariant_of-used
invariant_of-used c = record { bindings = c.slots_used.ensures.variables; most = c.slots_used.ensures.most }

pub open-first-requires : goal.open-first-requires
open-first-requires c = c.requires.ruled.some_words

pub keep-requires : goal.keep-requires
keep-requires c = let R = c.requires.ruled in record { framed = first_framed _ R _ c.open-first.ensures.state _ c.open-first.ensures.binds _ c.no_slots-slots.ensures; few_variables = R.fine.few; table_long = table_some _ _ c.most_states-limit.ensures c.if-limit-eq0.false }

pub rounds-r-requires : goal.rounds-r-requires
rounds-r-requires c = record { given = record { target = c.requires.ruled.target_is; placed = c.places_of.ensures }; starts = first_starts _ c.requires.ruled _ c.open-first.ensures.state _ c.open-first.ensures.binds _ c.no_slots-slots.ensures _ c.slots_used.ensures _ _ _ c.most_states-limit.ensures _ _ _ refl c.keep.ensures; budget_fits = c.requires.budget_fits }

pub shape_of-table : goal.shape_of-table
shape_of-table c = c.rounds-r.ensures.long ∙ c.keep.ensures.long

pub shape_of-room : goal.shape_of-room
shape_of-room c = run_room _ _ _ _ _ _ _ _ _ _ _ c.open-first.ensures.state c.open-first.ensures.binds c.no_slots-slots.ensures c.slots_used.ensures c.most_states-limit.ensures refl c.keep.ensures _ _ _ _ c.rounds-r.ensures c.requires.ruled

pub returns : goal.returns
returns c = run_told _ _ _ _ _ _ _ _ _ _ _ c.open-first.ensures.state c.open-first.ensures.binds c.no_slots-slots.ensures c.slots_used.ensures c.most_states-limit.ensures refl c.keep.ensures _ _ _ _ c.rounds-r.ensures
