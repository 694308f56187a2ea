use Rattle.tables.specs.PlaceLaws.{no_places_lem}
use Rattle.search.specs.Run.{run}
use Rattle.search.proofs.Begun.{first_valid, first_searched}
use Rattle.search.proofs.search.Goals as goal

pub places_of-requires : goal.places_of-requires
places_of-requires c = no_places_lem _ c.no_places-places.ensures

pub fresh_if-requires : goal.fresh_if-requires
fresh_if-requires c = record { given = record { target = c.args.units.target; placed = c.places_of.ensures }; some_words = c.requires.some_words }

pub advance-last-requires : goal.advance-last-requires
advance-last-requires c = record { given = record { target = c.args.units.target; placed = c.places_of.ensures }; fine = c.requires.fine; valid = first_valid _ c.requires.some_words _ c.open-first.ensures.state _ c.open-first.ensures.binds _ c.no_slots-slots.ensures _; fresh = c.fresh_if.ensures }

pub returns : goal.returns
returns c = first_searched _ c.requires.some_words _ c.open-first.ensures.state _ c.open-first.ensures.binds _ c.no_slots-slots.ensures _ c.args.units.target c.requires.fine _ (run c.advance-last.result.state _ c.advance-last.result.binds _) _ c.advance-last.ensures c.tell.ensures
