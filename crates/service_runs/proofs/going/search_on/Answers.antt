use borrow.Author.Rules.{rules}
use Rattle.tables.specs.PlaceLaws.{no_places_lem}
use Rattle.service_runs.proofs.going.search_on.Goals as goal

pub places_of-requires : goal.places_of-requires
places_of-requires c = search (rules, no_places_lem)
