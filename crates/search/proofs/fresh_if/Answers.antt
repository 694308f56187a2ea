use mathlib.Core.Path.{refl}
use Rattle.value_firsts.proofs.Freshly.{fresh_zero}
use Rattle.search.proofs.fresh_if.Goals as goal

pub returns-then-not-firsts : goal.returns-then-not-firsts
returns-then-not-firsts c = fresh_zero _ _ _ _

pub fresh_places-requires : goal.fresh_places-requires
fresh_places-requires c = record { placed = c.requires.given.placed; tag = record { even = refl; inside = c.requires.some_words } }

pub returns : goal.returns
returns c = c.fresh_places.ensures
