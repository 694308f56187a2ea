-- `service_runs::going::try_on` meets its contract: the search goes on from a sound run, which is a valid one.
use Rattle.service_runs.proofs.Steady.{try_valid}
use Rattle.service_runs.proofs.going.try_on.Goals as goal

pub search_on-requires-clause-valid : goal.search_on-requires-clause-valid
search_on-requires-clause-valid c = try_valid _ _ _ _ _ c.requires.stands c.is_sound.result c.is_sound.ensures c.requires.numbered c.if-not-is_sound.false-raw

pub search_on-requires-2-clause-valid : goal.search_on-requires-2-clause-valid
search_on-requires-2-clause-valid c = try_valid _ _ _ _ _ c.requires.stands c.is_sound.result c.is_sound.ensures c.requires.numbered c.if-not-is_sound.false-raw
