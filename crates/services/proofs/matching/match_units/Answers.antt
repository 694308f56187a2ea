use mathlib.Core.Path.{ap, ◌∙◌}
use Rattle.rules.specs.Services.{match}
use Rattle.services.specs.Matches.{told}
use Rattle.services.proofs.matching.match_units.Goals as goal

pub returns : goal.returns
unfolding match
returns c = ap (λ m. told m c.match_in.new.room) c.from.ensures ∙ c.match_in.ensures
