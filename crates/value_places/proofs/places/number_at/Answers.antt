use borrow.Author.Rules.{sfits_of}
use mir.Facts.{to_z-of_z}
use Rattle.value_places.proofs.Counting.{number_at_is}
use mir.Syntax.{w32}
use Rattle.value_places.proofs.places.number_at.Goals as goal

pub overflow_cast-result : goal.overflow_cast-result
overflow_cast-result c = (number_at_is _ _ _ (to_z-of_z {w = w32} (sfits_of c.result-1.given)) c.requires).0

pub returns : goal.returns
returns c = (number_at_is _ _ _ (to_z-of_z {w = w32} (sfits_of c.result-1.given)) c.requires).1
