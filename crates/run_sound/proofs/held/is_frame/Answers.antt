-- `run_sound::held::is_frame` meets its contract: test after test.
use Rattle.run_sound.proofs.Tests.{frame_join, frame_rules}
use borrow.Author.Rules.{rules}
use Rattle.run_sound.proofs.held.is_frame.Goals as goal

pub returns-then-o-eq-JOIN : goal.returns-then-o-eq-JOIN
returns-then-o-eq-JOIN c = frame_join _ _ _ _ _ _ (search rules) (search rules) (search rules) (search rules) c.is_held.result (search rules) (search rules) (search rules)
