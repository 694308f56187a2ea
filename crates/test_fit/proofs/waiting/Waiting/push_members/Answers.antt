-- The loop's invariant is that what is left to store gives the same stack.
use mathlib.Core.Path.{refl}
use Rattle.test_fit.proofs.Steps.{stored_turn, stored_all}
use Rattle.test_fit.proofs.waiting.Waiting.push_members.Goals as goal

pub loop-left-init : goal.loop-left-init
loop-left-init c = record { same = refl; stack = c.requires.1; rest = refl }

pub loop-left-preserved : goal.loop-left-preserved
loop-left-preserved c = stored_turn _ _ _ _ _ _ _ c.loop-left.invariant c.loop-left-test.true _ c.matcher_end-e.ensures

pub returns : goal.returns
returns c = stored_all _ _ _ _ _ _ _ c.loop-left.invariant c.loop-left-test.false
