-- `book_words::due` meets its contract: what is summed up and what is left give the whole.
use Rattle.book_words.proofs.Reading.{sum_turn, sum_due}
use native.Mathlib.Omega.{arith}
use Rattle.book_words.proofs.due.Goals as goal

pub loop-i-init : goal.loop-i-init
loop-i-init c = record { whole = omega arith; small = omega arith }

pub loop-i-preserved : goal.loop-i-preserved
loop-i-preserved c = record {
  whole = sum_turn _ _ _ _ _ _ c.loop-i.invariant.whole c.loop-i-test.true c.word_at.ensures c.placed-sum.ensures;
  small = omega (arith, c.placed-sum.ensures.most);
}

pub returns : goal.returns
returns c = sum_due _ _ _ c.loop-i.invariant.whole c.loop-i.auto.i-end c.loop-i-test.false
