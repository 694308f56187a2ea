-- `book_words::read_words` meets its contract: what is left to write over the slice gives the whole.
use Rattle.book_words.proofs.Reading.{read_begins, read_turn, read_all}
use Rattle.book_words.proofs.read_words.Goals as goal

pub loop-i-init : goal.loop-i-init
loop-i-init c = read_begins _ _ _ _

pub loop-i-preserved : goal.loop-i-preserved
loop-i-preserved c = read_turn _ _ _ _ _ _ c.loop-i.invariant c.loop-i-test.true _ _ c.both_halves.ensures c.both_halves.type_inv c.cast_signed.ensures

pub returns : goal.returns
returns c = read_all _ _ _ _ _ _ c.loop-i.invariant c.loop-i-test.false
