-- `book_words::put_words` meets its contract: what is left to write over the slice gives the whole.
use Rattle.book_words.proofs.Writing.{words_begin, words_turn, words_all_lem}
use Rattle.std.proofs.Common.{rules}
use Rattle.book_words.proofs.put_words.Goals as goal

pub loop-i-init : goal.loop-i-init
loop-i-init c = words_begin _ _ _

pub loop-i-preserved : goal.loop-i-preserved
loop-i-preserved c = words_turn _ _ _ _ _ _ c.loop-i.invariant c.loop-i-test.true _ c.cast_unsigned.ensures (search rules) c.put_halves.ensures

pub returns : goal.returns
returns c = words_all_lem _ c.loop-i.s _ _ _ _ c.loop-i.invariant c.loop-i-test.false
