-- `book_blocks::reading::read_block` meets its contract: number after number, and the words.
use borrow.Author.Rules.{rules}
use Rattle.book_blocks.proofs.reading.Rules.{fits_in_lem, fits_out, short, rule_read}
use Rattle.book_blocks.proofs.reading.read_block.Goals as goal

pub read_words-requires : goal.read_words-requires
read_words-requires c = record {
  words_in_bounds = fits_in_lem _ c.requires.live _ _ c.word_at.ensures c.from-n.ensures (search rules);
  room = fits_out _ c.requires.live _ _ c.word_at.ensures c.from-n.ensures _ c.requires.room;
}

pub overflow_sub-result : goal.overflow_sub-result
overflow_sub-result c = short _ c.requires.live _ _ c.word_at.ensures c.from-n.ensures _ _ _ c.word_at-version.ensures c.word_at-fourth.ensures c.length_in-m.ensures

pub returns : goal.returns
returns c = rule_read _ c.requires.live _ _ c.word_at.ensures c.from-n.ensures _ _ _ c.word_at-version.ensures c.word_at-fourth.ensures c.length_in-m.ensures _ _ _ c.dialect_in.ensures c.read_words.ensures
