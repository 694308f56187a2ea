-- `book_blocks::writing::write_block` meets its contract: head, rule, check.
use borrow.Author.Rules.{rules}
use Rattle.book_blocks.proofs.writing.Puts.{block_out}
use Rattle.book_blocks.proofs.writing.write_block.Goals as goal

pub returns : goal.returns
returns c = block_out _ _ _ _ _ _ _ _ _ _ (search rules) c.requires.at_most_longest c.put_head.ensures c.put_rule.ensures c.seal.ensures
