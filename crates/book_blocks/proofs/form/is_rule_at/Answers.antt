-- `book_blocks::form::is_rule_at` meets its contract: what is read out is the rule of the bytes.
use borrow.Author.Rules.{rules}
use Rattle.book_blocks.proofs.form.Forms.{rule_given}
use Rattle.book_blocks.proofs.form.is_rule_at.Goals as goal

pub returns : goal.returns
returns c = rule_given _ _ _ _ _ _ _ c.requires.matcher_in_rule (search rules) c.read_words.ensures c.is_rule_in.ensures
