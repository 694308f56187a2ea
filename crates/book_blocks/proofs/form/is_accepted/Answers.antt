-- `book_blocks::form::is_accepted` meets its contract: accepted or refused.
use Rattle.std.proofs.Common.{◌∙◌}
use Rattle.book_blocks.proofs.form.Forms.{accepted_is}
use Rattle.book_blocks.proofs.form.is_accepted.Goals as goal

pub returns : goal.returns
returns c = c.is_ok.ensures.value ∙ accepted_is _ _ c.rule_refused_in.ensures
