-- `host::books::lozhbinor_book_block` meets its contract: 24 where the slices are too short, else what crate `book` gives, every byte.
use Rattle.std.proofs.Common.{◌∙◌, ap}
use Rattle.host.specs.Books.{head_numbers}
use Rattle.host.proofs.books.Calls.{block_told, four}
use Rattle.host.proofs.books.lozhbinor_book_block.Goals as goal

pub returns : goal.returns
returns c =
    block_told _ _ _ _ _ _ _ _ _ _ _ c.if-numbers-lt-RULE_BYTES.false c.if-words-lt-LONGEST.false c.show-told.ensures c.answer-answer.ensures c.from.ensures
    (c.from-2.ensures ∙ c.badge_and_head-badge.ensures.badge) (four _ _ c.head_numbers.ensures ∙ ap head_numbers c.badge_and_head-badge.ensures.head) c.put_numbers.ensures
