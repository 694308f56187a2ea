-- `host::books::lozhbinor_book_read` meets its contract: 24 where the slices are too short, else what crate `book` gives, every byte.
use Rattle.std.proofs.Common.{◌∙◌, ap}
use Rattle.book.specs.Lookup.{found_in}
use Rattle.host.specs.Books.{head_numbers}
use Rattle.host.proofs.books.Calls.{read_told, head_is, found_is, four}
use Rattle.host.proofs.books.lozhbinor_book_read.Goals as goal

pub returns : goal.returns
returns c =
    let head = head_is c.read-told.result _ c.unwrap_or-head.ensures in
    read_told _ _ _ _ _ _ _ _ _ _ _ c.if-numbers-lt-RULE_BYTES.false c.if-words-lt-LONGEST.false c.read-told.ensures c.answer-answer.ensures c.from.ensures
    (found_is _ _ _ c.is_some.ensures c.from-found.ensures ∙ ap found_in head) (four _ _ c.head_numbers.ensures ∙ ap head_numbers head) c.put_numbers.ensures
