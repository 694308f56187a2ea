-- `book_words::are_zero` meets its contract: each word is tested, and the tests of all give the block's.
use Rattle.std.proofs.Common.{◌+◌, ◌*◌, eqb, ◌∙◌, arith, rules, tests, refl, ap}
use Rattle.std.proofs.lemmas.Iterator.{YieldsList-from_range}
use Rattle.std.proofs.lemmas.Iterator.Search.{all_from_yields_List}
use Rattle.book_rules.specs.Blocks.{zeros}
use Rattle.book_rules.specs.Bytes.{word_at, words_from}
use Rattle.book_words.proofs.Reading.{zeros_all}
use Rattle.book_words.proofs.are_zero.Goals as goal

pub returns : goal.returns
returns c =
    all_from_yields_List (λ i. eqb (word_at c.args.s.now (c.args.at + 2 * i)) 0) _ _ _ c.all.ensures.ran
    (YieldsList-from_range 0 c.args.n c.args.n refl (omega arith)) (λ x b q k. search (rules, tests))
    ∙ zeros_all c.args.s.now c.args.at c.args.n 0 ∙ ap (λ i. zeros c.args.n (words_from c.args.s.now i c.args.n)) (omega arith)
