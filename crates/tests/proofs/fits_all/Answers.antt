use Rattle.tests.proofs.Laws.{all_long, all_equal}
use Rattle.tests.proofs.fits_all.Goals as goal
use mathlib.Core.Path.{◌∙◌}
use borrow.Author.Tests.{lt-leb}

pub returns-then-ts-le-TARGET_WORDS : goal.returns-then-ts-le-TARGET_WORDS
returns-then-ts-le-TARGET_WORDS c = c.eq.ensures ∙ all_equal c.args.ms.now c.args.ts.now c.if-ts-le-TARGET_WORDS.true c.fit_end.result c.fit_end.ensures

pub returns-else-ts-le-TARGET_WORDS : goal.returns-else-ts-le-TARGET_WORDS
returns-else-ts-le-TARGET_WORDS c = lt-leb _ _ c.if-ts-le-TARGET_WORDS.false ∙ all_long c.args.ms.now c.args.ts.now c.if-ts-le-TARGET_WORDS.false
