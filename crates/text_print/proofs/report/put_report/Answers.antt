-- The line of the six numbers, and the rows behind it.
use Rattle.std.proofs.Common.{arith, ◌∷◌, [], pos}
use Rattle.text_print.specs.Meaning.{six_line}
use Rattle.text_print.proofs.Written.{same_long}
use Rattle.text_print.proofs.print.Laws.{line_short}
use Rattle.text_print.proofs.report.Laws.{text_rows}
use Rattle.text_print.proofs.report.put_report.Goals as goal

pub put_rows-requires-clause-ws_in_bounds : goal.put_rows-requires-clause-ws_in_bounds
put_rows-requires-clause-ws_in_bounds c =
    let n = c.args.numbers in
    let six = line_short (pos n.answer ∷ pos n.place ∷ pos n.rows ∷ pos n.steps ∷ pos n.words ∷ pos n.cause ∷ []) (omega arith) in
    omega (arith, c.put_line-at.ensures.ends, same_long _ _ _ _ _ c.put_line-at.ensures)

pub returns-clause-text : goal.returns-clause-text
unfolding six_line
returns-clause-text c =
    let n = c.args.numbers in
    let six = line_short (pos n.answer ∷ pos n.place ∷ pos n.rows ∷ pos n.steps ∷ pos n.words ∷ pos n.cause ∷ []) (omega arith) in
    text_rows _ _ _ _ _ _ _ _ _ c.put_line-at.ensures c.put_rows.ensures (omega arith) (omega arith) (omega arith) (omega arith)
