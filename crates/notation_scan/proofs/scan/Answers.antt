use Rattle.std.proofs.Common.{◌≤◌, arith, ◌∙◌}
use Rattle.notation_scan.proofs.Laws.{scan_end}
use Rattle.notation_scan.proofs.scan.Goals as goal

pub returns : goal.returns
returns c =
    let within : c.args.at ≤ c.max-end.result = omega (arith, c.max-end.ensures) in
    c.token-2.ensures ∙ scan_end c.args.text.now c.args.at c.loop-i.begun c.loop-i.i c.loop-i.invariant c.max-end.result (omega (arith, c.max-end.ensures)) (omega arith) (c.loop-i.auto.i-end within)
