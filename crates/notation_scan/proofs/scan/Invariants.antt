use Rattle.std.proofs.Common.{◌≡◌, drop}
use Rattle.notation_scan.specs.Scanned.{scan_from, scanned}
use Rattle.notation_scan.proofs.scan.Given as goal

abbrev pub invariant-loop-i : goal.invariant-loop-i
invariant-loop-i l = scan_from l.text l.begun l.i (drop l.i l.text) ≡ scanned l.text l.at
