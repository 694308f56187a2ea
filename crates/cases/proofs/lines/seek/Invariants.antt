-- The lines that are left stand from the index on.
use Rattle.std.proofs.Common.{◌≡◌, ◌+◌, ◌≤◌, length}
use Rattle.std.specs.Slice.Iter.{split_inclusive_rest}
use Rattle.cases.proofs.lines.seek.Given as goal

abbrev pub invariant-loop-line : goal.invariant-loop-line
invariant-loop-line l = (l.from ≤ l.at) × (l.at + length (split_inclusive_rest l.line-iterator) ≡ length l.text)
