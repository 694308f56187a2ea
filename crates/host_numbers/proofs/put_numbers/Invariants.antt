use lib.ListN.{take}
use Rattle.std.proofs.Common.{◌≡◌}
use Rattle.host_numbers.specs.Numbers.{bytes_of, over}
use Rattle.host_numbers.proofs.put_numbers.Given as goal

abbrev pub invariant-loop-i : goal.invariant-loop-i
invariant-loop-i l = l.out ≡ over (bytes_of (take l.i l.numbers)) l.initial.out
