use Rattle.std.proofs.Common.{◌≡◌}
use Rattle.notation_rules.specs.Places.{line, column}
use Rattle.notation_read.proofs.place_of.Given as goal

abbrev pub invariant-loop-c : goal.invariant-loop-c
invariant-loop-c l = record { line_so_far : l.line ≡ line l.text l.c-index; column_so_far : l.column ≡ column l.text l.c-index }
