use Rattle.std.proofs.Common.{ℕ, arith}
use Rattle.std.proofs.lemmas.List.{length-take}
use Rattle.notation_read.proofs.Laws.{line_few, column_few}
use Rattle.notation_read.proofs.place_of.Goals as goal

pub overflow_add-line : goal.overflow_add-line
overflow_add-line c = let a = line_few c.args.text.now c.loop-c.c-index in omega (arith, length-take {A = ℕ})

pub overflow_add-column : goal.overflow_add-column
overflow_add-column c = let a = column_few c.args.text.now c.loop-c.c-index in omega (arith, length-take {A = ℕ})
