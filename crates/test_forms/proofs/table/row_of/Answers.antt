-- `test_forms::table::row_of` meets its contract: each arm is a row of the table.
use mathlib.Core.Path.{refl}
use native.Mathlib.Omega.{arith}
use Rattle.rules.specs.Reading.{pattern_tags}
use Rattle.test_forms.specs.Ends.{within}
use Rattle.test_forms.specs.Table.{row_in, taken_of}
use Rattle.test_forms.proofs.table.Laws.{five, row_is, row_at, row_none}
use Rattle.test_forms.proofs.table.row_of.Goals as goal
use Rattle.test_forms.proofs.table.row_of.Goals.{in-0, in-1, in-2, in-3, in-4, in-5, in-6, in-8, in-9, in-10}

pub returns-in-7 : goal.returns-in-7
unfolding pattern_tags row_in within taken_of five
returns-in-7 c = rw c.in-7.is (row_is _ _ 7 4 4 (omega arith) (omega arith) refl c.between-taken.ensures)

pub returns-in-11-to-4294967295 : goal.returns-in-11-to-4294967295
returns-in-11-to-4294967295 c = row_none _ _ (omega arith)

pub returns : goal.returns
unfolding pattern_tags row_in within taken_of five
returns c = elim c.match-t.branch [
  | in-0 w ↦ row_at _ _ _ _ c.between-taken-2.ensures 0 0 0 0 4 w.in-0.is w.operands-is (omega arith) (omega arith) refl (λ f. refl)
  | in-1 w ↦ row_at _ _ _ _ c.between-taken-2.ensures 1 1 0 0 4 w.in-1.is w.operands-is (omega arith) (omega arith) refl (λ f. refl)
  | in-2 w ↦ row_at _ _ _ _ c.between-taken-2.ensures 2 1 0 1 1 w.in-2.is w.operands-is (omega arith) (omega arith) refl (λ f. refl)
  | in-3 w ↦ row_at _ _ _ _ c.between-taken-2.ensures 3 2 0 1 4 w.in-3.is w.operands-is (omega arith) (omega arith) refl (λ f. refl)
  | in-4 w ↦ row_at _ _ _ _ c.between-taken-2.ensures 4 0 0 2 3 w.in-4.is w.operands-is (omega arith) (omega arith) refl (λ f. refl)
  | in-5 w ↦ row_at _ _ _ _ c.between-taken-2.ensures 5 0 2 2 3 w.in-5.is w.operands-is (omega arith) (omega arith) refl (λ f. refl)
  | in-6 w ↦ row_at _ _ _ _ c.between-taken-2.ensures 6 0 2 2 2 w.in-6.is w.operands-is (omega arith) (omega arith) refl (λ f. refl)
  | in-8 w ↦ row_at _ _ _ _ c.between-taken-2.ensures 8 0 2 0 4 w.in-8.is w.operands-is (omega arith) (omega arith) refl (λ f. refl)
  | in-9 w ↦ row_at _ _ _ _ c.between-taken-2.ensures 9 0 2 0 4 w.in-9.is w.operands-is (omega arith) (omega arith) refl (λ f. refl)
  | in-10 w ↦ row_at _ _ _ _ c.between-taken-2.ensures 10 0 1 0 4 w.in-10.is w.operands-is (omega arith) (omega arith) refl (λ f. refl)
]
