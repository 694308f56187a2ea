-- Each digit goes behind those that were read; another byte, too few and too many are no number.
use Rattle.std.proofs.Common.{refl, sym, ◌∙◌, arith, inl, inr}
use Rattle.text_number.proofs.Laws.{none_or_many, all_read, other_byte, digit_more, digit_below, below_ten}
use Rattle.text_number.proofs.natural.Goals as goal

pub returns-then-is_empty-clause-value : goal.returns-then-is_empty-clause-value
returns-then-is_empty-clause-value c = none_or_many _ _ c.is_empty.ensures c.then-is_empty.either

pub loop-byte-init : goal.loop-byte-init
loop-byte-init c = record { read = refl; below = omega arith }

pub overflow_mul-number : goal.overflow_mul-number
overflow_mul-number c = let b = below_ten _ _ c.loop-byte.invariant.below (omega arith) in record { fits = omega arith }

pub overflow_add-number : goal.overflow_add-number
overflow_add-number c = let b = below_ten _ _ c.loop-byte.invariant.below (omega arith) in record { fits = omega arith }

pub returns-in_default-clause-value : goal.returns-in_default-clause-value
returns-in_default-clause-value c = other_byte _ (sym c.is_empty.ensures ∙ c.if-is_empty.false) (omega arith) _ _ c.loop-byte.invariant.read (omega arith) (inl (omega arith))

pub returns-in_default-2-clause-value : goal.returns-in_default-2-clause-value
returns-in_default-2-clause-value c = other_byte _ (sym c.is_empty.ensures ∙ c.if-is_empty.false) (omega arith) _ _ c.loop-byte.invariant.read (omega arith) (inr (omega arith))

pub loop-byte-preserved : goal.loop-byte-preserved
loop-byte-preserved c = record {
  read = rw c.from.ensures (digit_more _ _ _ c.loop-byte.invariant.read (omega arith) (omega arith) (omega arith));
  below = digit_below _ _ _ c.loop-byte.invariant.below (omega arith);
}

pub returns-clause-value : goal.returns-clause-value
returns-clause-value c = all_read _ (sym c.is_empty.ensures ∙ c.if-is_empty.false) (omega arith) _ _ c.loop-byte.invariant.read (omega arith)

pub returns-clause-below : goal.returns-clause-below
returns-clause-below c = below_ten _ _ c.loop-byte.invariant.below (omega arith)
