-- A minus and a number, or a number.
use Rattle.std.proofs.Common.{arith, inl, inr, ◌∙◌}
use borrow.Author.Tests.{ltb-true}
use Rattle.text_number.proofs.Laws.{no_minus, minus_read, no_plus, plus_read}
use Rattle.text_number.proofs.number.Goals as goal
use Rattle.text_number.proofs.number.Goals.{in_default-via-then-text-lt1, in_default-via-else-text-lt1+in_default-1}

pub returns-in_err-natural-in-45 : goal.returns-in_err-natural-in-45
returns-in_err-natural-in-45 c = c.from_residual.ensures ∙ no_minus _ (omega arith) (omega arith) (c.in_err-natural-in-45.ensures.value)

pub returns-in_err-natural-in_default : goal.returns-in_err-natural-in_default
returns-in_err-natural-in_default c =
    c.from_residual-in_err-natural-in_default.ensures
    ∙ no_plus _ (elim c.in_default.branch [ in_default-via-then-text-lt1 w ↦ inl (omega (arith, ltb-true)) | in_default-via-else-text-lt1+in_default-1 w ↦ inr (λ e. omega (arith, e)) ]) c.in_err-natural-in_default.ensures.value

pub returns-in_ok-natural-in-45 : goal.returns-in_ok-natural-in-45
returns-in_ok-natural-in-45 c = minus_read _ (omega arith) (omega arith) _ c.in_ok-natural-in-45.ensures.value c.in_ok-natural-in-45.ensures.below

pub returns-in_ok-natural-in_default : goal.returns-in_ok-natural-in_default
returns-in_ok-natural-in_default c =
    plus_read _ (elim c.in_default.branch [ in_default-via-then-text-lt1 w ↦ inl (omega (arith, ltb-true)) | in_default-via-else-text-lt1+in_default-1 w ↦ inr (λ e. omega (arith, e)) ])
    _ c.in_ok-natural-in_default.ensures.value c.in_ok-natural-in_default.ensures.below
