use mathlib.Core.Path.{sym, ◌∙◌}
use Rattle.service_runs.proofs.Lending.{is_admitted, goes_not, goes_carried}
use Rattle.service_runs.proofs.run.go_on.Goals as goal

pub returns-then-is_err : goal.returns-then-is_err
returns-then-is_err c = goes_not _ _ _ _ _ _ _ _ _ _ c.tested.ensures (sym c.is_err.ensures.value ∙ c.if-is_err.true)

pub carry_on-requires : goal.carry_on-requires
carry_on-requires c = record {
  admitted = is_admitted _ _ _ _ _ c.tested.ensures (sym c.is_err.ensures.value ∙ c.if-is_err.false);
  stands = c.requires.stands;
}

pub returns : goal.returns
returns c = goes_carried _ _ _ _ _ _ _ _ _ _ _ _ c.carry_on.ensures
