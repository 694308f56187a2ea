use Rattle.service_runs.proofs.Lending.{refused_rules}
use Rattle.service_runs.proofs.run.refused.Goals as goal

pub returns-then-not-is_refusal : goal.returns-then-not-is_refusal
returns-then-not-is_refusal c = search refused_rules

pub returns : goal.returns
returns c = search refused_rules
