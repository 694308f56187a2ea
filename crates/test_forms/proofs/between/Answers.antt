use Rattle.std.proofs.Common.{arith}
use Rattle.std.proofs.lemmas.Bool.Decides.{nat_tests}
use Rattle.test_forms.specs.Ends.{within}
use Rattle.test_forms.proofs.between.Goals as goal

pub returns : goal.returns
unfolding within
returns c = grind (arith, nat_tests)
