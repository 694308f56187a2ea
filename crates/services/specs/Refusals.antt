-- The numbers of a refusal: of the tests 1 to 6 theirs; of the other answers the place and the cause are 0.
use Rattle.std.specs.Prelude.{ℕ}
use Rattle.tests.specs.Judgements.{Numbers, numbers_of}
use Rattle.services.specs.declared.refusal.Refused.{Refused}
use Rattle.services.specs.declared.refusal.Refused.TheVariants.{UnknownForm, UnknownDialect, Tested, Cap, TooBig, AlwaysTrue}

abbrev pub alone : ℕ → Numbers
alone a = record { answer = a; place = 0; cause = 0 }

unfoldable pub refused_numbers : Refused → Numbers
refused_numbers UnknownForm = alone 20
refused_numbers UnknownDialect = alone 22
refused_numbers (Tested r) = numbers_of r
refused_numbers Cap = alone 9
refused_numbers TooBig = alone 10
refused_numbers AlwaysTrue = alone 11
