-- What is sent of the library's answer is the text.
use Rattle.std.proofs.Common.{Option, Some, None, List, ℕ}
use Rattle.text.specs.Meaning.{Answer}
use Rattle.text.specs.Printed.{printed}
use Rattle.text_print.specs.declared.rows.Rest.{Rest}
use Rattle.text_print.specs.Meaning.{Text}
use Rattle.trial.specs.Meaning.{Told, Whole}
use Rattle.trial.proofs.respond.Goals as goal

sent_whole : (old new text : List ℕ) (rest : Rest) (r : Option Rest) → Text old new rest text → Told rest r → Whole text new r
unfolding Told Whole
sent_whole old new text rest None t s = tt
sent_whole old new text rest (Some x) t s = rw s t.whole

pub returns-in_err-rest : goal.returns-in_err-rest
unfolding Whole
returns-in_err-rest g c = rw c.from_residual.ensures tt

pub send-requires : goal.send-requires
unfolding Answer
send-requires g c = c.in_ok-rest.ensures.2.within

pub returns : goal.returns
unfolding Answer
returns g c = sent_whole _ _ _ _ _ c.in_ok-rest.ensures.2 c.send.ensures
