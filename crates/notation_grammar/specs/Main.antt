-- What the code tells of what the notation says.
use Rattle.std.specs.Prelude.{List, ◌++◌, length, ℤ, Ok, Err}
use Rattle.forms.specs.Written.{pattern_words}
use Rattle.notation_rules.specs.Places.{Told, good, faulty}
use Rattle.notation_rules.specs.Rules.{Rule, rule}
use Rattle.notation_read.specs.Read.{Answered, numbered}
use Rattle.notation_read.specs.declared.Refusal.TheVariants.{Unreadable}
use Rattle.notation_read.specs.Read as Code
use Rattle.notation_grammar.specs.Over.{over}
use Rattle.notation_grammar.specs.Shapes.{cause_of, units_words, both_words}

-- What the code tells of what the notation says, over the lent words: where the words of each part begin and end, or cause, line and column.
unfoldable pub answered : Told Rule → List ℤ → Answered
unfolding cause_of units_words both_words pattern_words over numbered Code.told
answered (good (rule u m p)) lent =
    Code.told (Ok (record { matcher = length (units_words u); pattern = length (both_words u m); end = length (both_words u m ++ pattern_words p) })) (over (both_words u m ++ pattern_words p) lent)
answered (faulty c l k) lent = Code.told (Err (Unreadable (numbered (cause_of c)) l k)) lent
