-- What the whole library gives for an input.
use Rattle.std.specs.Prelude.{ℕ, ◌≤◌, ◌<◌, ◌≡◌, List, length, Option, Some, None}
use Rattle.text_print.specs.Meaning.{Text}
use Rattle.text_print.specs.declared.rows.Rest.{Rest}
use Rattle.text.specs.Printed.{printed, empty_lines}

unfoldable pub Answer : (input old new : List ℕ) → Option Rest → Type 0
unfolding printed empty_lines
Answer input old new (Some r) = (98304 ≤ length old) × (r.lines ≡ empty_lines input) × Text old new r (printed input)
Answer input old new None = (length old < 98304) × (new ≡ old)
