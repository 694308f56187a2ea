-- What the trial program sends to standard output.
use Rattle.std.specs.Prelude.{ℕ, ◌≡◌, List, ◌++◌, take, replicate, Option, IfSome}
use Rattle.text_number.specs.Decimal.{newline}
use Rattle.text_print.specs.declared.rows.Rest.{Rest}

-- All of so many bytes and so many empty lines was sent, unless the system took no more.
unfoldable pub Told : Rest → Option Rest → Type 0
Told rest r = IfSome r (λ s. s ≡ rest)

-- A text was sent whole, from a slice and in empty lines, unless the system took no more.
unfoldable pub Whole : (text out : List ℕ) → Option Rest → Type 0
Whole text out r = IfSome r (λ s. take s.at out ++ replicate s.lines newline ≡ text)
