-- What the total's numbers stand for.
use Rattle.std.specs.Prelude.{ℕ, Result, Ok, Err}
use Rattle.std.proofs.Math.Option.{none}
use Rattle.book_rules.specs.Books.{Book, Told}
use Rattle.book_blocks.specs.declared.fault.Fault.{Fault}

-- A call that reads no rule and changes no block.
unfoldable pub total_told : (answer number : ℕ) → Book → Told
total_told a n b = record { answer = a; number = n; found = none; book = b }

-- The number that is told; 0 in a refusal.
abbrev pub number_in : Result ℕ Fault → ℕ
number_in (Ok n) = n
number_in (Err f) = 0
