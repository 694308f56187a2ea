-- What is promised of the scanner: the tokens of a text from an index on are the one that the code gives there, with the character where it begins, and
-- those from its end on; none where the code gives the end. What to believe: Places (the notation's tokens with their places), and here `token_of`,
-- `raw_of` and `spotted`.
use Rattle.std.specs.Prelude.{ℕ, ◌≤◌, ◌≡◌, List, [], length, drop}
use Rattle.notation_rules.specs.Letters.{full}
use Rattle.notation_rules.specs.Places.{spots}
use Rattle.notation_scan.specs.Scanned.{scanned}
use Rattle.notation_same.specs.Scans.{Bytes, spotted}
use Rattle.notation_same.proofs.Scans.{from_index}

pub tokens_same : (text : List ℕ) → Bytes text → (g at : ℕ) → at ≤ length text → spots (full []) g (drop at text) ≡ spotted text (scanned text at)
tokens_same = from_index
