-- What was written into a lent slice of bytes.
use Rattle.std.specs.Prelude.{ℕ, ◌+◌, ◌*◌, ◌≤◌, ◌≡◌, List, [], ◌∷◌, ◌++◌, length, take, drop, replicate, ℤ, pos}
use Rattle.std.proofs.lemmas.List.Edits.{sets}
use Rattle.text_number.specs.Decimal.{newline}
use Rattle.text_print.specs.Decimal.{line_of}
use Rattle.text_print.specs.Rows.{cut_rows, empty_rows, lines}
use Rattle.text_print.specs.declared.rows.Rest.{Rest}

-- The one line `unreadable`.
abbrev pub unreadable : List ℕ
unreadable = 117 ∷ 110 ∷ 114 ∷ 101 ∷ 97 ∷ 100 ∷ 97 ∷ 98 ∷ 108 ∷ 101 ∷ newline ∷ []

-- A list with other bytes from an index on.
unfoldable pub put : List ℕ → ℕ → List ℕ → List ℕ
put l at bs = sets l at bs

-- A text was written from an index to an end, and nothing else.
pub record Wrote (old new : List ℕ) (at end : ℕ) (text : List ℕ) : Type 0 where
  pub ends : end ≡ at + length text
  pub bytes : new ≡ put old at text

-- The line of six numbers.
unfoldable pub six_line : (a b c d e f : ℕ) → List ℕ
unfolding line_of
six_line a b c d e f = line_of (pos a ∷ pos b ∷ pos c ∷ pos d ∷ pos e ∷ pos f ∷ [])

-- Rows were printed from an index on; the last of them are empty lines, which are counted and not written. Nothing else was written.
pub record WroteRows (old new : List ℕ) (at : ℕ) (r : Rest) (values rows : ℕ) (ws : List ℤ) : Type 0 where
  pub text : take r.at new ++ replicate r.lines newline ≡ take at old ++ lines (cut_rows values rows ws)
  pub kept : drop r.at new ≡ drop r.at old
  pub empty : r.lines ≡ empty_rows values rows ws
  pub from : at ≤ r.at
  pub within : r.at ≤ at + 22 * length ws

-- A text stands at the start, but for its last empty lines, which are counted; all behind is as it was.
pub record Text (old new : List ℕ) (r : Rest) (text : List ℕ) : Type 0 where
  pub whole : take r.at new ++ replicate r.lines newline ≡ text
  pub kept : drop r.at new ≡ drop r.at old
  pub within : r.at ≤ length new
