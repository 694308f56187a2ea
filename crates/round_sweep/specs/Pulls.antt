-- Lists of the table moved to earlier places.
use Rattle.std.specs.Prelude.{ℕ, ◌+◌, ◌*◌, ◌<◌, ◌≡◌, List, length, ℤ}
use Rattle.round_table.specs.Entries.{entry_at}

-- The lists from `many` on stand from `fresh` on, `left` of them, each by the entries that are used; no list before them changes.
pub record Pulled (old new : List ℤ) (many fresh left used : ℕ) : Type 0 where
  pub long : length new ≡ length old
  pub low : (k : ℕ) → k < 275 * fresh → entry_at new k ≡ entry_at old k
  pub moved : (q k : ℕ) → q < left → k < 3 + used → entry_at new (275 * (fresh + q) + k) ≡ entry_at old (275 * (many + q) + k)
