-- Document 02, No. 10, at the border to C: match in the other search order, over a lent table of so many words.
use Rattle.std.specs.Prelude.{ℕ, cond, List, length, ltb, ℤ}
use Rattle.round_rules.specs.Rounds.{states_in, match_rounds_picked}
use Rattle.host.specs.Border.{Called, called, match_told}

-- 24 before all others; a state has 825 words.
unfoldable pub rounds_called : (form dialect : ℕ) (ms ps ts : List ℤ) (budget words : ℕ) (room : List ℤ) (numbers : List ℕ) → Called
unfolding states_in match_rounds_picked match_told
rounds_called form dialect ms ps ts budget words room numbers =
    cond (ltb (length numbers) 48) (called 24 room numbers) (match_told (match_rounds_picked form dialect ms ps ts (states_in 825 words) budget room) numbers)
