-- What waits, in an array up to a depth.
use Rattle.std.specs.Prelude.{ℕ, zero, suc, ◌+◌, ◌-◌, List, [], ◌∷◌, get_or}
use Rattle.review_count.specs.Tally.{aside}
use Rattle.review_count.specs.declared.count.Laid.{Laid}
use Rattle.review_count.specs.declared.count.Turn.{Turn}
use Rattle.review_count.specs.declared.count.Turn.TheVariants.{Stay, Rest, Anew, Same, Take}

unfoldable pub waiting_at : (waits : List Laid) (depth : ℕ) → List Laid
waiting_at w zero = []
waiting_at w (suc d) = get_or w d (aside 0 0) ∷ waiting_at w d

unfoldable pub top_in : (waits : List Laid) (depth : ℕ) → Laid
top_in w zero = aside 0 0
top_in w (suc d) = get_or w d (aside 0 0)

unfoldable pub depth_by : Turn → (depth : ℕ) → ℕ
depth_by Stay d = d
depth_by Rest d = d + 1
depth_by Anew d = d + 1
depth_by Same d = d + 1
depth_by Take d = d - 1
