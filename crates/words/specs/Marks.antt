-- Marks: a number below 2 ^ 64 whose binary digit k, lowest first, says that element k is left. Which places are marked, in order; marks with one
-- place cleared; the ways to part marks into a front and a back.
use Rattle.std.specs.Prelude.{ℕ, zero, suc, ◌+◌, ◌*◌, ◌/◌, ◌%◌, ◌^◌, ◌<◌, List, [], ◌∷◌, map, ◌≡◌, Option, MatchOption}
use Rattle.std.specs.Int.Count.{count_trailing_zeros}

-- Digit k of m.
unfoldable pub digit : ℕ → ℕ → ℕ
digit zero m = m % 2
digit (suc k) m = digit k (m / 2)

-- Each place that c marks, m marks.
abbrev pub Among : ℕ → ℕ → Type 0
Among c m = (k : ℕ) → digit k c ≡ 1 → digit k m ≡ 1

-- m with place k cleared.
unfoldable pub clear : ℕ → ℕ → ℕ
clear zero m = m / 2 * 2
clear (suc k) m = clear k (m / 2) * 2 + m % 2

-- The places marked among the k lowest, in ascending order.
abbrev pub zero_if : ℕ → List ℕ → List ℕ
zero_if zero l = l
zero_if (suc d) l = 0 ∷ l

unfoldable pub positions : ℕ → ℕ → List ℕ
positions zero m = []
positions (suc k) m = zero_if (m % 2) (map suc (positions k (m / 2)))

-- From marks m an iterator goes on to marks n: it gives the lowest place, which n lacks; where no place is marked, it gives none and stays.
abbrev pub TakesLowest : ℕ → Option ℕ → ℕ → Type 0
TakesLowest m r n = MatchOption r ((m ≡ 0) × (n ≡ 0)) (λ k. (0 < m) × (k ≡ count_trailing_zeros 64 m) × (n ≡ clear (count_trailing_zeros 64 m) m))

-- The marks in two: a front, and a back above it; the shortest front first.
pub record Split : Type 0 where
  pub front : ℕ
  pub back : ℕ

unfoldable pub under : ℕ → Split → Split
under d s = record { front = s.front * 2 + d; back = s.back * 2 }

abbrev pub whole_if : ℕ → ℕ → List Split → List Split
whole_if zero m l = l
whole_if (suc d) m l = record { front = 0; back = m } ∷ l

unfoldable pub splits : ℕ → ℕ → List Split
unfolding under
splits zero m = record { front = 0; back = 0 } ∷ []
splits (suc k) m = whole_if (m % 2) m (map (under (m % 2)) (splits k (m / 2)))

-- The same parts, with marks a put before each front.
unfoldable pub raise : ℕ → Split → Split
raise a s = record { front = a + s.front; back = s.back }

-- A front and a back, and the next: the lowest mark of the back goes over to the front.
pub record Longer (f b f' b' : ℕ) : Type 0 where
  pub front : f' ≡ f + 2 ^ count_trailing_zeros 64 b
  pub back : b' ≡ clear (count_trailing_zeros 64 b) b
  pub sum : f' + b' ≡ f + b
