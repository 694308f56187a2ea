-- What the walk holds, and what a tag that fits leaves of it.
use Rattle.std.specs.Prelude.{ℕ, ◌+◌, ◌-◌, ◌≤◌, ◌<◌, cond, eqb, List, get_or, set, replicate, ℤ, Option, Some, None}
use Rattle.test_fit.specs.Fitting.{pushed}
use Rattle.test_fit.specs.declared.Here.{Here}
use Rattle.test_fit.specs.declared.Here.TheVariants.{Leaf, Bind, One, Parts, Wide}
use Rattle.test_fit.specs.declared.waiting.Waiting.{Waiting}

-- The matcher 0.
unfoldable pub start : Waiting
start = record { stack = replicate 386 0; matchers = 1; under = replicate 128 0; bound = 0; skip = 0 }

-- The matcher on top, and what is left without it.
unfoldable pub top : Waiting → Option ℕ
top w = cond (eqb w.matchers 0) None (Some (get_or w.stack (w.matchers - 1) 0))

unfoldable pub popped : Waiting → Waiting
popped w = record w { matchers = w.matchers - 1 }

unfoldable pub one_more : ℕ → Waiting → Waiting
one_more i w = record w { stack = set w.stack w.matchers i; matchers = w.matchers + 1 }

-- k matchers, one after the other, the first at the index i; it comes on top.
unfoldable pub members_more : List ℤ → (i k : ℕ) → Waiting → Waiting
unfolding pushed
members_more m i k w = record w { stack = pushed m w.stack w.matchers k i; matchers = w.matchers + k }

-- After a tag that stands under the matcher i.
unfoldable pub follows : List ℤ → Here → ℕ → Waiting → Waiting
unfolding one_more members_more
follows m (Leaf o) i w = record w { skip = o }
follows m (Bind o) i w = record w { under = set w.under w.bound i; bound = w.bound + 1; skip = o }
follows m One i w = one_more i w
follows m (Parts f) i w = one_more f (one_more i w)
follows m (Wide f k) i w = record (members_more m f k w) { skip = 1 }

-- There is room for what it asks.
unfoldable pub Room : Here → Waiting → Type 0
Room (Leaf o) w = Unit {0}
Room (Bind o) w = w.bound < 128
Room One w = w.matchers < 386
Room (Parts f) w = w.matchers + 2 ≤ 386
Room (Wide f k) w = w.matchers + k ≤ 386
