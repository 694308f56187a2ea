-- What the calls of a comparison ask of the matcher at an index, and the matchers of a tuple's parts. Assumes nothing.
use mathlib.Core.Path.{◌≡◌, ◌∙◌, ap}
use mathlib.Core.List.{List}
use Prim.Native.Nat.{ℕ, zero, suc, ◌+◌, ◌^◌, ◌<◌, ◌≤◌}
use native.Mathlib.Omega.{arith}
use lib.ListN.{length}
use lib.IntN.{ℤ}
use mir.Syntax.{w64}
use mir.Val.{Fits}
use Rattle.rules.specs.Forms.{countᵐ}
use Rattle.words.specs.Words.{tag_at}
use Rattle.matchers.specs.Places.{matcher_end, matchers_at}
use Rattle.matchers.proofs.Matchers.{matcher_inside, matchers_none, matchers_more}

module _ (mt : List ℤ) (i k : ℕ) (e : k ≡ tag_at mt i) (h : k ≤ 4) where
  pub matcher_next : length mt < 2 ^ 64 → Fits w64 (i + 1)
  matcher_next l = record { fits = omega (arith, matcher_inside mt i k e h) }

  pub matcher_width : i + 1 ≤ length mt
  matcher_width = omega (arith, matcher_inside mt i k e h)

pub count_matchers : (mt : List ℤ) (n at : ℕ) → countᵐ (matchers_at mt n at) ≡ n
unfolding countᵐ
count_matchers mt zero at = ap countᵐ (matchers_none mt at)
count_matchers mt (suc n) at = ap countᵐ (matchers_more mt n at) ∙ ap suc (count_matchers mt n (matcher_end mt at))
