-- Laws of what specs/OldFigure.antt defines.
use Rattle.std.specs.Prelude.{ℕ, suc, ◌≤◌}
use native.Mathlib.Omega.{arith}
use Rattle.std.proofs.Common.{le_refl, mul-le-mul, mul-le-mul_left, mul-le-mul_right}
use Rattle.rules.specs.Forms.{Matcher, something, integer, list, multiset, tuple_of, Matchers, no_matchers, ◌▸ᵐ◌}
use Rattle.rules.specs.Forms.{Pattern, wildcard, nil, variable, constant, value, cons, join, tuple, both, either, never, Patterns, no_patterns, ◌▸ᵖ◌}
use Rattle.rules.specs.Fit.{element, members}
use Rattle.rules.specs.Review.{leaf_steps, cons_factor, factor, factor_all, summed, summed_all, formula}
use Rattle.promises.specs.OldFigure.{old_cons_factor, old_factor, old_factor_all, old_formula, old_summed, old_summed_all}

-- ---- The figure of No. 12 is at cap this one.

module _ (cap : ℕ) where
  cons_less : (taken : ℕ) (m : Matcher) → cons_factor cap taken m ≤ old_cons_factor cap m
  unfolding cons_factor old_cons_factor
  cons_less taken something = omega arith
  cons_less taken integer = omega arith
  cons_less taken (list m) = omega arith
  cons_less taken (multiset m) = omega arith
  cons_less taken (tuple_of ms) = omega arith

  mutual
    unfolding factor old_factor

    pub factor_less : (taken : ℕ) (p : Pattern) (m : Matcher) → factor cap taken p m ≤ old_factor cap p m
    factor_less taken wildcard m = omega arith
    factor_less taken nil m = omega arith
    factor_less taken (variable v) m = omega arith
    factor_less taken (constant c) m = omega arith
    factor_less taken (value v c) m = omega arith
    factor_less taken (cons p q) m = mul-le-mul (cons_less taken m) (mul-le-mul (factor_less 0 p (element m)) (factor_less (suc taken) q m))
    factor_less taken (join p q) m = mul-le-mul_left (suc cap) (mul-le-mul (factor_less 0 p m) (factor_less 0 q m))
    factor_less taken (tuple ps) m = factor_less_each ps (members m)
    factor_less taken (both p q) m = mul-le-mul (factor_less taken p m) (factor_less taken q m)
    factor_less taken (either p q) m = omega (arith, factor_less taken p m, factor_less taken q m)
    factor_less taken (never p) m = omega arith

    factor_less_each : (ps : Patterns) (ms : Matchers) → factor_all cap ps ms ≤ old_factor_all cap ps ms
    factor_less_each no_patterns ms = omega arith
    factor_less_each (p ▸ᵖ ps) no_matchers = omega arith
    factor_less_each (p ▸ᵖ ps) (m ▸ᵐ ms) = mul-le-mul (factor_less 0 p m) (factor_less_each ps ms)

  mutual
    unfolding summed old_summed

    summed_less : (taken : ℕ) (p : Pattern) (m : Matcher) (a b : ℕ) → a ≤ b → summed cap taken p m a ≤ old_summed cap p m b
    summed_less taken wildcard m a b h = mul-le-mul_left (leaf_steps m) h
    summed_less taken nil m a b h = h
    summed_less taken (variable v) m a b h = mul-le-mul_left (leaf_steps m) h
    summed_less taken (constant c) m a b h = h
    summed_less taken (value v c) m a b h = h
    summed_less taken (cons p q) m a b h =
        let c = mul-le-mul h (cons_less taken m) in
        omega (arith, summed_less 0 p (element m) _ _ c, summed_less (suc taken) q m _ _ (mul-le-mul c (factor_less 0 p (element m))))
    summed_less taken (join p q) m a b h =
        let c = mul-le-mul_right (suc cap) h in omega (arith, summed_less 0 p m _ _ c, summed_less 0 q m _ _ (mul-le-mul c (factor_less 0 p m)))
    summed_less taken (tuple ps) m a b h = omega (arith, summed_less_each ps (members m) a b h)
    summed_less taken (both p q) m a b h =
        omega (arith, summed_less taken p m a b h, summed_less taken q m _ _ (mul-le-mul h (factor_less taken p m)))
    summed_less taken (either p q) m a b h = omega (arith, summed_less taken p m a b h, summed_less taken q m a b h)
    summed_less taken (never p) m a b h = omega (arith, summed_less taken p m a b h, mul-le-mul h (factor_less taken p m))

    summed_less_each : (ps : Patterns) (ms : Matchers) (a b : ℕ) → a ≤ b → summed_all cap ps ms a ≤ old_summed_all cap ps ms b
    summed_less_each no_patterns ms a b h = omega arith
    summed_less_each (p ▸ᵖ ps) no_matchers a b h = omega arith
    summed_less_each (p ▸ᵖ ps) (m ▸ᵐ ms) a b h =
        omega (arith, summed_less 0 p m a b h, summed_less_each ps ms _ _ (mul-le-mul h (factor_less 0 p m)))

  -- "That it never exceeds the old one."
  pub figure_less : (p : Pattern) (m : Matcher) → formula cap p m ≤ old_formula cap p m
  unfolding formula old_formula
  figure_less p m = omega (arith, summed_less 0 p m 1 1 (le_refl 1), factor_less 0 p m)
