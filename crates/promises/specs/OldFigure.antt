-- The figure of document 01, section 6, as it stands there: the cap for every cons under a multiset, however many conses were taken before. The figure of
-- document 02, No. 12, never exceeds it.
use Rattle.std.specs.Prelude.{ℕ, suc, ◌+◌, ◌*◌}
use Rattle.rules.specs.Forms.{Matcher, something, integer, list, multiset, tuple_of, Matchers, no_matchers, ◌▸ᵐ◌}
use Rattle.rules.specs.Forms.{Pattern, wildcard, nil, variable, constant, value, cons, join, tuple, both, either, never, Patterns, no_patterns, ◌▸ᵖ◌}
use Rattle.rules.specs.Fit.{element, members}
use Rattle.rules.specs.Review.{leaf_steps}

-- "A factor: the cap for cons under a multiset, the cap plus 1 for join, 1 otherwise."
unfoldable pub old_cons_factor : ℕ → Matcher → ℕ
old_cons_factor cap something = 1
old_cons_factor cap integer = 1
old_cons_factor cap (list m) = 1
old_cons_factor cap (multiset m) = cap
old_cons_factor cap (tuple_of ms) = 1

-- The product of the factors of a pattern's tags. A tuple and an and have factor 1 of their own; "an or adds its sides' factors .., a not has factor 1".
unfoldable mutual
  unfolding old_cons_factor element members

  pub old_factor : ℕ → Pattern → Matcher → ℕ
  old_factor cap wildcard m = 1
  old_factor cap (variable v) m = 1
  old_factor cap (constant c) m = 1
  old_factor cap (value v c) m = 1
  old_factor cap nil m = 1
  old_factor cap (cons p q) m = old_cons_factor cap m * (old_factor cap p (element m) * old_factor cap q m)
  old_factor cap (join p q) m = suc cap * (old_factor cap p m * old_factor cap q m)
  old_factor cap (tuple ps) m = old_factor_all cap ps (members m)
  old_factor cap (both p q) m = old_factor cap p m * old_factor cap q m
  old_factor cap (either p q) m = old_factor cap p m + old_factor cap q m
  old_factor cap (never p) m = 1

  pub old_factor_all : ℕ → Patterns → Matchers → ℕ
  old_factor_all cap no_patterns ms = 1
  old_factor_all cap (p ▸ᵖ ps) no_matchers = 1
  old_factor_all cap (p ▸ᵖ ps) (m ▸ᵐ ms) = old_factor cap p m * old_factor_all cap ps ms

-- "Over the tags left to right, the steps times the factors of all earlier tags, summed." `earlier` is the product of the earlier factors. "The new tags
-- take one step; an or adds its sides' .. counts without closing product", each after the same earlier tags; "a not .. adds its whole inner count".
unfoldable mutual
  unfolding leaf_steps old_cons_factor old_factor element members

  pub old_summed : ℕ → Pattern → Matcher → (earlier : ℕ) → ℕ
  old_summed cap wildcard m earlier = leaf_steps m * earlier
  old_summed cap (variable v) m earlier = leaf_steps m * earlier
  old_summed cap (constant c) m earlier = earlier
  old_summed cap (value v c) m earlier = earlier
  old_summed cap nil m earlier = earlier
  old_summed cap (cons p q) m earlier =
      earlier + old_summed cap p (element m) (earlier * old_cons_factor cap m) + old_summed cap q m (earlier * old_cons_factor cap m * old_factor cap p (element m))
  old_summed cap (join p q) m earlier = earlier + old_summed cap p m (earlier * suc cap) + old_summed cap q m (earlier * suc cap * old_factor cap p m)
  old_summed cap (tuple ps) m earlier = earlier + old_summed_all cap ps (members m) earlier
  old_summed cap (both p q) m earlier = earlier + old_summed cap p m earlier + old_summed cap q m (earlier * old_factor cap p m)
  old_summed cap (either p q) m earlier = earlier + old_summed cap p m earlier + old_summed cap q m earlier
  old_summed cap (never p) m earlier = earlier + (old_summed cap p m earlier + earlier * old_factor cap p m)

  pub old_summed_all : ℕ → Patterns → Matchers → (earlier : ℕ) → ℕ
  old_summed_all cap no_patterns ms earlier = 0
  old_summed_all cap (p ▸ᵖ ps) no_matchers earlier = 0
  old_summed_all cap (p ▸ᵖ ps) (m ▸ᵐ ms) earlier = old_summed cap p m earlier + old_summed_all cap ps ms (earlier * old_factor cap p m)

-- The count: that sum, "plus the product of all factors".
unfoldable pub old_formula : ℕ → Pattern → Matcher → ℕ
unfolding old_factor old_summed
old_formula cap p m = old_summed cap p m 1 + old_factor cap p m
