-- Document 01, section 6, and document 02, No. 3 and No. 12: review's formula, on the pattern's tree. `cap` is the cap; `taken` is how many conses were
-- already taken from the collection that stands here: those in whose rest the pattern stands.
use Rattle.std.specs.Prelude.{ℕ, suc, ◌+◌, ◌*◌, ◌-◌, cond}
use Rattle.rules.specs.Forms.{Matcher, something, integer, list, multiset, tuple_of, Matchers, no_matchers, ◌▸ᵐ◌}
use Rattle.rules.specs.Forms.{Pattern, wildcard, variable, constant, value, nil, cons, join, tuple, both, either, never, Patterns, no_patterns, ◌▸ᵖ◌}
use Rattle.rules.specs.Fit.{element, members, is_something}

-- "Steps: 2 for tags 0 and 1 under integer, list or multiset, else 1", and two under a tuple matcher.
unfoldable pub leaf_steps : Matcher → ℕ
unfolding is_something
leaf_steps m = cond (is_something m) 1 2

-- "A factor: the cap for cons under a multiset .., 1 otherwise", and with No. 12 "the cap less the number of conses already taken from that same collection
-- along its rest, never below 0".
unfoldable pub cons_factor : (cap taken : ℕ) → Matcher → ℕ
cons_factor cap taken something = 1
cons_factor cap taken integer = 1
cons_factor cap taken (list m) = 1
cons_factor cap taken (multiset m) = cap - taken
cons_factor cap taken (tuple_of ms) = 1

-- The product of the factors of a pattern's tags. "The cap plus 1 for join"; a tuple and an and have factor 1 of their own; "an or adds its sides' factors
-- .., a not has factor 1". The rest of a cons has one more taken; in its first part, in the parts of a join and of a tuple another collection begins; the
-- sides of an and or an or and what is inside a not stand on the same collection as the and, the or, the not.
unfoldable mutual
  unfolding cons_factor element members

  pub factor : (cap taken : ℕ) → Pattern → Matcher → ℕ
  factor cap taken wildcard m = 1
  factor cap taken (variable v) m = 1
  factor cap taken (constant c) m = 1
  factor cap taken (value v c) m = 1
  factor cap taken nil m = 1
  factor cap taken (cons p q) m = cons_factor cap taken m * (factor cap 0 p (element m) * factor cap (suc taken) q m)
  factor cap taken (join p q) m = suc cap * (factor cap 0 p m * factor cap 0 q m)
  factor cap taken (tuple ps) m = factor_all cap ps (members m)
  factor cap taken (both p q) m = factor cap taken p m * factor cap taken q m
  factor cap taken (either p q) m = factor cap taken p m + factor cap taken q m
  factor cap taken (never p) m = 1

  pub factor_all : (cap : ℕ) → Patterns → Matchers → ℕ
  factor_all cap no_patterns ms = 1
  factor_all cap (p ▸ᵖ ps) no_matchers = 1
  factor_all cap (p ▸ᵖ ps) (m ▸ᵐ ms) = factor cap 0 p m * factor_all cap ps ms

-- "Over the tags left to right, the steps times the factors of all earlier tags, summed." `earlier` is the product of the earlier factors. "The new tags
-- take one step; an or adds its sides' .. counts without closing product", each after the same earlier tags; "a not .. adds its whole inner count".
unfoldable mutual
  unfolding leaf_steps cons_factor factor element members

  pub summed : (cap taken : ℕ) → Pattern → Matcher → (earlier : ℕ) → ℕ
  summed cap taken wildcard m earlier = leaf_steps m * earlier
  summed cap taken (variable v) m earlier = leaf_steps m * earlier
  summed cap taken (constant c) m earlier = earlier
  summed cap taken (value v c) m earlier = earlier
  summed cap taken nil m earlier = earlier
  summed cap taken (cons p q) m earlier =
      earlier + summed cap 0 p (element m) (earlier * cons_factor cap taken m)
      + summed cap (suc taken) q m (earlier * cons_factor cap taken m * factor cap 0 p (element m))
  summed cap taken (join p q) m earlier =
      earlier + summed cap 0 p m (earlier * suc cap) + summed cap 0 q m (earlier * suc cap * factor cap 0 p m)
  summed cap taken (tuple ps) m earlier = earlier + summed_all cap ps (members m) earlier
  summed cap taken (both p q) m earlier = earlier + summed cap taken p m earlier + summed cap taken q m (earlier * factor cap taken p m)
  summed cap taken (either p q) m earlier = earlier + summed cap taken p m earlier + summed cap taken q m earlier
  summed cap taken (never p) m earlier = earlier + (summed cap taken p m earlier + earlier * factor cap taken p m)

  pub summed_all : (cap : ℕ) → Patterns → Matchers → (earlier : ℕ) → ℕ
  summed_all cap no_patterns ms earlier = 0
  summed_all cap (p ▸ᵖ ps) no_matchers earlier = 0
  summed_all cap (p ▸ᵖ ps) (m ▸ᵐ ms) earlier = summed cap 0 p m earlier + summed_all cap ps ms (earlier * factor cap 0 p m)

-- The count: that sum, "plus the product of all factors"; from the target nothing is taken yet.
unfoldable pub formula : ℕ → Pattern → Matcher → ℕ
unfolding factor summed
formula cap p m = summed cap 0 p m 1 + factor cap 0 p m
