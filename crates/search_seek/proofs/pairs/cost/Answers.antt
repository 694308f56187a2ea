use native.Mathlib.Omega.{arith}
use mir.Facts.{to_z-of_z}
use borrow.Author.Rules.{rules}
use Rattle.search_seek.proofs.Passing.{not_true, not_false, wide_part, part_word, first_stands, cost_first, cost_one, cost_fits, cost_second, cost_rules}
use mir.Syntax.{w32}
use Rattle.search_seek.proofs.pairs.cost.Goals as goal

pub is_sum-first-requires : goal.is_sum-first-requires
is_sum-first-requires c = record { number_a = c.requires.integers.first; number_b = part_word _ _ _ _ c.args.units.target c.requires.tag (wide_part _ _ _ _ c.is_wide-fits.ensures (not_false _ c.if-not-fits.false-raw) (omega arith)) (first_stands _ _) }

pub returns-then-not-first : goal.returns-then-not-first
returns-then-not-first c = cost_first _ _ _ _ c.is_wide-fits.ensures (not_false _ c.if-not-fits.false-raw) _ (first_stands _ _) _ (to_z-of_z {w = w32} (search rules)) _ c.is_sum-first.ensures (not_true _ c.if-not-first.true-raw)

pub returns-in_default : goal.returns-in_default
returns-in_default c = cost_one _ _ _ _ c.is_wide-fits.ensures (not_false _ c.if-not-fits.false-raw) _ (first_stands _ _) _ (to_z-of_z {w = w32} (search rules)) _ c.is_sum-first.ensures (not_false _ c.if-not-first.false-raw) c.in_default.is

pub element-b-requires : goal.element-b-requires
element-b-requires c = record { placed = search cost_rules; tag = search cost_rules; element = search cost_rules }

pub is_sum-found-requires : goal.is_sum-found-requires
is_sum-found-requires c = record { number_a = c.requires.integers.second _ c.in-Some.is; number_b = part_word _ _ _ _ c.args.units.target c.requires.tag (wide_part _ _ _ _ c.is_wide-fits.ensures (not_false _ c.if-not-fits.false-raw) (omega arith)) c.element-b.ensures }

pub returns-then-found : goal.returns-then-found
returns-then-found c = cost_fits _ _ _ _ c.is_wide-fits.ensures (not_false _ c.if-not-fits.false-raw) _ (first_stands _ _) _ (to_z-of_z {w = w32} (search rules)) _ c.is_sum-first.ensures (not_false _ c.if-not-first.false-raw) _ c.in-Some.is _ c.element-b.ensures _ (to_z-of_z {w = w32} (search rules)) _ c.is_sum-found.ensures c.if-found.true

pub returns : goal.returns
returns c = cost_second _ _ _ _ c.is_wide-fits.ensures (not_false _ c.if-not-fits.false-raw) _ (first_stands _ _) _ (to_z-of_z {w = w32} (search rules)) _ c.is_sum-first.ensures (not_false _ c.if-not-first.false-raw) _ c.in-Some.is _ c.element-b.ensures _ (to_z-of_z {w = w32} (search rules)) _ c.is_sum-found.ensures c.if-found.false
