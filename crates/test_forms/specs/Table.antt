-- What document 01's tables say of a pattern's tag under a matcher's tag, both as numbers.
use Rattle.std.specs.Prelude.{ℕ, Bool, false, Some, None}
use Rattle.std.specs.Prelude as code
use Rattle.std.proofs.Math.Option.{Option, none, some}
use Rattle.std.proofs.Math.ListN.{get_elem?}
use Rattle.rules.specs.Forms.{something, no_matchers}
use Rattle.rules.specs.Fit.{takes}
use Rattle.rules.specs.Reading.{MatcherTag, bare, of, of_all, matcher_tags, PatternTag, alone, operand, operands, inner, parts, wide, pattern_tags}
use Rattle.test_forms.specs.declared.table.Row.{Row}
use Rattle.test_forms.specs.declared.table.Row.TheVariants.{Known, Wide}

-- Whether the matcher takes the tag: its parts do not matter.
unfoldable pub taken_in : Option MatcherTag → ℕ → Bool
unfolding takes
taken_in none t = false
taken_in (some (bare m)) t = takes m t
taken_in (some (of f)) t = takes (f something) t
taken_in (some (of_all f)) t = takes (f no_matchers) t

unfoldable pub taken_of : ℕ → ℕ → Bool
unfolding taken_in matcher_tags
taken_of m t = taken_in (get_elem? (matcher_tags 4) m) t

unfoldable pub row_in : Option PatternTag → Bool → code.Option Row
row_in none taken = None
row_in (some (alone p)) taken = Some (Known 0 0 taken)
row_in (some (operand f)) taken = Some (Known 1 0 taken)
row_in (some (operands f)) taken = Some (Known 2 0 taken)
row_in (some (inner f)) taken = Some (Known 0 1 taken)
row_in (some (parts f)) taken = Some (Known 0 2 taken)
row_in (some (wide f)) taken = Some (Wide taken)

unfoldable pub row_of : ℕ → ℕ → code.Option Row
unfolding row_in taken_of pattern_tags
row_of m t = row_in (get_elem? pattern_tags t) (taken_of m t)

-- By what the table says of a tag.
unfoldable pub by_row : {A : Type 0} → code.Option Row → A → ((operands parts : ℕ) → A) → A → A
by_row None z known tuple = z
by_row (Some (Known o b f)) z known tuple = known o b
by_row (Some (Wide f)) z known tuple = tuple
