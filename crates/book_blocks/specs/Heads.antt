-- A rule as it is read out of a block, and as an add names it.
use Rattle.std.specs.Prelude.{ℕ, ◌≡◌, List, ◌++◌, length, ℤ}
use Rattle.std.proofs.lemmas.List.Edits.{sets}
use Rattle.book_rules.specs.Blocks.{Entry}
use Rattle.book_blocks.specs.declared.writing.Entry as code

-- The numbers that are told of a rule, and the lent words before and after: the rule's stand at the start, the others are as they were.
pub record ReadAs (e : Entry) (version dialect matcher pattern : ℕ) (out after : List ℤ) : Type 0 where
  pub version_is : version ≡ e.version
  pub dialect_is : dialect ≡ e.dialect
  pub matcher_is : matcher ≡ length e.matcher
  pub pattern_is : pattern ≡ length e.pattern
  pub words_are : after ≡ sets out 0 (e.matcher ++ e.pattern)

abbrev pub entry : (version badge dialect : ℕ) (matcher pattern : List ℤ) → Entry
entry v b d ms ps = record { version = v; badge = b; dialect = d; matcher = ms; pattern = ps }

abbrev pub rule_of : code.Entry → Entry
rule_of e = entry e.version e.badge e.dialect e.matcher.now e.pattern.now
