-- Document 01, sections 2 and 4, and document 02, No. 2: equality and sums are what they should be, and words are read one way.
use Rattle.std.specs.Prelude.{◌≤◌, ◌≡◌, true, false, ◌↔◌, List, length, T, ℤ, ◌+ℤ◌}
use Rattle.std.proofs.Math.Option.{some}
use Rattle.rules.specs.Numbers.{same, in_range}
use Rattle.rules.specs.Forms.{Matcher, integer, Pattern, Value, Values, int, collection, multiset, words}
use Rattle.rules.specs.Reading.{ok, entry, read_matcher, read_pattern, read_target}
use Rattle.rules.specs.Equality.{equal, is_value}
use Rattle.forms.specs.Written.{matcher_words, pattern_words, levels, largest, deepest, Widthsᵐ, Widthsᵖ, Widths}
use Rattle.promises.specs.Sums.{sum_inside, sum_outside}
use Rattle.forms.specs.Pairing.{greedy, equal_equiv, multisets_greedy}
use Rattle.forms.specs.ReadMatcher.{matcher_read, matcher_once}
use Rattle.forms.specs.ReadPattern.{pattern_read, pattern_once}
use Rattle.forms.proofs.ReadTarget.{target_read, target_once}

-- ---- Multiset equality: pairing off is marking off greedily; and equality is symmetric and transitive under every matcher, the one at tag 3.

pub pairing_is_greedy : (m : Matcher) (vs ws : Values) → equal (multiset m) (collection vs) (collection ws) ≡ greedy (equal m) vs ws
pairing_is_greedy = multisets_greedy

pub equal_symmetric : (m : Matcher) (a b : Value) → T (equal m a b) → T (equal m b a)
equal_symmetric m = (equal_equiv m).symm

pub equal_transitive : (m : Matcher) (a b c : Value) → T (equal m a b) → T (equal m b c) → T (equal m a c)
equal_transitive m = (equal_equiv m).tran

-- ---- Sums: under integer a tag 3 compares the sum of the integers; outside the signed 32-bit range it equals nothing.

pub sum_in_range : (e : List Value) (v x c : ℤ) → entry e v ≡ some (int x) → in_range (x +ℤ c) ≡ true → (y : ℤ) → is_value integer e v c (int y) ≡ same (x +ℤ c) y
sum_in_range = sum_inside

pub sum_out_of_range : (e : List Value) (v x c : ℤ) → entry e v ≡ some (int x) → in_range (x +ℤ c) ≡ false → (w : Value) → is_value integer e v c w ≡ false
sum_out_of_range = sum_outside

-- ---- Words are read one way: what is read is what some matcher, pattern or value in the limits writes out, and no words are written by two. `Widths`:
-- every tuple has 2 to 4 parts.

pub reads_matchers : (ms : List ℤ) (m : Matcher) → read_matcher ms ≡ ok m ↔ (ms ≡ matcher_words m) × (length ms ≤ 64) × (levels m ≤ 4) × Widthsᵐ m
reads_matchers = matcher_read

pub reads_patterns : (ps : List ℤ) (p : Pattern) → read_pattern ps ≡ ok p ↔ (ps ≡ pattern_words p) × (length ps ≤ 256) × Widthsᵖ p
reads_patterns = pattern_read

pub reads_targets : (ts : List ℤ) (v : Value)
    → read_target ts ≡ ok v ↔ (ts ≡ words v) × (length ts ≤ 1024) × (largest v ≤ 64) × (deepest v ≤ 8) × Widths v
reads_targets = target_read

pub one_matcher : (m k : Matcher) → (levels m ≤ 4) × Widthsᵐ m → (levels k ≤ 4) × Widthsᵐ k → matcher_words m ≡ matcher_words k → m ≡ k
one_matcher = matcher_once

pub one_pattern : (p q : Pattern) → length (pattern_words p) ≤ 256 → Widthsᵖ p → Widthsᵖ q → pattern_words p ≡ pattern_words q → p ≡ q
one_pattern = pattern_once

pub one_value : (v w : Value) → length (words v) ≤ 1024
    → (largest v ≤ 64) × (deepest v ≤ 8) × Widths v → (largest w ≤ 64) × (deepest w ≤ 8) × Widths w → words v ≡ words w → v ≡ w
one_value = target_once
