-- Test 6 from a place on. A matcher is kept as the index of its tag in the matcher's words.
use Rattle.std.specs.Prelude.{ℕ, zero, suc, ◌+◌, ◌*◌, Bool, false, cond, List, eqb, ltb, ℤ, Option, Some, None, Result, Ok, Err}
use Rattle.words.specs.Words.{tag_at}
use Rattle.test_forms.specs.Ends.{onward, within}
use Rattle.matchers.specs.Places.{matcher_end}
use Rattle.test_fit.specs.Shapes.{width_fits}
use Rattle.test_target.specs.Targets.{plain_at, run_of, plain_run, value_from}
use Rattle.test_unfit.specs.declared.Run.{Run}

-- A list or a multiset is of a collection's elements, a tuple of a tuple's parts.
unfoldable pub opens_at : ℕ → ℕ → Bool
unfolding within
opens_at k t = cond (eqb k 4) (eqb t 2) (cond (within 2 k 3) (eqb t 1) false)

-- By the tags of the matcher and of the value.
unfoldable pub under_tag : {A : Type 0} → (k t : ℕ) → (value inside bad : A) → A
unfolding opens_at
under_tag k t value inside bad = cond (eqb k 0) value (cond (eqb k 1) (cond (eqb t 0) value bad) (cond (opens_at k t) inside bad))

-- The matcher of the first of n elements or parts under the matcher i, whose tag is k, and of the one after that under the matcher j.
unfoldable pub members_of : List ℤ → (i k n : ℕ) → Option ℕ
unfolding width_fits tag_at
members_of m i k n = cond (eqb k 4) (cond (width_fits (tag_at m (i + 1)) n) (Some (i + 2)) None) (cond (ltb 64 n) None (Some (i + 1)))

unfoldable pub next_member : List ℤ → (k j : ℕ) → ℕ
unfolding matcher_end
next_member m k j = cond (eqb k 4) (matcher_end m j) j

-- Whether an integer stands whole at an index of s, and integer at the index j of m.
unfoldable pub number_fits : (s : List ℤ) → ℕ → (m : List ℤ) → ℕ → Bool
unfolding plain_at tag_at
number_fits s at m j = cond (eqb (tag_at m j) 1) (plain_at s at) false

-- Whether a tag stands at an index, and behind it the width of a pair.
unfoldable pub is_pair : List ℤ → (at tag : ℕ) → Bool
unfolding tag_at
is_pair ws at tag = cond (eqb (tag_at ws at) tag) (eqb (tag_at ws (at + 1)) 2) false

-- Whether a pair stands at an index of s, and a tuple of two at the index j of m, and both parts are integers, whole, under integer.
unfoldable pub pair_fits : (s : List ℤ) → ℕ → (m : List ℤ) → ℕ → Bool
unfolding is_pair number_fits
pair_fits s at m j = cond (is_pair m j 4) (cond (is_pair s at 2) (cond (number_fits s (at + 2) m (j + 2)) (number_fits s (at + 4) m (j + 3)) false) false) false

-- How many words a value has that fits at once: an integer, or a pair of integers where a depth of two is left. 0 where it is neither.
unfoldable pub plain_words : (s : List ℤ) → ℕ → (m : List ℤ) → (j depth : ℕ) → ℕ
unfolding number_fits pair_fits
plain_words s at m j depth = cond (number_fits s at m j) 2 (cond (ltb 1 depth) (cond (pair_fits s at m j) 6 0) 0)

-- A value with the tag t under integer.
unfoldable pub under_integer : (s : List ℤ) → (at t depth : ℕ) → Result ℕ ℕ
unfolding value_from
under_integer s at t depth = cond (eqb t 0) (value_from s depth at) (Err at)

-- Whether the members under the matcher j are pairs of integers: a tuple of two integers stands there, and a depth of two is left.
unfoldable pub asks_pairs : List ℤ → (j depth : ℕ) → Bool
unfolding is_pair tag_at
asks_pairs m j depth = cond (ltb 1 depth) (cond (is_pair m j 4) (cond (eqb (tag_at m (j + 2)) 1) (eqb (tag_at m (j + 3)) 1) false) false) false

-- Whether a pair of integers stands whole at an index, and how many do from there on, at most n.
unfoldable pub plain_pair : List ℤ → ℕ → Bool
unfolding is_pair plain_at
plain_pair s at = cond (is_pair s at 2) (cond (plain_at s (at + 2)) (plain_at s (at + 4)) false) false

unfoldable pub pair_run : List ℤ → (n at : ℕ) → ℕ
unfolding run_of plain_pair
pair_run s n at = run_of (plain_pair s) 6 n at

-- A run of n members of so many words each.
unfoldable pub passed : (at each n : ℕ) → Run
passed at each n = record { members = n; end = at + each * n }

-- Which of n members from an index on fit at once: a collection's integers under integer, and its pairs of integers under a tuple of two.
unfoldable pub fit_run : (s : List ℤ) → (at n : ℕ) → (m : List ℤ) → (k j depth : ℕ) → Run
unfolding passed plain_run pair_run asks_pairs tag_at
fit_run s at n m k j depth =
    cond (eqb k 4) (passed at 0 0) (cond (eqb (tag_at m j) 1) (passed at 2 (plain_run s n at)) (cond (asks_pairs m j depth) (passed at 6 (pair_run s n at)) (passed at 0 0)))

unfoldable pub by_members : Option ℕ → Result ℕ ℕ → (ℕ → Result ℕ ℕ) → Result ℕ ℕ
by_members None z k = z
by_members (Some j) z k = k j

-- n values, one after the other, each under the matcher that is next.
unfoldable pub in_each : (ℕ → ℕ → Result ℕ ℕ) → (ℕ → ℕ) → (n j at : ℕ) → Result ℕ ℕ
unfolding onward
in_each f next zero j at = Ok at
in_each f next (suc n) j at = onward (f j at) (in_each f next n (next j))

-- The elements or parts of the value at the index `at` of s under the matcher i, for any work f on one of them.
unfoldable pub inside_from : (s m : List ℤ) → (ℕ → ℕ → Result ℕ ℕ) → (i at : ℕ) → Result ℕ ℕ
unfolding by_members members_of in_each next_member tag_at
inside_from s m f i at = by_members (members_of m i (tag_at m i) (tag_at s (at + 1)))
    (Err at)
    (λ j. in_each f (next_member m (tag_at m i)) (tag_at s (at + 1)) j (at + 2))

-- Where the value at the index `at` of s ends, if it fits the matcher at the index i of m, else the place of the tag that does not.
unfoldable pub fit_from : (s m : List ℤ) (depth i at : ℕ) → Result ℕ ℕ
unfolding under_tag tag_at value_from inside_from
fit_from s m zero i at = under_tag (tag_at m i) (tag_at s at) (value_from s 0 at) (Err at) (Err at)
fit_from s m (suc d) i at =
    under_tag (tag_at m i) (tag_at s at) (value_from s (suc d) at) (inside_from s m (λ j e. fit_from s m d j e) i at) (Err at)
