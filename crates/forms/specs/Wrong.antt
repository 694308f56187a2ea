-- What is wrong with the words of a target: where each cause of document 02, No. 6 stands, said without the reader; and what that says of the word at
-- the place.
use Rattle.std.specs.Prelude.{ℕ, suc, ◌+◌, ◌≤◌, ◌<◌, ◌≡◌, refl, List, [], ◌∷◌, ◌++◌, length, take, get_or, ℤ, pos}
use Rattle.std.proofs.Common.{arith, sym, ap, ◌∙◌}
use Rattle.std.proofs.Math.Option.{some}
use Rattle.std.proofs.Math.ListN.{get_elem?}
use Rattle.rules.specs.Forms.{Value, Values, count, words, words_all}
use Rattle.rules.specs.Reading.{ok, read_target}
use Rattle.rules.specs.Causes.{Cause, over_length, unknown_tag, bad_count, too_deep, cut_short, left_over, bad_width, cause_number}
use Rattle.forms.specs.Written.{deepest, deepest_of, largest, largest_of, Widths, WidthsAll, IsWidth}

-- ---- What a cause says.

-- A word that is none of the numbers from low to high.
unfoldable pub Outside : (low high : ℕ) → ℤ → Type 0
Outside low high w = (n : ℕ) → low ≤ n → n ≤ high → w ≡ pos n → ⊥

-- A tag and a count or width that may stand after it.
pub data Heads : (tag n : ℕ) → Type 0 where
  of_collection : {n : ℕ} → n ≤ 64 → Heads 1 n
  of_tuple : {n : ℕ} → IsWidth n → Heads 2 n

-- Whole values, with at most `depth` levels.
unfoldable pub Within : (depth : ℕ) → Values → Type 0
Within depth vs = (deepest_of vs ≤ depth) × (largest_of vs ≤ 64) × WidthsAll vs

-- After these words a tag is to come: they open collections and tuples one inside the other, and each has before the next some whole values, fewer than
-- its count. Of `depth` levels `left` are left.
pub data Awaits : (depth left : ℕ) → List ℤ → Type 0 where
  outermost : {d : ℕ} → Awaits d d []
  inside : {d l t n : ℕ} {us ws : List ℤ} (vs : Values) → Heads t n → count vs < n → Within d vs → Awaits d l us
      → ws ≡ pos t ∷ pos n ∷ (words_all vs ++ us) → Awaits (suc d) l ws

-- Where a tag is to come and `left` levels are left, these words have this cause at this place.
pub data Spot : (left : ℕ) → List ℤ → (place : ℕ) → Cause → Type 0 where
  not_tag : {l : ℕ} {w : ℤ} {us : List ℤ} → Outside 0 2 w → Spot l (w ∷ us) 0 unknown_tag
  not_count : {l : ℕ} {w : ℤ} {us : List ℤ} → Outside 0 64 w → Spot (suc l) (pos 1 ∷ w ∷ us) 1 bad_count
  deep_collection : {us : List ℤ} → Spot 0 (pos 1 ∷ us) 0 too_deep
  deep_tuple : {us : List ℤ} → Spot 0 (pos 2 ∷ us) 0 too_deep
  no_tag : {l : ℕ} → Spot l [] 0 cut_short
  no_integer : {l : ℕ} → Spot l (pos 0 ∷ []) 1 cut_short
  no_count : {l : ℕ} → Spot (suc l) (pos 1 ∷ []) 1 cut_short
  no_width : {l : ℕ} → Spot (suc l) (pos 2 ∷ []) 1 cut_short
  not_width : {l : ℕ} {w : ℤ} {us : List ℤ} → Outside 2 4 w → Spot (suc l) (pos 2 ∷ w ∷ us) 1 bad_width

-- What is wrong with the words of a target, and where.
pub data Wrong (ts : List ℤ) : (place : ℕ) → Cause → Type 0 where
  long : 1024 < length ts → Wrong ts 1024 over_length
  early : {l k : ℕ} {c : Cause} → length ts ≤ 1024 → (front rest : List ℤ) → ts ≡ front ++ rest → Awaits 8 l front → Spot l rest k c
      → Wrong ts (length front + k) c
  over : length ts ≤ 1024 → (v : Value) (w : ℤ) (us : List ℤ) → (deepest v ≤ 8) × (largest v ≤ 64) × Widths v → ts ≡ words v ++ (w ∷ us)
      → Wrong ts (length (words v)) left_over

-- ---- The numbers of the causes.

pub number_range : (c : Cause) → (1 ≤ cause_number c) × (cause_number c ≤ 7)
unfolding cause_number
number_range over_length = omega arith
number_range unknown_tag = omega arith
number_range bad_count = omega arith
number_range too_deep = omega arith
number_range cut_short = omega arith
number_range left_over = omega arith
number_range bad_width = omega arith

named : ℕ → Cause
named n = get_or (over_length ∷ over_length ∷ unknown_tag ∷ bad_count ∷ too_deep ∷ cut_short ∷ left_over ∷ bad_width ∷ []) n over_length

named_is : (c : Cause) → named (cause_number c) ≡ c
unfolding named cause_number
named_is over_length = refl
named_is unknown_tag = refl
named_is bad_count = refl
named_is too_deep = refl
named_is cut_short = refl
named_is left_over = refl
named_is bad_width = refl

pub number_once : (c d : Cause) → cause_number c ≡ cause_number d → c ≡ d
number_once c d e = sym (named_is c) ∙ ap named e ∙ named_is d

-- ---- What a cause says of the words at its place.

-- The word of this index.
abbrev pub At : List ℤ → ℕ → ℤ → Type 0
At ts i w = get_elem? ts i ≡ some w

-- A word after this tag that is none of the numbers from low to high.
unfoldable pub After : (tag low high : ℕ) → List ℤ → ℕ → Type 0
unfolding Outside
After tag low high ts i = (j : ℕ) × (w : ℤ) × (i ≡ suc j) × At ts j (pos tag) × At ts i w × Outside low high w

unfoldable pub Says : List ℤ → ℕ → Cause → Type 0
unfolding Outside After
Says ts i over_length = (i ≡ 1024) × (1024 < length ts)
Says ts i unknown_tag = (w : ℤ) × At ts i w × Outside 0 2 w
Says ts i bad_count = After 1 0 64 ts i
Says ts i too_deep = (t : ℕ) × (1 ≤ t) × (t ≤ 2) × At ts i (pos t) × Awaits 8 0 (take i ts)
Says ts i cut_short = i ≡ length ts
Says ts i left_over = (i < length ts) × (v : Value) × (read_target (take i ts) ≡ ok v)
Says ts i bad_width = After 2 2 4 ts i
