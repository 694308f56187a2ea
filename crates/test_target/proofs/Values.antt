-- The value at an index by the tags there, from the rules' reader. Assumes nothing.
use mathlib.Core.Path.{◌≡◌, refl, ◌∙◌}
use mathlib.Core.Bool.{Bool, true, false, cond}
use mathlib.Core.Option.{Option, none, some}
use mathlib.Core.List.{List}
use Prim.Native.Nat.{ℕ, zero, suc, ◌+◌, ◌-◌, ◌<◌, ◌≤◌}
use native.Mathlib.Numerals.{add-one, add-two}
use native.Mathlib.Omega.{arith}
use borrow.Author.Tests.{ltb-true, ltb-false}
use lib.Dec.{leb, ltb}
use lib.ListN.{length, get_elem?, drop, drop_of_length-le}
use lib.Seq.{drop-cons}
use lib.IntN.{ℤ, pos, negsuc}
use Rattle.rules.specs.Forms.{Value, int, Values, empty, ◌▸◌, collection, tupled, words}
use Rattle.rules.specs.Reading.{fault, ◌then◌, Reader, give, ◌>>=◌, known, word}
use Rattle.rules.specs.Reading.{TargetTag, one, many, target_tags, at_most64, width, target_parts, target}
use Rattle.forms.specs.Written.{deepest, largest, Widths}
use Rattle.forms.specs.Readers.{Complete}
use Rattle.forms.proofs.ReadTarget.{target_sound, target_complete}
use Rattle.words.specs.Words.{tag_z, tag_at}
use Rattle.test_forms.specs.Ends.{end_of, in_row, within}
use Rattle.test_target.specs.Targets.{count_fits, value_from}
use Rattle.std.specs.Prelude.{Result, Ok, Err}
use Rattle.test_forms.proofs.Known.{past, meant, known_at}
use Rattle.test_forms.proofs.Rows.{Along, along, Takes, chosen, width_takes, counted_bad, counted_row}

pub target_along : (s : List ℤ) (depth : ℕ) → Along s (target depth)
unfolding Complete
target_along s depth = along s (target depth) words (λ v. (deepest v ≤ depth) × (largest v ≤ 64) × Widths v) (target_sound depth) (target_complete depth)

pub at_most_takes : Takes at_most64 (λ n. leb n 64)
unfolding at_most64
at_most_takes = record { by_tag = each; not_past = refl }
  where
    each : (w : ℤ) → at_most64 w ≡ cond (leb (tag_z w) 64) (some (tag_z w)) none
    each (pos n) = chosen (leb n 64) n
    each (negsuc n) = refl

-- ---- What comes of a tag, by its meaning in the table.

module _ (part : Reader Value) (s : List ℤ) (at : ℕ) where
  unfoldable opened : Option TargetTag → Result ℕ ℕ
  unfolding meant ◌then◌ target_parts end_of
  opened o = end_of (meant at (drop (suc at) s) o then λ g. target_parts part g.it g.next g.rest)

  opened_none : opened none ≡ Err at
  unfolding opened meant ◌then◌ end_of
  opened_none = refl

  opened_one : (f : ℤ → Value) → opened (some (one f)) ≡ cond (ltb (at + 1) (length s)) (Ok (at + 2)) (Err (at + 1))
  unfolding opened meant ◌then◌ target_parts ◌>>=◌ give word known end_of
  opened_one f = go (ltb (at + 1) (length s)) refl
    where
      go : (b : Bool) → ltb (at + 1) (length s) ≡ b → opened (some (one f)) ≡ cond b (Ok (at + 2)) (Err (at + 1))
      go true e = let h : suc at < length s = omega (arith, ltb-true (at + 1) (length s) e) in rw (drop-cons s (suc at) (negsuc 0) h, add-two at)
      go false e = let h : length s ≤ suc at = omega (arith, ltb-false (at + 1) (length s) e) in rw (drop_of_length-le s h, add-one at)

  module _ (number : ℤ → Option ℕ) (fits : ℕ → Bool) (takes : Takes number fits) (f : Values → Value) (n : ℕ) (e : n ≡ tag_at s (at + 1)) where
    opened_wrong : fits n ≡ false → opened (some (many number f)) ≡ Err (at + 1)
    unfolding opened meant ◌then◌ target_parts
    opened_wrong h = rw (add-one at) (counted_bad number fits takes empty ◌▸◌ part f s (suc at) n (rw (add-one at) at e) h)

    opened_row : Along s part → fits n ≡ true → opened (some (many number f)) ≡ in_row (λ i. end_of (part i (drop i s))) n (at + 2)
    unfolding opened meant ◌then◌ target_parts
    opened_row a h = rw (add-two at) (counted_row number fits takes empty ◌▸◌ part f s (suc at) n (rw (add-one at) at e) a h)

-- ---- The value at an index, by the tag there.

part_at : ℕ → Reader Value
part_at zero = λ i us. fault i
part_at (suc d) = λ i us. target d i us

module _ (s : List ℤ) (at t : ℕ) (e : t ≡ tag_at s at) where
  by_tag : (d : ℕ) → value_from s d at ≡ opened (part_at d) s at (get_elem? (target_tags d) t)
  unfolding value_from target ◌>>=◌ opened part_at
  by_tag zero = rw (known_at (target_tags 0) (omega arith) s at t e)
  by_tag (suc d) = rw (known_at (target_tags (suc d)) (omega arith) s at t e)

  absent : (d : ℕ) → length (target_tags d) ≤ t → value_from s d at ≡ Err at
  absent d h = by_tag d ∙ rw (past (target_tags d) t h) (opened_none (part_at d) s at)

  pub other : (d : ℕ) → 2 < t → value_from s d at ≡ Err at
  unfolding target_tags
  other zero h = absent zero (omega arith)
  other (suc d) h = absent (suc d) h

  pub integer : (d : ℕ) → t ≡ 0 → value_from s d at ≡ cond (ltb (at + 1) (length s)) (Ok (at + 2)) (Err (at + 1))
  unfolding target_tags
  integer zero h = by_tag zero ∙ rw h (opened_one (part_at zero) s at int)
  integer (suc d) h = by_tag (suc d) ∙ rw h (opened_one (part_at (suc d)) s at int)

  pub deep : (d : ℕ) → d ≡ 0 → 0 < t → value_from s d at ≡ Err at
  unfolding target_tags
  deep zero h k = absent zero k
  deep (suc d) h k = absurd (omega arith)

  -- A count, and so many elements or parts.
  module _ (n : ℕ) (q : n ≡ tag_at s (at + 1)) (d : ℕ) where
    wrong_in : count_fits t n ≡ false → t ≡ 1 → value_from s (suc d) at ≡ Err (at + 1)
    unfolding target_tags count_fits
    wrong_in k h = by_tag (suc d) ∙ rw h (opened_wrong (part_at (suc d)) s at at_most64 (λ n. leb n 64) at_most_takes collection n q (rw h at k))

    wrong_wide : count_fits t n ≡ false → t ≡ 2 → value_from s (suc d) at ≡ Err (at + 1)
    unfolding target_tags count_fits
    wrong_wide k h = by_tag (suc d) ∙ rw h (opened_wrong (part_at (suc d)) s at width (λ n. within 2 n 4) width_takes tupled n q (rw h at k))

    row_in : count_fits t n ≡ true → t ≡ 1 → value_from s (suc d) at ≡ in_row (value_from s d) n (at + 2)
    unfolding target_tags count_fits value_from part_at
    row_in k h = by_tag (suc d) ∙ rw h (opened_row (part_at (suc d)) s at at_most64 (λ n. leb n 64) at_most_takes collection n q (target_along s d) (rw h at k))

    row_wide : count_fits t n ≡ true → t ≡ 2 → value_from s (suc d) at ≡ in_row (value_from s d) n (at + 2)
    unfolding target_tags count_fits value_from part_at
    row_wide k h = by_tag (suc d) ∙ rw h (opened_row (part_at (suc d)) s at width (λ n. within 2 n 4) width_takes tupled n q (target_along s d) (rw h at k))

  pub one_or_two : (P : Type 0) → 1 ≤ t → t ≤ 2 → (t ≡ 1 → P) → (t ≡ 2 → P) → P
  one_or_two P a b x y = go t a b x y
    where
      go : (k : ℕ) → 1 ≤ k → k ≤ 2 → (k ≡ 1 → P) → (k ≡ 2 → P) → P
      go zero a b x y = absurd (omega arith)
      go (suc zero) a b x y = x refl
      go (suc (suc k)) a b x y = y (omega arith)

  module _ (n : ℕ) (q : n ≡ tag_at s (at + 1)) (a : 1 ≤ t) (b : t ≤ 2) where
    pub wrong : (d : ℕ) → (d ≡ 0 → ⊥) → count_fits t n ≡ false → value_from s d at ≡ Err (at + 1)
    wrong zero z k = absurd (z refl)
    wrong (suc d) z k = one_or_two _ a b (wrong_in n q d k) (wrong_wide n q d k)

    pub row : (d : ℕ) → (d ≡ 0 → ⊥) → count_fits t n ≡ true → value_from s d at ≡ in_row (value_from s (d - 1)) n (at + 2)
    row zero z k = absurd (z refl)
    row (suc d) z k = let p : suc d - 1 ≡ d = omega arith in rw p (one_or_two _ a b (row_in n q d k) (row_wide n q d k))
