-- The matcher at an index by the tags there, from the rules' reader. Assumes nothing.
use mathlib.Core.Path.{◌≡◌, refl, ◌∙◌}
use mathlib.Core.Bool.{true, false}
use mathlib.Core.Option.{Option, none, some}
use mathlib.Core.List.{List}
use Prim.Native.Nat.{ℕ, zero, suc, ◌+◌, ◌-◌, ◌<◌, ◌≤◌}
use native.Mathlib.Numerals.{add-one, add-two}
use native.Mathlib.Omega.{arith}
use lib.IntN.{ℤ}
use lib.ListN.{length, drop, get_elem?}
use Rattle.std.specs.Prelude.{Result, Ok, Err}
use Rattle.rules.specs.Forms.{Matcher, something, integer, list, multiset, tuple_of, Matchers, no_matchers, ◌▸ᵐ◌}
use Rattle.rules.specs.Reading.{Reader, fault, MatcherTag, bare, of, of_all, ◌then◌, ◌>>=◌, give, width}
use Rattle.rules.specs.Reading.{matcher, matcher_tags, matcher_parts}
use Rattle.forms.specs.Written.{matcher_words, levels, Widthsᵐ}
use Rattle.forms.specs.Readers.{Complete}
use Rattle.forms.specs.ReadMatcher.{matcher_sound, matcher_complete}
use Rattle.words.specs.Words.{tag_at}
use Rattle.test_forms.specs.Ends.{end_of, in_row, within}
use Rattle.test_forms.specs.Matchers.{matcher_from}
use Rattle.test_forms.proofs.Known.{past, meant, known_at}
use Rattle.test_forms.proofs.Rows.{Along, along, width_takes, counted_bad, counted_row, made}

pub matcher_along : (s : List ℤ) (left : ℕ) → Along s (matcher left)
unfolding Complete
matcher_along s left = along s (matcher left) matcher_words (λ m. (levels m ≤ left) × Widthsᵐ m) (matcher_sound left) (matcher_complete left)

-- What comes of a tag, by its meaning in the table.
module _ (part : Reader Matcher) (s : List ℤ) (at : ℕ) where
  unfoldable opened : Option MatcherTag → Result ℕ ℕ
  unfolding meant ◌then◌ matcher_parts end_of
  opened o = end_of (meant at (drop (suc at) s) o then λ g. matcher_parts part g.it g.next g.rest)

  opened_none : opened none ≡ Err at
  unfolding opened meant ◌then◌ end_of
  opened_none = refl

  opened_bare : (m : Matcher) → opened (some (bare m)) ≡ Ok (at + 1)
  unfolding opened meant ◌then◌ matcher_parts give end_of
  opened_bare m = rw (add-one at)

  opened_of : (f : Matcher → Matcher) → opened (some (of f)) ≡ end_of (part (suc at) (drop (suc at) s))
  unfolding opened meant ◌then◌ matcher_parts ◌>>=◌
  opened_of f = made f (part (suc at) (drop (suc at) s))

  module _ (f : Matchers → Matcher) (n : ℕ) (e : n ≡ tag_at s (at + 1)) where
    opened_wrong : within 2 n 4 ≡ false → opened (some (of_all f)) ≡ Err (at + 1)
    unfolding opened meant ◌then◌ matcher_parts
    opened_wrong h = rw (add-one at) (counted_bad width (λ k. within 2 k 4) width_takes no_matchers ◌▸ᵐ◌ part f s (suc at) n (rw (add-one at) at e) h)

    opened_row : Along s part → within 2 n 4 ≡ true → opened (some (of_all f)) ≡ in_row (λ i. end_of (part i (drop i s))) n (at + 2)
    unfolding opened meant ◌then◌ matcher_parts
    opened_row a h = rw (add-two at) (counted_row width (λ k. within 2 k 4) width_takes no_matchers ◌▸ᵐ◌ part f s (suc at) n (rw (add-one at) at e) a h)

-- The table by the tag, with k levels left.
leaf_tag : (k t : ℕ) → t < 2 → (m : Matcher) × (get_elem? (matcher_tags k) t ≡ some (bare m))
unfolding matcher_tags
leaf_tag zero zero h = (something, refl)
leaf_tag zero (suc zero) h = (integer, refl)
leaf_tag zero (suc (suc t)) h = absurd (omega arith)
leaf_tag (suc k) zero h = (something, refl)
leaf_tag (suc k) (suc zero) h = (integer, refl)
leaf_tag (suc k) (suc (suc t)) h = absurd (omega arith)

of_tag : (k t : ℕ) → 2 ≤ t → t < 4 → (f : Matcher → Matcher) × (get_elem? (matcher_tags (suc k)) t ≡ some (of f))
unfolding matcher_tags
of_tag k zero g h = absurd (omega arith)
of_tag k (suc zero) g h = absurd (omega arith)
of_tag k (suc (suc zero)) g h = (list, refl)
of_tag k (suc (suc (suc zero))) g h = (multiset, refl)
of_tag k (suc (suc (suc (suc t)))) g h = absurd (omega arith)

part_at : ℕ → Reader Matcher
part_at zero = λ i us. fault i
part_at (suc k) = λ i us. matcher k i us

module _ (s : List ℤ) (at t : ℕ) (e : t ≡ tag_at s at) where
  by_tag : (k : ℕ) → matcher_from s k at ≡ opened (part_at k) s at (get_elem? (matcher_tags k) t)
  unfolding matcher_from matcher ◌>>=◌ opened part_at
  by_tag zero = rw (known_at (matcher_tags 0) (omega arith) s at t e)
  by_tag (suc k) = rw (known_at (matcher_tags (suc k)) (omega arith) s at t e)

  pub leaf : (k : ℕ) → t < 2 → matcher_from s k at ≡ Ok (at + 1)
  leaf k h = let m = leaf_tag k t h in by_tag k ∙ rw m.1 (opened_bare (part_at k) s at m.0)

  absent : (k : ℕ) → length (matcher_tags k) ≤ t → matcher_from s k at ≡ Err at
  absent k h = by_tag k ∙ rw (past (matcher_tags k) t h) (opened_none (part_at k) s at)

  pub other : (k : ℕ) → 4 < t → matcher_from s k at ≡ Err at
  unfolding matcher_tags
  other zero h = absent zero (omega arith)
  other (suc k) h = absent (suc k) h

  pub deep : (k : ℕ) → k ≡ 0 → 2 ≤ t → matcher_from s k at ≡ Err at
  unfolding matcher_tags
  deep zero q h = absent zero h
  deep (suc k) q h = absurd (omega arith)

  pub inside : (k : ℕ) → (k ≡ 0 → ⊥) → 2 ≤ t → t < 4 → matcher_from s k at ≡ matcher_from s (k - 1) (at + 1)
  unfolding matcher_from part_at
  inside zero z g h = absurd (z refl)
  inside (suc k) z g h =
      let f = of_tag k t g h in
      let p : suc k - 1 ≡ k = omega arith in
      by_tag (suc k) ∙ rw (f.1, p, add-one at) (opened_of (part_at (suc k)) s at f.0)

  module _ (n : ℕ) (q : n ≡ tag_at s (at + 1)) where
    pub wrong : (k : ℕ) → (k ≡ 0 → ⊥) → t ≡ 4 → within 2 n 4 ≡ false → matcher_from s k at ≡ Err (at + 1)
    unfolding matcher_tags
    wrong zero z h w = absurd (z refl)
    wrong (suc k) z h w = by_tag (suc k) ∙ rw h (opened_wrong (part_at (suc k)) s at tuple_of n q w)

    pub row : (k : ℕ) → (k ≡ 0 → ⊥) → t ≡ 4 → within 2 n 4 ≡ true → matcher_from s k at ≡ in_row (matcher_from s (k - 1)) n (at + 2)
    unfolding matcher_tags matcher_from part_at
    row zero z h w = absurd (z refl)
    row (suc k) z h w =
        let p : suc k - 1 ≡ k = omega arith in
        by_tag (suc k) ∙ rw (h, p) (opened_row (part_at (suc k)) s at tuple_of n q (matcher_along s k) w)
