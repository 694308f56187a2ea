-- The words are one whole target in the limits exactly when some value writes them out, they are at most 1,024, no collection of it has more than 64
-- elements, collections and tuples stand inside one another to depth 8, and every tuple has 2 to 4 parts.
use Rattle.std.specs.Prelude.{ℕ, zero, suc, ◌+◌, ◌≤◌, ◌<◌, ◌≡◌, refl, ◌↔◌, List, [], ◌∷◌, ◌++◌, length, ℤ, pos, negsuc}
use Rattle.std.proofs.Common.{zero-le, suc-le-suc, arith, not-suc-le-zero, le_of_suc-le-suc, sym, ap, ◌∙◌}
use Rattle.std.proofs.Math.Option.{some}
use Rattle.rules.specs.Forms.{Value, int, collection, tupled, Values, empty, ◌▸◌, count, words, words_all}
use Rattle.rules.specs.Reading.{ok, fault, Got, Reader, give, word, entry, whole}
use Rattle.rules.specs.Reading.{TargetTag, one, many, target_tags, width, at_most64, target_parts, target, read_target}
use Rattle.forms.specs.Written.{deepest, deepest_of, largest, largest_of, Widths, WidthsAll}
use Rattle.forms.specs.Readers.{got, Took, Sound, Complete, of_some, not_some, bind_ok, word_ok, gives, moved, none_read, tagged_sound}
use Rattle.forms.specs.Readers.{whole_sound, whole_complete, limited_ok}
use Rattle.forms.specs.Counted.{Only, width_only, width_is, at_most_only, at_most_is, Row, Gathers, Opens, counted_sound, counted_complete}

-- Within the limits: the depth, the most elements, and the widths of tuples.
abbrev Within : ℕ → Value → Type 0
Within depth v = (deepest v ≤ depth) × (largest v ≤ 64) × Widths v

abbrev Below : ℕ → Value → Type 0
Below depth v = (deepest v < depth) × (largest v ≤ 64) × Widths v

abbrev BelowAll : ℕ → Values → Type 0
BelowAll depth vs = (deepest_of vs < depth) × (largest_of vs ≤ 64) × WidthsAll vs

in_a_row : Row empty ◌▸◌ words words_all count
unfolding words count
in_a_row = record {
  no_words = refl;
  more_words = λ v vs. refl;
  no_number = refl;
  more_number = λ v vs. refl;
  by_forms = every;
}
  where
    every : (P : Values → Type 0) → P empty → ((v : Value) (vs : Values) → P vs → P (v ▸ vs)) → (vs : Values) → P vs
    every P z s empty = z
    every P z s (v ▸ vs) = s v vs (every P z s vs)

below_gathers : (depth : ℕ) → 0 < depth → Gathers empty ◌▸◌ (Below depth) (BelowAll depth)
unfolding deepest largest Widths
below_gathers depth h = record {
  of_no = (h, zero-le, tt);
  of_more = λ v vs x y. (omega (arith, x.0, y.0), omega (arith, x.1, y.1), (x.2, y.2));
}

below_opens : (depth : ℕ) → Opens ◌▸◌ (Below depth) (BelowAll depth)
unfolding deepest largest Widths
below_opens depth v vs x = ((omega (arith, x.0), omega (arith, x.1), x.2.0), (omega (arith, x.0), omega (arith, x.1), x.2.1))

-- ---- What is read is written.

-- What a tag stands for: how its operand, or its elements or parts, are written, and that it is in the limits where they are. Tags 1 and 2 stand only
-- where a level is left.
TargetMeans : ℕ → ℤ → TargetTag → Type 0
TargetMeans depth w (one f) = (x : ℤ) → (words (f x) ≡ w ∷ x ∷ []) × Within depth (f x)
TargetMeans depth w (many number f) = (0 < depth) × Only number
    × ((vs : Values) → (words (f vs) ≡ w ∷ pos (count vs) ∷ words_all vs)
    × (BelowAll depth vs → number (pos (count vs)) ≡ some (count vs) → Within depth (f vs)))

target_means : (depth : ℕ) (w : ℤ) (t : TargetTag) → entry (target_tags depth) w ≡ some t → TargetMeans depth w t
unfolding entry target_tags TargetMeans words deepest largest Widths
target_means depth (negsuc n) t e = not_some e
target_means zero (pos zero) t e = of_some (TargetMeans zero (pos 0)) e (λ x. (refl, (zero-le, zero-le, tt)))
target_means zero (pos (suc n)) t e = not_some e
target_means (suc depth) (pos zero) t e = of_some (TargetMeans (suc depth) (pos 0)) e (λ x. (refl, (zero-le, zero-le, tt)))
target_means (suc depth) (pos (suc zero)) t e = of_some (TargetMeans (suc depth) (pos 1)) e
    (suc-le-suc zero-le, at_most_only, λ vs. (refl, λ h i. (h.0, omega (arith, h.1, (at_most_is (count vs)).0 i), h.2)))
target_means (suc depth) (pos (suc (suc zero))) t e = of_some (TargetMeans (suc depth) (pos 2)) e
    (suc-le-suc zero-le, width_only, λ vs. (refl, λ h i. (h.0, h.1, ((width_is (count vs)).0 i, h.2))))
target_means (suc depth) (pos (suc (suc (suc n)))) t e = not_some e

target_parts_lem : (depth : ℕ) (part : Reader Value) → Sound part words (Below depth) → (w : ℤ) (t : TargetTag) → TargetMeans depth w t
    → (at : ℕ) (ws : List ℤ) (g : Got Value) → target_parts part t at ws ≡ ok g → Took words (Within depth) (w ∷ ws) g
unfolding target_parts TargetMeans
target_parts_lem depth part s w (one f) h at ws g e =
    let b = bind_ok word (λ x. give (f x)) at ws g e in
    let i = h b.0.it in
    gives words (Within depth) (f b.0.it) b.0.next b.0.rest g b.2
    (ap {B = List ℤ} (λ l. w ∷ l) (word_ok at ws b.0 b.1) ∙ ap (λ l. l ++ b.0.rest) (sym i.0)) i.1
target_parts_lem depth part s w (many number f) h at ws g e =
    counted_sound in_a_row part number f h.1 (below_gathers depth h.0) s w (λ vs. (h.2 vs).0) (Within depth) (λ vs. (h.2 vs).1) at ws g e

pub target_sound : (depth : ℕ) → Sound (target depth) words (Within depth)
unfolding target Sound
target_sound zero at ws g e = tagged_sound (target_tags zero) (target_parts (λ i us. fault i)) words (Within zero) (TargetMeans zero)
    (target_means zero) (target_parts_lem zero (λ i us. fault i) (none_read words (Below zero))) at ws g e
target_sound (suc depth) at ws g e =
    tagged_sound (target_tags (suc depth)) (target_parts (λ i us. target depth i us)) words (Within (suc depth)) (TargetMeans (suc depth))
    (target_means (suc depth)) (target_parts_lem (suc depth) (λ i us. target depth i us)
    (λ i us h k. let q = target_sound depth i us h k in (q.0, (suc-le-suc q.1.0, q.1.1, q.1.2)))) at ws g e

-- ---- What is written is read.

pub target_complete : (depth : ℕ) (v : Value) → Within depth v → (at : ℕ) (us : List ℤ)
    → target depth at (words v ++ us) ≡ ok (got v (at + length (words v)) us)
unfolding target words deepest largest Widths target_parts target_tags Complete
target_complete zero (int x) h at us = moved (int x) us (omega arith)
target_complete zero (collection vs) h at us = absurd (not-suc-le-zero h.0)
target_complete zero (tupled vs) h at us = absurd (not-suc-le-zero h.0)
target_complete (suc d) (int x) h at us = moved (int x) us (omega arith)
target_complete (suc d) (collection vs) h at us =
    counted_complete in_a_row (λ i ws. target d i ws) at_most64 collection (below_opens (suc d))
    (λ v k i ws. target_complete d v (le_of_suc-le-suc k.0, k.1, k.2) i ws)
    vs (h.0, omega (arith, h.1), h.2) ((at_most_is (count vs)).1 (omega (arith, h.1))) (suc at) _ us (omega arith)
target_complete (suc d) (tupled vs) h at us =
    counted_complete in_a_row (λ i ws. target d i ws) width tupled (below_opens (suc d))
    (λ v k i ws. target_complete d v (le_of_suc-le-suc k.0, k.1, k.2) i ws)
    vs (h.0, h.1, h.2.1) ((width_is (count vs)).1 h.2.0) (suc at) _ us (omega arith)

pub target_read : (ts : List ℤ) (v : Value)
    → read_target ts ≡ ok v ↔ (ts ≡ words v) × (length ts ≤ 1024) × (largest v ≤ 64) × (deepest v ≤ 8) × Widths v
unfolding read_target Complete
target_read ts v = (
  λ e. let l = (limited_ok 1024 (whole (target 8)) ts v).0 e in let s = whole_sound (target 8) words (Within 8) (target_sound 8) ts v l.1 in
      (s.0, l.0, s.1.1, s.1.0, s.1.2),
  λ h. (limited_ok 1024 (whole (target 8)) ts v).1 (
    h.1,
    ap (whole (target 8)) h.0 ∙ whole_complete (target 8) words (Within 8) (target_complete 8) v (h.3, h.2, h.4),
  ),
)

-- No words are two values'.
pub target_once : (v w : Value) → length (words v) ≤ 1024
    → (largest v ≤ 64) × (deepest v ≤ 8) × Widths v → (largest w ≤ 64) × (deepest w ≤ 8) × Widths w → words v ≡ words w → v ≡ w
target_once v w l a b e = cc ((target_read (words v) v).1 (refl, l, a.0, a.1, a.2), (target_read (words v) w).1 (e, l, b.0, b.1, b.2))
