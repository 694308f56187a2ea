-- The words are one whole matcher exactly when some matcher writes them out, they are at most 64, along each path at most four tags 2, 3 or 4 stand one
-- inside the other, and every tuple has 2 to 4 parts.
use Rattle.std.specs.Prelude.{ℕ, zero, suc, ◌+◌, ◌≤◌, ◌<◌, ◌≡◌, refl, ◌↔◌, List, [], ◌∷◌, ◌++◌, length, ℤ, pos, negsuc}
use Rattle.std.proofs.Common.{zero-le, suc-le-suc, arith, not-suc-le-zero, le_of_suc-le-suc, sym, ap, ◌∙◌}
use Rattle.std.proofs.Math.Option.{some}
use Rattle.rules.specs.Forms.{Matcher, something, integer, list, multiset, tuple_of, Matchers, no_matchers, ◌▸ᵐ◌, countᵐ}
use Rattle.rules.specs.Reading.{ok, fault, ◌then◌, Got, Reader, give, entry, width, whole}
use Rattle.rules.specs.Reading.{MatcherTag, bare, of, of_all, matcher_tags, matcher_parts, matcher, read_matcher}
use Rattle.forms.specs.Written.{matcher_words, matcher_words_all, levels, levels_all, IsWidth, Widthsᵐ, WidthsAllᵐ}
use Rattle.forms.specs.Readers.{got, Took, Sound, Complete, of_some, not_some, bind_ok, gives, moved, none_read, tagged_sound}
use Rattle.forms.specs.Readers.{whole_sound, whole_complete, limited_ok}
use Rattle.forms.specs.Counted.{width_only, width_is, Row, Gathers, Opens, counted_sound, counted_complete}

-- Within the limits: the levels, and the widths of tuples.
abbrev Within : ℕ → Matcher → Type 0
Within left m = (levels m ≤ left) × Widthsᵐ m

abbrev Below : ℕ → Matcher → Type 0
Below left m = (levels m < left) × Widthsᵐ m

abbrev BelowAll : ℕ → Matchers → Type 0
BelowAll left ms = (levels_all ms < left) × WidthsAllᵐ ms

in_a_row : Row no_matchers ◌▸ᵐ◌ matcher_words matcher_words_all countᵐ
unfolding matcher_words countᵐ
in_a_row = record {
  no_words = refl;
  more_words = λ m ms. refl;
  no_number = refl;
  more_number = λ m ms. refl;
  by_forms = every;
}
  where
    every : (P : Matchers → Type 0) → P no_matchers → ((m : Matcher) (ms : Matchers) → P ms → P (m ▸ᵐ ms)) → (ms : Matchers) → P ms
    every P z s no_matchers = z
    every P z s (m ▸ᵐ ms) = s m ms (every P z s ms)

below_gathers : (left : ℕ) → 0 < left → Gathers no_matchers ◌▸ᵐ◌ (Below left) (BelowAll left)
unfolding levels Widthsᵐ
below_gathers left h = record { of_no = (h, tt); of_more = λ m ms x y. (omega (arith, x.0, y.0), (x.1, y.1)) }

below_opens : (left : ℕ) → Opens ◌▸ᵐ◌ (Below left) (BelowAll left)
unfolding levels Widthsᵐ
below_opens left m ms x = ((omega (arith, x.0), x.1.0), (omega (arith, x.0), x.1.1))

-- What a tag stands for: how its parts are written, and that it is in the limits where they are. Tags 2 to 4 stand only where a level is left.
MatcherMeans : ℕ → ℤ → MatcherTag → Type 0
MatcherMeans left w (bare m) = (matcher_words m ≡ w ∷ []) × Within left m
MatcherMeans left w (of f) = (m : Matcher) → (matcher_words (f m) ≡ w ∷ matcher_words m) × (Below left m → Within left (f m))
MatcherMeans left w (of_all f) = (0 < left)
    × ((ms : Matchers) → (matcher_words (f ms) ≡ w ∷ pos (countᵐ ms) ∷ matcher_words_all ms) × (BelowAll left ms → IsWidth (countᵐ ms) → Within left (f ms)))

matcher_means : (left : ℕ) (w : ℤ) (t : MatcherTag) → entry (matcher_tags left) w ≡ some t → MatcherMeans left w t
unfolding entry matcher_tags MatcherMeans matcher_words levels Widthsᵐ
matcher_means left (negsuc n) t e = not_some e
matcher_means zero (pos zero) t e = of_some (MatcherMeans zero (pos 0)) e (refl, (zero-le, tt))
matcher_means zero (pos (suc zero)) t e = of_some (MatcherMeans zero (pos 1)) e (refl, (zero-le, tt))
matcher_means zero (pos (suc (suc n))) t e = not_some e
matcher_means (suc left) (pos zero) t e = of_some (MatcherMeans (suc left) (pos 0)) e (refl, (zero-le, tt))
matcher_means (suc left) (pos (suc zero)) t e = of_some (MatcherMeans (suc left) (pos 1)) e (refl, (zero-le, tt))
matcher_means (suc left) (pos (suc (suc zero))) t e = of_some (MatcherMeans (suc left) (pos 2)) e (λ m. (refl, λ h. h))
matcher_means (suc left) (pos (suc (suc (suc zero)))) t e = of_some (MatcherMeans (suc left) (pos 3)) e (λ m. (refl, λ h. h))
matcher_means (suc left) (pos (suc (suc (suc (suc zero))))) t e =
    of_some (MatcherMeans (suc left) (pos 4)) e (suc-le-suc zero-le, λ ms. (refl, λ h k. (h.0, (k, h.1))))
matcher_means (suc left) (pos (suc (suc (suc (suc (suc n)))))) t e = not_some e

matcher_parts_lem : (left : ℕ) (part : Reader Matcher) → Sound part matcher_words (Below left) → (w : ℤ) (t : MatcherTag) → MatcherMeans left w t
    → (at : ℕ) (ws : List ℤ) (g : Got Matcher) → matcher_parts part t at ws ≡ ok g → Took matcher_words (Within left) (w ∷ ws) g
unfolding matcher_parts MatcherMeans Sound
matcher_parts_lem left part s w (bare m) h at ws g e = gives matcher_words (Within left) m at ws g e (ap (λ l. l ++ ws) (sym h.0)) h.1
matcher_parts_lem left part s w (of f) h at ws g e =
    let b = bind_ok part (λ m. give (f m)) at ws g e in
    let q = s at ws b.0 b.1 in
    let i = h b.0.it in
    gives matcher_words (Within left) (f b.0.it) b.0.next b.0.rest g b.2
    (ap {B = List ℤ} (λ l. w ∷ l) q.0 ∙ ap (λ l. l ++ b.0.rest) (sym i.0)) (i.1 q.1)
matcher_parts_lem left part s w (of_all f) h at ws g e = counted_sound in_a_row part width f width_only (below_gathers left h.0) s w
    (λ ms. (h.1 ms).0) (Within left) (λ ms k i. (h.1 ms).1 k ((width_is (countᵐ ms)).0 i)) at ws g e

pub matcher_sound : (left : ℕ) → Sound (matcher left) matcher_words (Within left)
unfolding matcher Sound
matcher_sound zero at ws g e = tagged_sound (matcher_tags zero) (matcher_parts (λ i us. fault i)) matcher_words (Within zero) (MatcherMeans zero)
    (matcher_means zero) (matcher_parts_lem zero (λ i us. fault i) (none_read matcher_words (Below zero))) at ws g e
matcher_sound (suc left) at ws g e =
    tagged_sound (matcher_tags (suc left)) (matcher_parts (λ i us. matcher left i us)) matcher_words (Within (suc left)) (MatcherMeans (suc left))
    (matcher_means (suc left)) (matcher_parts_lem (suc left) (λ i us. matcher left i us)
    (λ i us h k. let q = matcher_sound left i us h k in (q.0, (suc-le-suc q.1.0, q.1.1)))) at ws g e

pub matcher_complete : (left : ℕ) (m : Matcher) → Within left m → (at : ℕ) (us : List ℤ)
    → matcher left at (matcher_words m ++ us) ≡ ok (got m (at + length (matcher_words m)) us)
unfolding matcher matcher_words levels Widthsᵐ matcher_parts matcher_tags Complete
matcher_complete zero something h at us = moved something us (omega arith)
matcher_complete zero integer h at us = moved integer us (omega arith)
matcher_complete zero (list m) h at us = absurd (not-suc-le-zero h.0)
matcher_complete zero (multiset m) h at us = absurd (not-suc-le-zero h.0)
matcher_complete zero (tuple_of ms) h at us = absurd (not-suc-le-zero h.0)
matcher_complete (suc left) something h at us = moved something us (omega arith)
matcher_complete (suc left) integer h at us = moved integer us (omega arith)
matcher_complete (suc left) (list m) h at us = ap (λ x. x then λ g. give (list g.it) g.next g.rest)
    (matcher_complete left m (le_of_suc-le-suc h.0, h.1) (suc at) us) ∙ moved (list m) us (omega arith)
matcher_complete (suc left) (multiset m) h at us = ap (λ x. x then λ g. give (multiset g.it) g.next g.rest)
    (matcher_complete left m (le_of_suc-le-suc h.0, h.1) (suc at) us) ∙ moved (multiset m) us (omega arith)
matcher_complete (suc left) (tuple_of ms) h at us =
    counted_complete in_a_row (λ i ws. matcher left i ws) width tuple_of (below_opens (suc left))
    (λ m k i ws. matcher_complete left m (le_of_suc-le-suc k.0, k.1) i ws)
    ms (h.0, h.1.1) ((width_is (countᵐ ms)).1 h.1.0) (suc at) _ us (omega arith)

pub matcher_read : (ms : List ℤ) (m : Matcher) → read_matcher ms ≡ ok m ↔ (ms ≡ matcher_words m) × (length ms ≤ 64) × (levels m ≤ 4) × Widthsᵐ m
unfolding read_matcher Complete
matcher_read ms m = (
  λ e. let l = (limited_ok 64 (whole (matcher 4)) ms m).0 e in let s = whole_sound (matcher 4) matcher_words (Within 4) (matcher_sound 4) ms m l.1 in
      (s.0, l.0, s.1.0, s.1.1),
  λ h. (limited_ok 64 (whole (matcher 4)) ms m).1 (
    h.1,
    ap (whole (matcher 4)) h.0 ∙ whole_complete (matcher 4) matcher_words (Within 4) (matcher_complete 4) m (h.2, h.3),
  ),
)

-- No words are two matchers'.
pub matcher_once : (m k : Matcher) → (levels m ≤ 4) × Widthsᵐ m → (levels k ≤ 4) × Widthsᵐ k → matcher_words m ≡ matcher_words k → m ≡ k
unfolding Complete
matcher_once m k a b e =
    let c = whole_complete (matcher 4) matcher_words (Within 4) (matcher_complete 4) in
    cc (c m a, c k b, ap (whole (matcher 4)) e)
