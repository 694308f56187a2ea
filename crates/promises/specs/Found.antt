-- Where a cause stands it is found, by the reader with its place and by the look.
use Rattle.std.specs.Prelude.{ℕ, zero, suc, ◌+◌, ◌<◌, ◌≡◌, refl, List, [], ◌∷◌, ◌++◌, length, ℤ, pos, negsuc}
use Rattle.std.proofs.Common.{arith, sym, ◌∙◌, subst, append_assoc, length-append}
use Rattle.std.proofs.Math.Path.{ap}
use Rattle.std.proofs.Math.Option.{Option, none, some}
use Rattle.rules.specs.Forms.{Value, collection, tupled, Values, empty, ◌▸◌, count, words, words_all}
use Rattle.rules.specs.Reading.{Verdict, ok, fault, ◌then◌, Got, Reader, give, ◌>>=◌, known, word, entry, times}
use Rattle.rules.specs.Reading.{target_tags, target_parts, width, at_most64, target}
use Rattle.rules.specs.Causes.{Cause, unknown_tag, bad_count, cut_short, bad_width}
use Rattle.rules.specs.Causes.{Look, wrong, ◌thence◌, in_turn, see, kinds, any_word, innermost, opened, value}
use Rattle.forms.specs.Written.{deepest, largest, Widths, IsWidth}
use Rattle.forms.specs.Readers.{got, known_is}
use Rattle.forms.specs.Counted.{width_only, width_is, at_most_only, at_most_is}
use Rattle.forms.proofs.ReadTarget.{target_complete}
use Rattle.forms.specs.Wrong.{Outside, Heads, of_collection, of_tuple, Within, Awaits, outermost, inside, Spot}
use Rattle.forms.specs.Wrong.{not_tag, not_count, deep_collection, deep_tuple, no_tag, no_integer, no_count, no_width, not_width}
use Rattle.forms.proofs.Together.{value_well}

-- The reader ends with a fault at i, and the look with the cause c.
abbrev pub Found : (d at : ℕ) (ws : List ℤ) (i : ℕ) → Cause → Type 0
Found d at ws i c = (target d at ws ≡ fault i) × (value d ws ≡ wrong c)

count_none : (w : ℤ) → Outside 0 64 w → at_most64 w ≡ none
unfolding Outside
count_none w out = go (at_most64 w) refl
  where
    go : (o : Option ℕ) → at_most64 w ≡ o → o ≡ none
    go none e = refl
    go (some n) e = let p = at_most_only w n e in absurd (out n (omega arith) ((at_most_is n).0 (sym (ap at_most64 p) ∙ e)) p)

width_none : (w : ℤ) → Outside 2 4 w → width w ≡ none
unfolding Outside IsWidth
width_none w out = go (width w) refl
  where
    go : (o : Option ℕ) → width w ≡ o → o ≡ none
    go none e = refl
    go (some n) e = let p = width_only w n e in let k = (width_is n).0 (sym (ap width p) ∙ e) in absurd (out n k.0 k.1 p)

not_tag_lem : (l : ℕ) (w : ℤ) (us : List ℤ) → Outside 0 2 w → (at : ℕ) → Found l at (w ∷ us) (at + 0) unknown_tag
unfolding target target_tags target_parts known entry ◌>>=◌ ◌then◌ value see kinds Outside
not_tag_lem l (pos zero) us out at = absurd (out 0 (omega arith) (omega arith) refl)
not_tag_lem l (pos (suc zero)) us out at = absurd (out 1 (omega arith) (omega arith) refl)
not_tag_lem l (pos (suc (suc zero))) us out at = absurd (out 2 (omega arith) (omega arith) refl)
not_tag_lem zero (pos (suc (suc (suc n)))) us out at = (ap fault (omega arith), refl)
not_tag_lem (suc l) (pos (suc (suc (suc n)))) us out at = (ap fault (omega arith), refl)
not_tag_lem zero (negsuc n) us out at = (ap fault (omega arith), refl)
not_tag_lem (suc l) (negsuc n) us out at = (ap fault (omega arith), refl)

no_more : (l at : ℕ) → Found l at [] (at + 0) cut_short
unfolding target known ◌>>=◌ ◌then◌ value see
no_more zero at = (ap fault (omega arith), refl)
no_more (suc l) at = (ap fault (omega arith), refl)

no_integer_lem : (l at : ℕ) → Found l at (pos 0 ∷ []) (at + 1) cut_short
unfolding target target_tags target_parts known word entry ◌>>=◌ ◌then◌ value see kinds any_word innermost opened
no_integer_lem zero at = (ap fault (omega arith), refl)
no_integer_lem (suc l) at = (ap fault (omega arith), refl)

-- A count or width that the test does not take, and one that it takes.
module _ (number : ℤ → Option ℕ) (w : ℤ) (us : List ℤ) where
  known_none : number w ≡ none → (at : ℕ) (k : ℕ → Reader Value) → (known number >>= k) at (w ∷ us) ≡ fault at
  unfolding known ◌>>=◌ ◌then◌
  known_none e at k = ap (λ o. ◌then◌ {A = Got ℕ} (elim o as (λ _. Verdict (Got ℕ)) [ none ↦ fault at | some n ↦ ok (got n (suc at) us) ])
      (λ g. k g.it g.next g.rest)) e

  see_none : number w ≡ none → (c : Cause) (k : ℕ → List ℤ → Look) → see c number k (w ∷ us) ≡ wrong c
  unfolding see
  see_none e c k = ap (λ o. elim o as (λ _. Look) [ none ↦ wrong c | some n ↦ k n us ]) e

  see_some : (n : ℕ) → number w ≡ some n → (c : Cause) (k : ℕ → List ℤ → Look) → see c number k (w ∷ us) ≡ k n us
  unfolding see
  see_some n e c k = ap (λ o. elim o as (λ _. Look) [ none ↦ wrong c | some n ↦ k n us ]) e

spot_found : {l k : ℕ} {ws : List ℤ} {c : Cause} → Spot l ws k c → (at : ℕ) → Found l at ws (at + k) c
unfolding target target_tags target_parts known word entry ◌>>=◌ ◌then◌ give value see kinds any_word innermost opened
spot_found (not_tag {l = l} {w = w} {us = us} out) at = not_tag_lem l w us out at
spot_found (not_count {l = l} {w = w} {us = us} out) at =
    let e = count_none w out in (known_none at_most64 w us e (suc at) _ ∙ ap fault (omega arith), see_none at_most64 w us e bad_count (in_turn λ us. value l us))
spot_found deep_collection at = (ap fault (omega arith), refl)
spot_found deep_tuple at = (ap fault (omega arith), refl)
spot_found (no_tag {l = l}) at = no_more l at
spot_found (no_integer {l = l}) at = no_integer_lem l at
spot_found no_count at = (ap fault (omega arith), refl)
spot_found no_width at = (ap fault (omega arith), refl)
spot_found (not_width {l = l} {w = w} {us = us} out) at =
    let e = width_none w out in (known_none width w us e (suc at) _ ∙ ap fault (omega arith), see_none width w us e bad_width (in_turn λ us. value l us))

-- After whole values, fewer than there are to be.
row_found : (d n at : ℕ) (vs : Values) (zs : List ℤ) (i : ℕ) (c : Cause) → count vs < n → Within d vs → Found d (at + length (words_all vs)) zs i c
    → (times empty ◌▸◌ (λ j us. target d j us) n at (words_all vs ++ zs) ≡ fault i) × (in_turn (λ us. value d us) n (words_all vs ++ zs) ≡ wrong c)
unfolding times in_turn count words Within deepest largest Widths ◌>>=◌ ◌then◌ ◌thence◌ give
row_found d zero at vs zs i c h w f = absurd (omega (arith, h))
row_found d (suc n) at empty zs i c h w f =
    let z : at + 0 ≡ at = omega arith in
    let t : target d at zs ≡ fault i = subst (λ j. target d j zs ≡ fault i) z f.0 in (
      ap (λ x. x then λ g. times empty ◌▸◌ (λ j us. target d j us) n g.next g.rest then λ h. give (g.it ▸ h.it) h.next h.rest) t,
      ap (λ y. y thence λ us. in_turn (λ ls. value d ls) n us) f.1,
    )
row_found d (suc n) at (v ▸ vs) zs i c h w f =
    let l = length-append (words v) (words_all vs) in
    let p = append_assoc (words v) (words_all vs) zs in
    let t = target_complete d v (omega (arith, w.0), omega (arith, w.1), w.2.0) at (words_all vs ++ zs) in
    let m : at + length (words v ++ words_all vs) ≡ at + length (words v) + length (words_all vs) = omega (arith, l) in
    let q = row_found d n (at + length (words v)) vs zs i c (omega (arith, h)) (omega (arith, w.0), omega (arith, w.1), w.2.1)
    (subst (λ j. target d j zs ≡ fault i) m f.0, f.1) in (
      ap (times empty ◌▸◌ (λ j us. target d j us) (suc n) at) p
          ∙ ap (λ x. x then λ g. times empty ◌▸◌ (λ j us. target d j us) n g.next g.rest then λ h. give (g.it ▸ h.it) h.next h.rest) t
          ∙ ap (λ x. x then λ h. give (v ▸ h.it) h.next h.rest) q.0,
      ap (in_turn (λ us. value d us) (suc n)) p
          ∙ ap (λ y. y thence λ us. in_turn (λ ls. value d ls) n us) (value_well d at (words v ++ (words_all vs ++ zs)) _ t) ∙ q.1,
    )

inside_found : {t n : ℕ} → Heads t n → (d at : ℕ) (zs : List ℤ) (i : ℕ) (c : Cause)
    → (times empty ◌▸◌ (λ j us. target d j us) n (suc (suc at)) zs ≡ fault i) × (in_turn (λ us. value d us) n zs ≡ wrong c)
    → Found (suc d) at (pos t ∷ pos n ∷ zs) i c
unfolding target target_tags target_parts known entry ◌>>=◌ ◌then◌ give value see kinds opened
inside_found (of_collection {n = n} h) d at zs i c q =
    let e = (at_most_is n).1 h in (
      ap (λ x. ◌then◌ {A = Got ℕ} x (λ g. times empty ◌▸◌ (λ j us. target d j us) g.it g.next g.rest then λ h. give (collection h.it) h.next h.rest))
          (known_is at_most64 (pos n) n (suc at) zs e) ∙ ap (λ x. x then λ h. give (collection h.it) h.next h.rest) q.0,
      see_some at_most64 (pos n) zs n e bad_count (in_turn λ us. value d us) ∙ q.1,
    )
inside_found (of_tuple {n = n} h) d at zs i c q =
    let e = (width_is n).1 h in (
      ap (λ x. ◌then◌ {A = Got ℕ} x (λ g. times empty ◌▸◌ (λ j us. target d j us) g.it g.next g.rest then λ h. give (tupled h.it) h.next h.rest))
          (known_is width (pos n) n (suc at) zs e) ∙ ap (λ x. x then λ h. give (tupled h.it) h.next h.rest) q.0,
      see_some width (pos n) zs n e bad_width (in_turn λ us. value d us) ∙ q.1,
    )

pub awaits_found : {d l k : ℕ} {front rest : List ℤ} {c : Cause} → Awaits d l front → Spot l rest k c → (at : ℕ) → Found d at (front ++ rest) (at + (length front + k)) c
awaits_found {k = k} {rest = rest} {c = c} (outermost {d = d}) s at = let m : at + k ≡ at + (0 + k) = omega arith in subst (λ j. Found d at rest j c) m (spot_found s at)
awaits_found {k = k} {rest = rest} {c = c} (inside {d = d} {t = t} {n = n} {us = us} {ws = ws} vs h fewer w a e) s at =
    let r = awaits_found a s (suc (suc at) + length (words_all vs)) in
    let q = inside_found h d at (words_all vs ++ (us ++ rest)) _ c (row_found d n (suc (suc at)) vs (us ++ rest) _ c fewer w r) in
    let p : pos t ∷ pos n ∷ (words_all vs ++ (us ++ rest)) ≡ ws ++ rest =
    ap {B = List ℤ} (λ l. pos t ∷ pos n ∷ l) (sym (append_assoc (words_all vs) us rest)) ∙ ap (λ l. l ++ rest) (sym e) in
    let m : suc (suc at) + length (words_all vs) + (length us + k) ≡ at + (length ws + k) =
    omega (arith, ap length e, length-append (words_all vs) us) in
    subst (λ j. Found (suc d) at (ws ++ rest) j c) m (subst (λ l. Found (suc d) at l (suc (suc at) + length (words_all vs) + (length us + k)) c) p q)
