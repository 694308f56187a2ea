-- The words of a target from a tag on: values one after the other, the first of which stands there. Assumes nothing.
use mathlib.Core.Path.{◌≡◌, refl, sym, ◌∙◌, ap, ap₂}
use mathlib.Core.List.{List, [], ◌++◌, append_assoc, append-nil}
use Prim.Native.Nat.{ℕ, zero, suc, ◌+◌, ◌-◌, ◌%◌, ◌<◌, ◌≤◌, max}
use native.Mathlib.Omega.{arith}
use lib.ListN.{length, drop, length-append, length-drop}
use lib.Seq.{drop-drop, drop-append_seam}
use lib.IntN.{ℤ}
use Rattle.rules.specs.Forms.{Value, int, collection, tupled, Values, empty, ◌▸◌, count, words, words_all, size, size_all}
use Rattle.forms.specs.Written.{deepest, deepest_of, largest, largest_of, IsWidth, Widths, WidthsAll, length_words, length_words_all}
use Rattle.value_places.specs.Places.{firsts, lasts, forest, head_of, value_at, Target, Tag, Standing, hops}

-- Values one after the other.
unfoldable pub follow : Values → Values → Values
follow empty us = us
follow (v ▸ vs) us = v ▸ follow vs us

firsts_follow : (vs us : Values) → firsts (count vs) (follow vs us) ≡ vs
unfolding firsts follow count
firsts_follow empty us = refl
firsts_follow (v ▸ vs) us = ap (λ (z : Values). v ▸ z) (firsts_follow vs us)

lasts_follow : (vs us : Values) → lasts (count vs) (follow vs us) ≡ us
unfolding lasts follow count
lasts_follow empty us = refl
lasts_follow (v ▸ vs) us = lasts_follow vs us

follow_nil : (us : Values) → follow us empty ≡ us
unfolding follow
follow_nil empty = refl
follow_nil (v ▸ vs) = ap (λ (z : Values). v ▸ z) (follow_nil vs)

pub words_follow : (vs us : Values) → words_all (follow vs us) ≡ words_all vs ++ words_all us
unfolding follow words_all
words_follow empty us = refl
words_follow (v ▸ vs) us = rw (words_follow vs us, append_assoc)

mutual
  unfolding forest words words_all follow

  pub forest_words : (v : Value) (l : List ℤ) → forest (words v ++ l) ≡ v ▸ forest l
  forest_words (int x) l = refl
  forest_words (collection vs) l = rw (forest_all vs l, firsts_follow vs (forest l), lasts_follow vs (forest l))
  forest_words (tupled vs) l = rw (forest_all vs l, firsts_follow vs (forest l), lasts_follow vs (forest l))

  pub forest_all : (vs : Values) (l : List ℤ) → forest (words_all vs ++ l) ≡ follow vs (forest l)
  forest_all empty l = refl
  forest_all (v ▸ vs) l = rw (append_assoc, forest_words v (words_all vs ++ l), forest_all vs l)

mutual
  unfolding size size_all

  pub even_size : (v : Value) → size v % 2 ≡ 0
  even_size (int x) = refl
  even_size (collection vs) = let r = even_all vs in omega arith
  even_size (tupled vs) = let r = even_all vs in omega arith

  pub even_all : (vs : Values) → size_all vs % 2 ≡ 0
  even_all empty = refl
  even_all (v ▸ vs) = let r = even_size v in let q = even_all vs in omega arith

pub two_words : (v : Value) → 2 ≤ size v
unfolding size
two_words (int x) = omega arith
two_words (collection vs) = omega arith
two_words (tupled vs) = omega arith

-- ---- From each even index on there stand values.

-- The most elements or parts that a value has, nested ones too.
unfoldable mutual
  unfolding count

  pub widest : Value → ℕ
  widest (int x) = 0
  widest (collection vs) = max (count vs) (widest_of vs)
  widest (tupled vs) = max (count vs) (widest_of vs)

  pub widest_of : Values → ℕ
  widest_of empty = 0
  widest_of (v ▸ vs) = max (widest v) (widest_of vs)

mutual
  unfolding widest largest Widths IsWidth

  pub widest_64 : (v : Value) → largest v ≤ 64 → Widths v → widest v ≤ 64
  widest_64 (int x) h w = omega arith
  widest_64 (collection vs) h w = omega (arith, widest_all vs (omega arith) w)
  widest_64 (tupled vs) h w = omega (arith, w.0.1, widest_all vs h w.1)

  pub widest_all : (vs : Values) → largest_of vs ≤ 64 → WidthsAll vs → widest_of vs ≤ 64
  widest_all empty h w = omega arith
  widest_all (v ▸ vs) h w = omega (arith, widest_64 v (omega arith) w.0, widest_all vs (omega arith) w.1)

widest_follow : (b : ℕ) (vs us : Values) → widest_of vs ≤ b → widest_of us ≤ b → widest_of (follow vs us) ≤ b
unfolding follow widest_of
widest_follow b empty us h l = l
widest_follow b (v ▸ vs) us h l = let r = widest_follow b vs us (omega arith) l in omega arith

-- The words from there on are values', and none of these is wider.
pub tail_flat : (b at : ℕ) → at % 2 ≡ 0 → (fs : Values) → widest_of fs ≤ b → (us : Values) × (drop at (words_all fs) ≡ words_all us) × (widest_of us ≤ b)
unfolding words words_all widest widest_of
tail_flat b zero e fs h = (fs, refl, h)
tail_flat b (suc zero) e fs h = absurd (omega arith)
tail_flat b (suc (suc at)) e empty h = (empty, refl, h)
tail_flat b (suc (suc at)) e (int x ▸ fs) h = tail_flat b at (omega arith) fs (omega arith)
tail_flat b (suc (suc at)) e (collection vs ▸ fs) h =
    let r = tail_flat b at (omega arith) (follow vs fs) (widest_follow b vs fs (omega arith) (omega arith)) in
    (r.0, ap (drop at) (sym (words_follow vs fs)) ∙ r.1, r.2)
tail_flat b (suc (suc at)) e (tupled vs ▸ fs) h =
    let r = tail_flat b at (omega arith) (follow vs fs) (widest_follow b vs fs (omega arith) (omega arith)) in
    (r.0, ap (drop at) (sym (words_follow vs fs)) ∙ r.1, r.2)

pub forest_flat : (us : Values) → forest (words_all us) ≡ us
unfolding forest
forest_flat us = ap forest (sym (append-nil (words_all us))) ∙ forest_all us [] ∙ follow_nil us

-- Nor deeper.
deep_follow : (d : ℕ) (vs us : Values) → deepest_of vs ≤ d → deepest_of us ≤ d → deepest_of (follow vs us) ≤ d
unfolding follow deepest_of
deep_follow d empty us h l = l
deep_follow d (v ▸ vs) us h l = let r = deep_follow d vs us (omega arith) l in omega arith

pub tail_deep : (d at : ℕ) → at % 2 ≡ 0 → (fs : Values) → deepest_of fs ≤ d → deepest_of (forest (drop at (words_all fs))) ≤ d
unfolding words words_all deepest deepest_of forest
tail_deep d zero e fs h = rw (forest_flat fs) h
tail_deep d (suc zero) e fs h = absurd (omega arith)
tail_deep d (suc (suc at)) e empty h = omega arith
tail_deep d (suc (suc at)) e (int x ▸ fs) h = tail_deep d at (omega arith) fs (omega arith)
tail_deep d (suc (suc at)) e (collection vs ▸ fs) h =
    rw (← words_follow vs fs) (tail_deep d at (omega arith) (follow vs fs) (deep_follow d vs fs (omega arith) (omega arith)))
tail_deep d (suc (suc at)) e (tupled vs ▸ fs) h =
    rw (← words_follow vs fs) (tail_deep d at (omega arith) (follow vs fs) (deep_follow d vs fs (omega arith) (omega arith)))

pub flat_at : (s : List ℤ) (at : ℕ) → Target s → at % 2 ≡ 0 → drop at s ≡ words_all (forest (drop at s))
flat_at s at g e =
    let r = tail_flat (widest_of (forest s)) at e (forest s) (omega arith) in
    let d : drop at s ≡ words_all r.0 = ap (drop at) g.whole ∙ r.1 in
    d ∙ ap words_all (sym (forest_flat r.0) ∙ ap forest (sym d))

pub even_length : (s : List ℤ) → Target s → length s % 2 ≡ 0
even_length s g = let e = ap length g.whole in omega (arith, e, length_words_all (forest s), even_all (forest s))

-- What stands at a tag.
pub record Here (s : List ℤ) (at : ℕ) : Type 0 where
  pub stands : drop at s ≡ words (value_at s at) ++ drop (at + size (value_at s at)) s
  pub more : forest (drop at s) ≡ value_at s at ▸ forest (drop (at + size (value_at s at)) s)
  pub fits : at + size (value_at s at) ≤ length s
  pub two : 2 ≤ size (value_at s at)

pub here : (s : List ℤ) (at : ℕ) → Target s → at % 2 ≡ 0 → 0 < count (forest (drop at s)) → Here s at
unfolding value_at count words_all
here s at g e h = go (forest (drop at s)) refl h (flat_at s at g e)
  where
    go : (us : Values) → forest (drop at s) ≡ us → 0 < count us → drop at s ≡ words_all (forest (drop at s)) → Here s at
    go empty q h f = absurd (omega arith)
    go (v ▸ us) q h f =
        let d : drop at s ≡ words v ++ words_all us = f ∙ ap words_all q in
        let a : drop (at + size v) s ≡ words_all us = sym (drop-drop (size v) at s) ∙ ap₂ drop (sym (length_words v)) d ∙ drop-append_seam (words v) (words_all us) in
        let z : value_at s at ≡ v = ap head_of q in
        let n = ap length d in
        let k : at + size v ≤ length s = omega (arith, n, length-drop at s, length-append (words v) (words_all us), length_words v, two_words v) in
        record {
          stands = rw (z, a) d;
          more = rw (z, a, forest_flat us) q;
          fits = rw z k;
          two = two_words (value_at s at);
        }

-- A tag within the words has a value.
some_value : (s : List ℤ) (at : ℕ) → Target s → Tag s at → 0 < count (forest (drop at s))
unfolding count words_all
some_value s at g w = go (forest (drop at s)) (flat_at s at g w.even)
  where
    go : (us : Values) → drop at s ≡ words_all us → 0 < count us
    go empty f = let n = ap length f in let h = w.inside in absurd (omega (arith, n, length-drop at s))
    go (v ▸ us) f = omega arith

pub is_here : (s : List ℤ) (at : ℕ) → Target s → Tag s at → Here s at
is_here s at g w = here s at g w.even (some_value s at g w)

-- ---- Where values end that stand one after the other.

pub hop_none : (s : List ℤ) (k e : ℕ) → k ≤ 0 → e ≡ hops s k e
unfolding hops firsts size_all
hop_none s zero e h = omega arith
hop_none s (suc k) e h = absurd (omega arith)

pub hop_after : (s : List ℤ) (k e : ℕ) → e ≤ hops s k e
unfolding hops
hop_after s k e = omega arith

-- Fewer stand there too.
pub standing_less : (s : List ℤ) (k j e : ℕ) → Standing s k e → j ≤ k → Standing s j e
standing_less s k j e r h = record { even = r.even; some = omega (arith, r.some) }

module _ (s : List ℤ) (k e : ℕ) (g : Target s) (r : Standing s k e) (h : 0 < k) where
  at_first : Here s e
  at_first = here s e g r.even (omega (arith, r.some))

  pub hop_one : hops s k e ≡ hops s (k - 1) (e + size (value_at s e))
  unfolding hops firsts size_all
  hop_one = go k h
    where
      go : (n : ℕ) → 0 < n → e + size_all (firsts n (forest (drop e s))) ≡ e + size (value_at s e) + size_all (firsts (n - 1) (forest (drop (e + size (value_at s e)) s)))
      go zero h = absurd (omega arith)
      go (suc n) h = let p : suc n - 1 ≡ n = omega arith in rw (p, at_first.more) (omega arith)

  pub standing_tag : Tag s e
  standing_tag = record { even = r.even; inside = omega (arith, at_first.fits, at_first.two) }

  pub standing_next : Standing s (k - 1) (e + size (value_at s e))
  unfolding count
  standing_next =
      let n = ap count at_first.more in
      let q = r.some in
      record { even = omega (arith, r.even, even_size (value_at s e)); some = omega (arith, n) }

-- One more value.
pub hop_more : (s : List ℤ) (j e : ℕ) → Target s → Standing s (suc j) e → hops s (suc j) e ≡ hops s j e + size (value_at s (hops s j e))
hop_more s zero e g r =
    hop_one s 1 e g r (omega arith) ∙ sym (hop_none s 0 (e + size (value_at s e)) (omega arith)) ∙ ap (λ (x : ℕ). x + size (value_at s x)) (hop_none s 0 e (omega arith))
hop_more s (suc j) e g r =
    let x = standing_less s (suc (suc j)) (suc j) e r (omega arith) in
    let p : suc (suc j) - 1 ≡ suc j = omega arith in
    let q : suc j - 1 ≡ j = omega arith in
    let a = rw p at (hop_one s (suc (suc j)) e g r (omega arith)) in
    let b = rw q at (hop_one s (suc j) e g x (omega arith)) in
    a ∙ rw b (hop_more s j (e + size (value_at s e)) g (rw p at (standing_next s (suc (suc j)) e g r (omega arith))))
