-- Readers that go along the words of one slice; forms in a row, and a count before them. Assumes nothing.
use mathlib.Core.Path.{◌≡◌, refl, sym, ◌∙◌, ap}
use mathlib.Core.Bool.{Bool, true, false, cond, ◌&&◌}
use mathlib.Core.Option.{Option, none, some}
use mathlib.Core.List.{List, [], ◌∷◌}
use Prim.Native.Nat.{ℕ, zero, suc, ◌+◌}
use borrow.Author.Tests.{le-leb, lt-leb, ltb-true, ltb-false}
use lib.Dec.{leb, ltb}
use lib.ListN.{length, drop}
use lib.Seq.{drop-nil, drop-drop, drop-append_seam}
use lib.IntN.{ℤ, pos, negsuc}
use Rattle.std.specs.Prelude.{Err}
use Rattle.rules.specs.Reading.{Verdict, ok, fault, ◌then◌, Got, Reader, give, ◌>>=◌, known, times, width}
use Rattle.forms.specs.Readers.{got, Sound, Complete}
use Rattle.words.specs.Words.{tag_z, tag_at}
use Rattle.test_forms.specs.Ends.{end_of, onward, in_row, within}
use Rattle.test_forms.proofs.Known.{meant, known_word}

unfoldable pub Along : List ℤ → {A : Type 0} → Reader A → Type 0
Along s {A} r = (at : ℕ) (g : Got A) → r at (drop at s) ≡ ok g → g.rest ≡ drop g.next s

-- A reader that takes exactly the words that a form writes out goes along.
pub along : (s : List ℤ) {A : Type 0} (r : Reader A) (W : A → List ℤ) (O : A → Type 0) → Sound r W O → Complete r W O → Along s r
unfolding Along Sound Complete
along s {A} r W O sound complete at g e =
    let t = sound at (drop at s) g e in
    let c = complete g.it t.1 at g.rest in
    let q : ok g ≡ ok (got g.it (at + length (W g.it)) g.rest) = sym (rw t.0 at e) ∙ c in
    let r : g ≡ got g.it (at + length (W g.it)) g.rest = cc in
    let n : g.next ≡ at + length (W g.it) = ap (λ (x : Got A). x.next) r in
    sym (ap (λ (k : ℕ). drop k s) n ∙ sym (drop-drop (length (W g.it)) at s) ∙ ap (drop (length (W g.it))) t.0
    ∙ drop-append_seam (W g.it) g.rest)

-- What was made of the forms does not matter to their end.
pub made : {A B : Type 0} (f : A → B) (y : Verdict (Got A)) → end_of (y then λ k. give (f k.it) k.next k.rest) ≡ end_of y
unfolding end_of ◌then◌ give
made f (ok k) = refl
made f (fault i) = refl

module _ {A As : Type 0} (no : As) (more : A → As → As) (part : Reader A) (s : List ℤ) (a : Along s part) where
  -- n forms in a row end where the last of them ends.
  row : (n at : ℕ) → end_of (times no more part n at (drop at s)) ≡ in_row (λ i. end_of (part i (drop i s))) n at
  unfolding times in_row end_of onward ◌>>=◌ ◌then◌ give Along
  row zero at = refl
  row (suc n) at = go (row n) (part at (drop at s)) refl
    where
      go : ((e : ℕ) → end_of (times no more part n e (drop e s)) ≡ in_row (λ i. end_of (part i (drop i s))) n e) → (x : Verdict (Got A)) → part at (drop at s) ≡ x
          → end_of (x then λ g. times no more part n g.next g.rest then λ k. give (more g.it k.it) k.next k.rest)
          ≡ onward (end_of x) (in_row (λ i. end_of (part i (drop i s))) n)
      go f (fault i) e = refl
      go f (ok g) e = rw (a at g e) (made (more g.it) (times no more part n g.next (drop g.next s)) ∙ f g.next)

-- ---- A count, by its tag.

-- The numbers that a test takes; a word that is not there has none of them.
pub record Takes (number : ℤ → Option ℕ) (fits : ℕ → Bool) : Type 0 where
  pub by_tag : (w : ℤ) → number w ≡ cond (fits (tag_z w)) (some (tag_z w)) none
  pub not_past : fits 2147483648 ≡ false

pub chosen : (b : Bool) (n : ℕ) → elim b as (λ _. Option ℕ) [ true ↦ some n | false ↦ none ] ≡ cond b (some n) none
chosen true n = refl
chosen false n = refl

pub width_within : (n : ℕ) → (leb 2 n && leb n 4) ≡ within 2 n 4
unfolding within
width_within n = go (ltb n 2) refl
  where
    go : (b : Bool) → ltb n 2 ≡ b → (leb 2 n && leb n 4) ≡ cond b false (leb n 4)
    go true e = let h = ltb-true n 2 e in rw (lt-leb 2 n h)
    go false e = let h = ltb-false n 2 e in rw (le-leb 2 n h)

pub width_takes : Takes width (λ n. within 2 n 4)
unfolding width within
width_takes = record { by_tag = each; not_past = refl }
  where
    each : (w : ℤ) → width w ≡ cond (within 2 (tag_z w) 4) (some (tag_z w)) none
    each (pos n) = rw (← width_within n) (chosen (leb 2 n && leb n 4) n)
    each (negsuc n) = refl

module _ (number : ℤ → Option ℕ) (fits : ℕ → Bool) (takes : Takes number fits) where
  count_from : (s : List ℤ) (at i : ℕ) → known number i (drop at s) ≡ meant i (drop (suc at) s) (cond (fits (tag_at s at)) (some (tag_at s at)) none)
  unfolding known meant tag_at
  count_from [] at i = rw (drop-nil at, takes.not_past)
  count_from (w ∷ ws) zero i = known_word number i w ws ∙ ap (meant i ws) (takes.by_tag w)
  count_from (w ∷ ws) (suc at) i = count_from ws at i

  module _ {A As : Type 0} (no : As) (more : A → As → As) (part : Reader A) (f : As → A) (s : List ℤ) (at n : ℕ) (e : n ≡ tag_at s at) where
    pub counted_bad : fits n ≡ false → end_of ((known number >>= λ k. times no more part k >>= λ l. give (f l)) at (drop at s)) ≡ Err at
    unfolding ◌>>=◌ ◌then◌ meant end_of
    counted_bad h = rw (count_from s at at, ← e, h)

    pub counted_row : Along s part → fits n ≡ true
        → end_of ((known number >>= λ k. times no more part k >>= λ l. give (f l)) at (drop at s)) ≡ in_row (λ i. end_of (part i (drop i s))) n (suc at)
    unfolding ◌>>=◌ ◌then◌ meant
    counted_row a h = rw (count_from s at at, ← e, h) (made f (times no more part n (suc at) (drop (suc at) s)) ∙ row no more part s a n (suc at))
