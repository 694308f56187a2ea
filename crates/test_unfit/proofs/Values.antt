-- What fits is a value: where test 6 comes to an end, test 5 comes to the same. Assumes nothing.
use mathlib.Core.Path.{◌≡◌, refl, sym, ap, ◌∙◌}
use mathlib.Core.Bool.{Bool, true, false, cond}
use mathlib.Core.List.{List}
use Prim.Native.Nat.{ℕ, zero, suc, ◌+◌, ◌-◌, ◌≤◌}
use native.Mathlib.Omega.{arith}
use borrow.Author.Tests.{ltb-false, le-leb, eqb-true}
use lib.Dec.{eqb, ltb, leb}
use lib.IntN.{ℤ}
use Rattle.std.specs.Prelude.{Option, Some, None, Result, Ok, Err}
use Rattle.words.specs.Words.{tag_at}
use Rattle.test_forms.specs.Ends.{in_row, onward, within}
use Rattle.test_fit.specs.Shapes.{width_fits}
use Rattle.test_target.specs.Targets.{count_fits, value_from}
use Rattle.test_target.proofs.Values.{row}
use Rattle.test_unfit.specs.Unfit.{opens_at, under_tag, members_of, next_member, by_members, in_each, inside_from, fit_from}
use Rattle.test_unfit.proofs.Steps.{inside, by_tags}

not_end : (i e : ℕ) {A : Type 0} → Err i ≡ Ok e → A
not_end i e q = let z : ◌≡◌ {A = ℕ} 0 1 = cc in absurd (omega arith)

-- So many elements or parts as a matcher goes into are so many as a value may have.
module _ (m : List ℤ) (i k t n j : ℕ) where
  wide_counts : (w : ℕ) (b : Bool) → eqb w n ≡ b → cond b (within 2 w 4) false ≡ true → within 2 n 4 ≡ true
  wide_counts w true e h = rw (← eqb-true w n e) h
  wide_counts w false e h = let z : ◌≡◌ {A = ℕ} 0 1 = cc in absurd (omega arith)

  opened_counts : opens_at k t ≡ true → members_of m i k n ≡ Some j → (1 ≤ t) × (t ≤ 2) × (count_fits t n ≡ true)
  unfolding opens_at members_of width_fits count_fits
  opened_counts = go (eqb k 4)
    where
      tuple : (b : Bool) → eqb t 2 ≡ b → b ≡ true → (c : Bool) → cond (eqb (tag_at m (i + 1)) n) (within 2 (tag_at m (i + 1)) 4) false ≡ c → cond c (Some (i + 2)) None ≡ Some j
          → (1 ≤ t) × (t ≤ 2) × (cond (eqb t 1) (leb n 64) (within 2 n 4) ≡ true)
      tuple true e h true w q = let x = eqb-true t 2 e in (omega arith, omega arith, rw x (wide_counts (tag_at m (i + 1)) (eqb (tag_at m (i + 1)) n) refl w))
      tuple true e h false w q = let z : ◌≡◌ {A = ℕ} 0 1 = cc in absurd (omega arith)
      tuple false e h c w q = let z : ◌≡◌ {A = ℕ} 0 1 = cc in absurd (omega arith)

      elements : (b : Bool) → eqb t 1 ≡ b → b ≡ true → (c : Bool) → ltb 64 n ≡ c → cond c None (Some (i + 1)) ≡ Some j → (1 ≤ t) × (t ≤ 2) × (cond (eqb t 1) (leb n 64) (within 2 n 4) ≡ true)
      elements true e h false l q = let x = eqb-true t 1 e in (omega arith, omega arith, rw x (le-leb n 64 (ltb-false 64 n l)))
      elements true e h true l q = let z : ◌≡◌ {A = ℕ} 0 1 = cc in absurd (omega arith)
      elements false e h c l q = let z : ◌≡◌ {A = ℕ} 0 1 = cc in absurd (omega arith)

      listed : (b : Bool) → cond b (eqb t 1) false ≡ true → cond (ltb 64 n) None (Some (i + 1)) ≡ Some j → (1 ≤ t) × (t ≤ 2) × (cond (eqb t 1) (leb n 64) (within 2 n 4) ≡ true)
      listed true h q = elements (eqb t 1) refl h (ltb 64 n) refl q
      listed false h q = let z : ◌≡◌ {A = ℕ} 0 1 = cc in absurd (omega arith)

      go : (b : Bool) → cond b (eqb t 2) (cond (within 2 k 3) (eqb t 1) false) ≡ true
          → cond b (cond (cond (eqb (tag_at m (i + 1)) n) (within 2 (tag_at m (i + 1)) 4) false) (Some (i + 2)) None) (cond (ltb 64 n) None (Some (i + 1))) ≡ Some j
          → (1 ≤ t) × (t ≤ 2) × (cond (eqb t 1) (leb n 64) (within 2 n 4) ≡ true)
      go true h q = tuple (eqb t 2) refl h _ refl q
      go false h q = listed (within 2 k 3) h q

-- By the tags: the value itself, or what is inside.
under_end : (k t at e : ℕ) (v w : Result ℕ ℕ) → (opens_at k t ≡ true → w ≡ Ok e → v ≡ Ok e) → under_tag k t v w (Err at) ≡ Ok e → v ≡ Ok e
unfolding under_tag
under_end k t at e v w f = go (eqb k 0) (eqb k 1) (eqb t 0) (opens_at k t) refl
  where
    go : (a b c d : Bool) → opens_at k t ≡ d → cond a v (cond b (cond c v (Err at)) (cond d w (Err at))) ≡ Ok e → v ≡ Ok e
    go true b c d o q = q
    go false true true d o q = q
    go false true false d o q = not_end at e q
    go false false c true o q = f o q
    go false false c false o q = not_end at e q

module _ (s m : List ℤ) where
  abbrev pub Reads : ℕ → Type 0
  Reads d = (i at e : ℕ) → fit_from s m d i at ≡ Ok e → value_from s d at ≡ Ok e

  each_reads : (d : ℕ) → Reads d → (next : ℕ → ℕ) (n j at e : ℕ) → in_each (fit_from s m d) next n j at ≡ Ok e → in_row (value_from s d) n at ≡ Ok e
  unfolding in_each in_row onward
  each_reads d h next zero j at e q = q
  each_reads d h next (suc n) j at e q = go (fit_from s m d j at) refl q (λ x. each_reads d h next n (next j) x e)
    where
      go : (r : Result ℕ ℕ) → fit_from s m d j at ≡ r → onward r (in_each (fit_from s m d) next n (next j)) ≡ Ok e
          → ((x : ℕ) → in_each (fit_from s m d) next n (next j) x ≡ Ok e → in_row (value_from s d) n x ≡ Ok e) → onward (value_from s d at) (in_row (value_from s d) n) ≡ Ok e
      go (Ok x) p z k = rw (h j at x p) (k x z)
      go (Err x) p z k = not_end x e z

  inside_reads : (d i at e : ℕ) → ((c : ℕ) → d ≡ suc c → Reads c) → opens_at (tag_at m i) (tag_at s at) ≡ true → inside s m d i at ≡ Ok e → value_from s d at ≡ Ok e
  unfolding inside inside_from by_members
  inside_reads zero i at e h o q = not_end at e q
  inside_reads (suc d) i at e h o q = go (members_of m i (tag_at m i) (tag_at s (at + 1))) refl q
    where
      go : (a : Option ℕ) → members_of m i (tag_at m i) (tag_at s (at + 1)) ≡ a
          → by_members a (Err at) (λ j. in_each (λ j e. fit_from s m d j e) (next_member m (tag_at m i)) (tag_at s (at + 1)) j (at + 2)) ≡ Ok e → value_from s (suc d) at ≡ Ok e
      go None p z = not_end at e z
      go (Some j) p z =
          let c = opened_counts m i (tag_at m i) (tag_at s at) (tag_at s (at + 1)) j o p in
          let l : suc d - 1 ≡ d = omega arith in
          row s at (tag_at s at) refl (tag_at s (at + 1)) refl c.0 c.1 (suc d) (λ y. omega arith) c.2
          ∙ ap (λ x. in_row (value_from s x) (tag_at s (at + 1)) (at + 2)) l
          ∙ each_reads d (h d refl) (next_member m (tag_at m i)) (tag_at s (at + 1)) j (at + 2) e z

  pub fit_reads : (d : ℕ) → Reads d
  fit_reads zero i at e q = under_end (tag_at m i) (tag_at s at) at e (value_from s 0 at) (inside s m 0 i at) (λ o. inside_reads 0 i at e (λ c p. absurd (omega arith)) o) (sym (by_tags s m 0 i at) ∙ q)
  fit_reads (suc d) i at e q =
      under_end (tag_at m i) (tag_at s at) at e (value_from s (suc d) at) (inside s m (suc d) i at)
      (λ o. inside_reads (suc d) i at e (λ c p. let z : d ≡ c = omega arith in rw (← z) (fit_reads d)) o) (sym (by_tags s m (suc d) i at) ∙ q)
