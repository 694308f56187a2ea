-- The walk over a target's words finds what the rule of fit finds of the value. Assumes nothing.
use mathlib.Core.Path.{◌≡◌, refl, sym, ◌∙◌}
use mathlib.Core.Bool.{Bool, true, false, cond}
use mathlib.Core.List.{List, [], ◌∷◌, ◌++◌, append_assoc, append-nil}
use Prim.Native.Nat.{ℕ, zero, suc, ◌+◌, ◌≤◌}
use native.Mathlib.Omega.{arith}
use borrow.Author.Tests.{le-ltb, eqb-true}
use lib.Dec.{eqb}
use lib.ListN.{length, drop}
use lib.IntN.{ℤ, pos}
use Rattle.std.specs.Prelude.{Result, Ok, Err}
use Rattle.rules.specs.Forms.{Matcher, something, integer, list, multiset, tuple_of, Matchers, no_matchers, ◌▸ᵐ◌, countᵐ}
use Rattle.rules.specs.Forms.{Value, int, collection, tupled, Values, empty, ◌▸◌, count, words, words_all, size, size_all}
use Rattle.rules.specs.Reading.{Verdict, ok, fault, ◌then◌, read_matcher, read_target}
use Rattle.rules.specs.Variables.{demand}
use Rattle.rules.specs.Fit.{fits_all, fits_value, fits_each}
use Rattle.forms.specs.Written.{matcher_words, deepest, deepest_of, largest, largest_of, IsWidth, Widths, WidthsAll, Widthsᵐ, length_words}
use Rattle.forms.proofs.ReadTarget.{target_complete, target_read}
use Rattle.words.specs.Words.{tag_at}
use Rattle.test_forms.specs.Ends.{end_of, onward, within}
use Rattle.test_fit.specs.Shapes.{width_fits}
use Rattle.test_target.specs.Targets.{value_from}
use Rattle.test_unfit.specs.Unfit.{opens_at, under_tag, members_of, next_member, by_members, in_each, inside_from, fit_from}
use Rattle.test_forms.proofs.After.{after}
use Rattle.test_forms.proofs.Turns.{is_width}
use Rattle.test_fit.proofs.shapes.Standing.{At, AtAll, tag_of, tag_drop, after_words, at_whole, at_tag, at_end, at_list, at_multiset, at_width, at_parts, at_first, at_others}
use Rattle.test_unfit.proofs.Steps.{inside, by_tags}

module _ (s m : List ℤ) where
  -- The value v, or the values vs, stand at an index in the limits.
  Under : Value → ℕ → ℕ → List ℤ → Type 0
  Under v d at us = (drop at s ≡ words v ++ us) × (deepest v ≤ d) × (largest v ≤ 64) × Widths v

  UnderAll : Values → ℕ → ℕ → List ℤ → Type 0
  UnderAll vs d at us = (drop at s ≡ words_all vs ++ us) × (deepest_of vs ≤ d) × (largest_of vs ≤ 64) × WidthsAll vs

  Fitted : Value → Type 0
  Fitted v = (k : Matcher) (i d at : ℕ) (us : List ℤ) → At m i k → Under v d at us
      → fit_from s m d i at ≡ after Err (fits_value k v at) (λ _. Ok (at + size v))

  -- Elements under one matcher, t the tag of the list or multiset around it; and parts, each under its own.
  FittedAll : Values → Type 0
  FittedAll vs = (k : Matcher) (t i d at : ℕ) (us : List ℤ) → eqb t 4 ≡ false → At m i k → UnderAll vs d at us
      → in_each (fit_from s m d) (next_member m t) (count vs) i at ≡ after Err (fits_all (λ v e. fits_value k v e) vs at) (λ _. Ok (at + size_all vs))

  FittedEach : Values → Type 0
  FittedEach vs = (ks : Matchers) (i d at : ℕ) (us : List ℤ) → countᵐ ks ≡ count vs → AtAll m i ks → UnderAll vs d at us
      → in_each (fit_from s m d) (next_member m 4) (count vs) i at ≡ after Err (fits_each ks vs at) (λ _. Ok (at + size_all vs))

  value_at_lem : (v : Value) (d at : ℕ) (us : List ℤ) → Under v d at us → value_from s d at ≡ Ok (at + size v)
  unfolding Under value_from end_of
  value_at_lem v d at us u = rw (u.0, target_complete d v (u.1, u.2, u.3) at us, length_words v)

  -- ---- Going inside.

  module _ (d i at n : ℕ) (q : tag_at s (at + 1) ≡ n) where
    open_elements : (t : ℕ) → tag_at m i ≡ t → eqb t 4 ≡ false → n ≤ 64
        → inside s m (suc d) i at ≡ in_each (fit_from s m d) (next_member m t) n (i + 1) (at + 2)
    unfolding inside inside_from members_of by_members
    open_elements t p h l = rw (p, q, h, le-ltb 64 n l)

    module _ (k : ℕ) (p : tag_at m i ≡ 4) (r : tag_at m (i + 1) ≡ k) where
      open_parts : width_fits k n ≡ true → inside s m (suc d) i at ≡ in_each (fit_from s m d) (next_member m 4) n (i + 2) (at + 2)
      unfolding inside inside_from members_of by_members
      open_parts h = rw (p, q, r, h)

      no_parts : width_fits k n ≡ false → inside s m (suc d) i at ≡ Err at
      unfolding inside inside_from members_of by_members
      no_parts h = rw (p, q, r, h)

  -- Equal widths, or unequal ones.
  by_width : (vs : Values) (ks : Matchers) (d i at : ℕ) → tag_at s (at + 1) ≡ count vs → tag_at m i ≡ 4 → tag_at m (i + 1) ≡ countᵐ ks → IsWidth (countᵐ ks)
      → (countᵐ ks ≡ count vs → in_each (fit_from s m d) (next_member m 4) (count vs) (i + 2) (at + 2) ≡ after Err (fits_each ks vs (at + 2)) (λ _. Ok (at + 2 + size_all vs)))
      → inside s m (suc d) i at
      ≡ after Err (demand {A = Unit {0}} (eqb (countᵐ ks) (count vs)) at tt then λ _. fits_each ks vs (at + 2)) (λ _. Ok (at + 2 + size_all vs))
  unfolding width_fits demand ◌then◌ after
  by_width vs ks d i at n p r w g = go (eqb (countᵐ ks) (count vs)) refl
    where
      same : (c : Bool) → cond c true false ≡ c
      same true = refl
      same false = refl

      width : (b : Bool) → eqb (countᵐ ks) (count vs) ≡ b → width_fits (countᵐ ks) (count vs) ≡ b
      width b e = rw (is_width (countᵐ ks) w, e) (same b)

      go : (b : Bool) → eqb (countᵐ ks) (count vs) ≡ b → inside s m (suc d) i at
          ≡ after Err (demand {A = Unit {0}} b at tt then λ _. fits_each ks vs (at + 2)) (λ _. Ok (at + 2 + size_all vs))
      go true e = open_parts d i at (count vs) n (countᵐ ks) p r (width true e) ∙ g (eqb-true (countᵐ ks) (count vs) e)
      go false e = no_parts d i at (count vs) n (countᵐ ks) p r (width false e)

  -- The elements of a collection under a list or a multiset of k.
  elements : (vs : Values) → FittedAll vs → (k : Matcher) (t i d at : ℕ) (us : List ℤ) → Under (collection vs) d at us → eqb t 4 ≡ false → tag_at m i ≡ t
      → At m (i + 1) k → inside s m d i at ≡ after Err (fits_all (λ v e. fits_value k v e) vs (at + 2)) (λ _. Ok (at + size (collection vs)))
  unfolding Under UnderAll FittedAll words size deepest largest Widths
  elements vs f k t i zero at us u h q a = let l = u.1 in absurd (omega arith)
  elements vs f k t i (suc d) at us u h q a =
      let n : tag_at s (at + 1) ≡ count vs = tag_drop s at 1 (at + 1) (pos 1 ∷ pos (count vs) ∷ (words_all vs ++ us)) u.0 refl in
      let j : at + 2 + size_all vs ≡ at + (2 + size_all vs) = omega arith in
      let r : drop (at + 2) s ≡ words_all vs ++ us = after_words s at 2 (pos 1 ∷ pos (count vs) ∷ []) (words_all vs ++ us) u.0 refl in
      rw (← j)
      (open_elements d i at (count vs) n t q h (omega (arith, u.2))
      ∙ f k t (i + 1) d (at + 2) us h a (r, omega (arith, u.1), omega (arith, u.2), u.3))

  -- The parts of a tuple under the matchers ks.
  parts : (vs : Values) → FittedEach vs → (ks : Matchers) (i d at : ℕ) (us : List ℤ) → Under (tupled vs) d at us → At m i (tuple_of ks)
      → inside s m d i at
      ≡ after Err (demand {A = Unit {0}} (eqb (countᵐ ks) (count vs)) at tt then λ _. fits_each ks vs (at + 2)) (λ _. Ok (at + size (tupled vs)))
  unfolding Under UnderAll FittedEach words size deepest largest Widths Widthsᵐ tag_of
  parts vs f ks i zero at us u a = let l = u.1 in absurd (omega arith)
  parts vs f ks i (suc d) at us u a =
      let n : tag_at s (at + 1) ≡ count vs = tag_drop s at 1 (at + 1) (pos 2 ∷ pos (count vs) ∷ (words_all vs ++ us)) u.0 refl in
      let j : at + 2 + size_all vs ≡ at + (2 + size_all vs) = omega arith in
      let r : drop (at + 2) s ≡ words_all vs ++ us = after_words s at 2 (pos 2 ∷ pos (count vs) ∷ []) (words_all vs ++ us) u.0 refl in
      rw (← j)
      (by_width vs ks d i at n (at_tag m i (tuple_of ks) a) (at_width m i ks a) a.wide.0
      (λ e. f ks (i + 2) d (at + 2) us e (at_parts m i ks a) (r, omega (arith, u.1), omega (arith, u.2), u.3.1)))

  -- ---- By the matcher.

  module _ (i d at : ℕ) (us : List ℤ) where
    -- The tags of the matcher and of the value.
    by : (k : Matcher) → At m i k → (t : ℕ) → tag_at s at ≡ t → fit_from s m d i at ≡ under_tag (tag_of k) t (value_from s d at) (inside s m d i at) (Err at)
    by k a t e = by_tags s m d i at ∙ rw (at_tag m i k a, e)

    fitted_int : (x : ℤ) → Under (int x) d at us → (k : Matcher) → At m i k
        → fit_from s m d i at ≡ after Err (fits_value k (int x) at) (λ _. Ok (at + size (int x)))
    unfolding Under words fits_value after tag_of under_tag opens_at within
    fitted_int x u k a = by k a 0 (tag_drop s at 0 at (pos 0 ∷ x ∷ us) u.0 (omega arith)) ∙ go k
      where
        go : (k : Matcher) → under_tag (tag_of k) 0 (value_from s d at) (inside s m d i at) (Err at) ≡ after Err (fits_value k (int x) at) (λ _. Ok (at + size (int x)))
        go something = value_at_lem (int x) d at us u
        go integer = value_at_lem (int x) d at us u
        go (list k) = refl
        go (multiset k) = refl
        go (tuple_of ks) = refl

    fitted_all_lem : (vs : Values) → FittedAll vs → Under (collection vs) d at us → (k : Matcher) → At m i k
        → fit_from s m d i at ≡ after Err (fits_value k (collection vs) at) (λ _. Ok (at + size (collection vs)))
    unfolding Under words fits_value after tag_of under_tag opens_at within
    fitted_all_lem vs f u k a = by k a 1 (tag_drop s at 0 at (pos 1 ∷ pos (count vs) ∷ (words_all vs ++ us)) u.0 (omega arith)) ∙ go k a
      where
        go : (k : Matcher) → At m i k
            → under_tag (tag_of k) 1 (value_from s d at) (inside s m d i at) (Err at) ≡ after Err (fits_value k (collection vs) at) (λ _. Ok (at + size (collection vs)))
        go something a = value_at_lem (collection vs) d at us u
        go integer a = refl
        go (list k) a = elements vs f k 2 i d at us u refl (at_tag m i (list k) a) (at_list m i k a)
        go (multiset k) a = elements vs f k 3 i d at us u refl (at_tag m i (multiset k) a) (at_multiset m i k a)
        go (tuple_of ks) a = refl

    fitted_each_lem : (vs : Values) → FittedEach vs → Under (tupled vs) d at us → (k : Matcher) → At m i k
        → fit_from s m d i at ≡ after Err (fits_value k (tupled vs) at) (λ _. Ok (at + size (tupled vs)))
    unfolding Under words fits_value after tag_of under_tag opens_at within
    fitted_each_lem vs f u k a = by k a 2 (tag_drop s at 0 at (pos 2 ∷ pos (count vs) ∷ (words_all vs ++ us)) u.0 (omega arith)) ∙ go k a
      where
        go : (k : Matcher) → At m i k
            → under_tag (tag_of k) 2 (value_from s d at) (inside s m d i at) (Err at) ≡ after Err (fits_value k (tupled vs) at) (λ _. Ok (at + size (tupled vs)))
        go something a = value_at_lem (tupled vs) d at us u
        go integer a = refl
        go (list k) a = refl
        go (multiset k) a = refl
        go (tuple_of ks) a = parts vs f ks i d at us u a

  -- ---- One value, and those after it.

  first_of : (v : Value) (vs : Values) (d at : ℕ) (us : List ℤ) → UnderAll (v ▸ vs) d at us → Under v d at (words_all vs ++ us)
  unfolding Under UnderAll words_all deepest_of largest_of WidthsAll
  first_of v vs d at us u = (u.0 ∙ append_assoc (words v) (words_all vs) us, omega (arith, u.1), omega (arith, u.2), u.3.0)

  others_of_lem : (v : Value) (vs : Values) (d at : ℕ) (us : List ℤ) → UnderAll (v ▸ vs) d at us → UnderAll vs d (at + size v) us
  unfolding Under UnderAll deepest_of largest_of WidthsAll
  others_of_lem v vs d at us u = (
    after_words s at (size v) (words v) (words_all vs ++ us) (first_of v vs d at us u).0 (length_words v),
    omega (arith, u.1),
    omega (arith, u.2),
    u.3.1,
  )

  next : (v : Value) (vs : Values) (at : ℕ) (y : Verdict (Unit {0})) (f : ℕ → Result ℕ ℕ) (r : Verdict (Unit {0}))
      → f (at + size v) ≡ after Err r (λ _. Ok (at + size v + size_all vs))
      → onward (after Err y (λ _. Ok (at + size v))) f ≡ after Err (y then λ _. r) (λ _. Ok (at + (size v + size_all vs)))
  unfolding after onward ◌then◌
  next v vs at (ok x) f r p = let j : at + size v + size_all vs ≡ at + (size v + size_all vs) = omega arith in rw (← j) p
  next v vs at (fault i) f r p = refl

  more_all : (v : Value) (vs : Values) → Fitted v → FittedAll vs → FittedAll (v ▸ vs)
  unfolding Fitted FittedAll count in_each fits_all size_all next_member
  more_all v vs f g k t i d at us h a u =
      rw (h, f k i d at (words_all vs ++ us) a (first_of v vs d at us u))
      (next v vs at (fits_value k v at) _ (fits_all (λ v e. fits_value k v e) vs (at + size v)) (g k t i d (at + size v) us h a (others_of_lem v vs d at us u)))

  more_each : (v : Value) (vs : Values) → Fitted v → FittedEach vs → FittedEach (v ▸ vs)
  unfolding Fitted FittedEach count countᵐ in_each fits_each size_all next_member
  more_each v vs f g no_matchers i d at us c a u = absurd (omega arith)
  more_each v vs f g (k ▸ᵐ ks) i d at us c a u =
      rw (at_end m i k (at_first m i k ks a), f k i d at (words_all vs ++ us) (at_first m i k ks a) (first_of v vs d at us u))
      (next v vs at (fits_value k v at) _ (fits_each ks vs (at + size v))
      (g ks (i + length (matcher_words k)) d (at + size v) us (omega arith) (at_others m i k ks a) (others_of_lem v vs d at us u)))

  none_all : FittedAll empty
  unfolding FittedAll count in_each fits_all size_all after
  none_all k t i d at us h a u = let j : at + 0 ≡ at = omega arith in rw j

  none_each : FittedEach empty
  unfolding FittedEach count countᵐ in_each fits_each size_all after
  none_each no_matchers i d at us c a u = let j : at + 0 ≡ at = omega arith in rw j
  none_each (k ▸ᵐ ks) i d at us c a u = absurd (omega arith)

  mutual
    unfolding Fitted

    fitted : (v : Value) → Fitted v
    fitted (int x) k i d at us a u = fitted_int i d at us x u k a
    fitted (collection vs) k i d at us a u = fitted_all_lem i d at us vs (fitted_all vs) u k a
    fitted (tupled vs) k i d at us a u = fitted_each_lem i d at us vs (fitted_each vs) u k a

    fitted_all : (vs : Values) → FittedAll vs
    fitted_all empty = none_all
    fitted_all (v ▸ vs) = more_all v vs (λ k i d at us a u. fitted v k i d at us a u) (fitted_all vs)

    fitted_each : (vs : Values) → FittedEach vs
    fitted_each empty = none_each
    fitted_each (v ▸ vs) = more_each v vs (λ k i d at us a u. fitted v k i d at us a u) (fitted_each vs)

pub of_target_lem : (ms ts : List ℤ) (m : Matcher) (v : Value) → read_matcher ms ≡ ok m → read_target ts ≡ ok v
    → fit_from ts ms 8 0 0 ≡ after Err (fits_value m v 0) (λ _. Ok (0 + size v))
unfolding Fitted Under
of_target_lem ms ts m v e f =
    let g = (target_read ts v).0 f in
    fitted ts ms v m 0 8 0 [] (at_whole ms m e) (g.0 ∙ sym (append-nil (words v)), g.3, g.2, g.4)
