-- Laws of what specs/Bound.antt defines.
use Rattle.std.specs.Prelude.{ℕ, suc, ◌+◌, ◌*◌, ◌≤◌, ◌≡◌, Bool, true, false, cond, length}
use Rattle.std.proofs.Common.{arith, le_refl, le_trans, mul-le-mul_right, length-append}
use mathlib.Core.List.{List, [], ◌∷◌, ◌++◌, map, flat_map}
use Rattle.rules.specs.Forms.{Matcher, Matchers, no_matchers, ◌▸ᵐ◌}
use Rattle.rules.specs.Forms.{Pattern, wildcard, nil, variable, constant, value, cons, join, tuple, both, either, never, Patterns, no_patterns, ◌▸ᵖ◌}
use Rattle.rules.specs.Forms.{Value}
use Rattle.rules.specs.Origins.{Valueᵒ, intᵒ, collectionᵒ, tupledᵒ, Valuesᵒ, emptyᵒ, ◌▸ᵒ◌, Bindings, plain, plain_all, target}
use Rattle.rules.specs.Fit.{element, members, is_something}
use Rattle.rules.specs.Equality.{is_constant, is_value, is_empty}
use Rattle.rules.specs.Search.{Halves, cons_halves_in, join_halves, start}
use Rattle.rules.specs.Dialects.{Dialect}
use Rattle.rules.specs.Review.{cons_factor, factor, factor_all, summed, summed_all, formula}
use Rattle.forms.specs.Written.{largest}
use Rattle.promises.specs.Suited.{Suits, tuple_suits}
use Rattle.forms.specs.Lists.{Mem, length_flat_map_le}
use Rattle.promises.specs.FirstPlaces.{halves_some, some_member}
use Rattle.promises.specs.Trace.{found, Met, taken, ended, pass, only_if, inside, visit, visit_each, met, close, trace}
use Rattle.promises.specs.Bound.{Fine, FineEach, anew, choices_count, cons_fine, fine_target, horner, horner_each, join_count, join_fine}

leaf_cost : (b : Bool) (ts : List Met) (n : ℕ) → length ts ≤ n
    → suc (length {A = Met} (elim b as (λ _. List Met) [ true ↦ ts | false ↦ pass ∷ ts ])) ≤ cond b 1 2 + n
leaf_cost true ts n h = omega arith
leaf_cost false ts n h = omega arith

test_cost : (b : Bool) (ts : List Met) (n : ℕ) → length ts ≤ n → suc (length (only_if b ts)) ≤ 1 + n
unfolding only_if
test_cost true ts n h = omega arith
test_cost false ts n h = omega arith

both_cost : (f : Halves → List Met) (hs : List Halves) (a n : ℕ) → length hs ≤ a → ((h : Halves) → Mem h hs → length (f h) ≤ n)
    → suc (length (flat_map f hs)) ≤ 1 + a * n
both_cost f hs a n i j = omega (arith, length_flat_map_le f n hs j, mul-le-mul_right n i)

inside_cost : (ms ns : List Met) (a n : ℕ) → length ms ≤ a → length ns ≤ n → length (inside ms ns) ≤ a + n
unfolding inside
inside_cost [] ns a n h k = omega arith
inside_cost (taken t ∷ ms) ns a n h k = omega (arith, inside_cost ms ns (length ms) n (le_refl (length ms)) k)
inside_cost (ended ∷ ms) ns a n h k = omega arith

mutual
  unfolding visit horner largest Suits plain

  pub visit_cost : (dialect : Dialect) (cap gone : ℕ) (p : Pattern) (m : Matcher) (v : Valueᵒ) (e : Bindings) (k : Bindings → List Met) (n : ℕ)
      → Fine cap gone m (plain v) → ((d : Bindings) → length (k d) ≤ n) → length (visit dialect p m v e k) ≤ horner cap gone p m n
  visit_cost dialect cap gone wildcard m v e k n s h = leaf_cost (is_something m) (k e) n (h e)
  visit_cost dialect cap gone nil m v e k n s h = test_cost (is_empty (plain v)) (k e) n (h e)
  visit_cost dialect cap gone (variable x) m v e k n s h = leaf_cost (is_something m) (k (e ++ (v ∷ []))) n (h (e ++ (v ∷ [])))
  visit_cost dialect cap gone (constant c) m v e k n s h = test_cost (is_constant c (plain v)) (k e) n (h e)
  visit_cost dialect cap gone (value x c) m v e k n s h = test_cost (is_value m (map plain e) x c (plain v)) (k e) n (h e)
  visit_cost dialect cap gone (cons p q) m v e k n s h = both_cost _ (cons_halves_in dialect m v) (cons_factor cap gone m) _ (choices_count dialect cap gone m v s.left)
      (λ g i. let j = cons_fine cap gone m v s g (some_member (halves_some dialect m v) g i) in
      visit_cost dialect cap 0 p (element m) g.first e _ _ j.0 (λ d. visit_cost dialect cap (suc gone) q m g.second d k n j.1 h))
  visit_cost dialect cap gone (join p q) m v e k n s h = both_cost _ (join_halves v) (suc cap) _ (join_count cap v s.small)
      (λ g i. let j = join_fine cap gone m v s g i in
      visit_cost dialect cap 0 p m g.first e _ _ j.0 (λ d. visit_cost dialect cap 0 q m g.second d k n j.1 h))
  visit_cost dialect cap gone (tuple ps) m (intᵒ o x) e k n s h = omega arith
  visit_cost dialect cap gone (tuple ps) m (collectionᵒ o vs) e k n s h = omega arith
  visit_cost dialect cap gone (tuple ps) m (tupledᵒ o vs) e k n s h =
      omega (arith, visit_each_cost dialect cap ps (members m) vs e k n (tuple_suits m (plain_all vs) s.suits, s.small) h)
  visit_cost dialect cap gone (both p q) m v e k n s h = omega (arith, visit_cost dialect cap gone p m v e (λ d. visit dialect q m v d k) (horner cap gone q m n) s (λ d. visit_cost dialect cap gone q m v d k n s h))
  visit_cost dialect cap gone (either p q) m v e k n s h =
      omega (arith, length-append (visit dialect p m v e k) (visit dialect q m v e k), visit_cost dialect cap gone p m v e k n s h, visit_cost dialect cap gone q m v e k n s h)
  visit_cost dialect cap gone (never p) m v e k n s h = omega (
    arith,
    inside_cost (visit dialect p m v e (λ d. ended ∷ [])) (k e) (horner cap gone p m 1) n
        (visit_cost dialect cap gone p m v e (λ d. ended ∷ []) 1 s (λ d. omega arith)) (h e),
  )

  visit_each_cost : (dialect : Dialect) (cap : ℕ) (ps : Patterns) (ms : Matchers) (vs : Valuesᵒ) (e : Bindings) (k : Bindings → List Met) (n : ℕ)
      → FineEach cap ms (plain_all vs) → ((d : Bindings) → length (k d) ≤ n) → length (visit_each dialect ps ms vs e k) ≤ horner_each cap ps ms n
  visit_each_cost dialect cap no_patterns ms vs e k n s h = h e
  visit_each_cost dialect cap (p ▸ᵖ ps) no_matchers vs e k n s h = h e
  visit_each_cost dialect cap (p ▸ᵖ ps) (m ▸ᵐ ms) emptyᵒ e k n s h = absurd s.0
  visit_each_cost dialect cap (p ▸ᵖ ps) (m ▸ᵐ ms) (v ▸ᵒ vs) e k n s h =
      visit_cost dialect cap 0 p m v e _ _ (anew cap m (plain v) s.0.0 (omega (arith, s.1))) (λ d. visit_each_cost dialect cap ps ms vs d k n (s.0.1, omega (arith, s.1)) h)

-- ---- Review's formula is that cost.

mutual
  unfolding horner summed factor

  horner_summed : (cap gone : ℕ) (p : Pattern) (m : Matcher) (a k : ℕ) → a * horner cap gone p m k ≡ summed cap gone p m a + a * factor cap gone p m * k
  horner_summed cap gone wildcard m a k = omega arith
  horner_summed cap gone nil m a k = omega arith
  horner_summed cap gone (variable x) m a k = omega arith
  horner_summed cap gone (constant c) m a k = omega arith
  horner_summed cap gone (value x c) m a k = omega arith
  horner_summed cap gone (cons p q) m a k = omega (
    arith,
    horner_summed cap 0 p (element m) (a * cons_factor cap gone m) (horner cap (suc gone) q m k),
    horner_summed cap (suc gone) q m (a * cons_factor cap gone m * factor cap 0 p (element m)) k,
  )
  horner_summed cap gone (join p q) m a k =
      omega (arith, horner_summed cap 0 p m (a * suc cap) (horner cap 0 q m k), horner_summed cap 0 q m (a * suc cap * factor cap 0 p m) k)
  horner_summed cap gone (tuple ps) m a k = omega (arith, horner_summed_each cap ps (members m) a k)
  horner_summed cap gone (both p q) m a k =
      omega (arith, horner_summed cap gone p m a (horner cap gone q m k), horner_summed cap gone q m (a * factor cap gone p m) k)
  horner_summed cap gone (either p q) m a k = omega (arith, horner_summed cap gone p m a k, horner_summed cap gone q m a k)
  horner_summed cap gone (never p) m a k = omega (arith, horner_summed cap gone p m a 1)

  horner_summed_each : (cap : ℕ) (ps : Patterns) (ms : Matchers) (a k : ℕ)
      → a * horner_each cap ps ms k ≡ summed_all cap ps ms a + a * factor_all cap ps ms * k
  horner_summed_each cap no_patterns ms a k = omega arith
  horner_summed_each cap (p ▸ᵖ ps) no_matchers a k = omega arith
  horner_summed_each cap (p ▸ᵖ ps) (m ▸ᵐ ms) a k =
      omega (arith, horner_summed cap 0 p m a (horner_each cap ps ms k), horner_summed_each cap ps ms (a * factor cap 0 p m) k)

pub horner_formula : (cap : ℕ) (p : Pattern) (m : Matcher) → horner cap 0 p m 1 ≡ formula cap p m
unfolding formula
horner_formula cap p m = omega (arith, horner_summed cap 0 p m 1 1)

close_cost : (ms : List Met) → length (close ms) ≤ length ms
unfolding close
close_cost [] = omega arith
close_cost (taken t ∷ ms) = omega (arith, close_cost ms)
close_cost (ended ∷ ms) = omega arith

-- THE BOUND: the whole search has at cap as many states as review says.
pub steps_bound : (dialect : Dialect) (cap : ℕ) (m : Matcher) (p : Pattern) (v : Value) → Fine cap 0 m v → length (trace dialect (start m p v ∷ [])) ≤ formula cap p m
unfolding trace met start
steps_bound dialect cap m p v s = rw (← horner_formula cap p m) (le_trans (close_cost (visit dialect p m (target v) [] (λ d. taken (found d) ∷ [])))
    (visit_cost dialect cap 0 p m (target v) [] (λ d. taken (found d) ∷ []) 1 (fine_target cap m v s) (λ d. omega arith)))
