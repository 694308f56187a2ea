-- The solutions stand in dictionary order of their ways.
use Rattle.std.specs.Prelude.{ℕ, ◌<◌, ◌≡◌, refl, ◌⊎◌, Bool}
use Rattle.std.proofs.Common.{zero-le, suc-le-suc, subst, inl, inr}
use Rattle.std.proofs.Math.Path.{ap, subst₂}
use Rattle.std.proofs.Math.Bool.{true, false}
use mathlib.Core.List.Memᴰ
use mathlib.Core.List.{List, [], ◌∷◌, ◌++◌, map}
use Rattle.rules.specs.Dialects.{Dialect, every_place, first_places}
use Rattle.rules.specs.Forms.{Matcher, something, integer, list, multiset, tuple_of, Matchers, no_matchers, ◌▸ᵐ◌}
use Rattle.rules.specs.Forms.{Pattern, wildcard, nil, variable, constant, value, cons, join, tuple, both, either, never, Patterns, no_patterns, ◌▸ᵖ◌}
use Rattle.rules.specs.Origins.{Valueᵒ, intᵒ, collectionᵒ, tupledᵒ, Valuesᵒ, emptyᵒ, ◌▸ᵒ◌, Bindings, plain}
use Rattle.rules.specs.Fit.{element, members}
use Rattle.rules.specs.Equality.{is_constant, is_value, is_empty}
use Rattle.rules.specs.Search.{Halves, cons_halves, cons_halves_in, join_halves}
use Rattle.rules.specs.Ways.{Way, ◌≺◌}
use Rattle.forms.specs.Lists.{Mem, Pairwise, pairwise_append, pairwise_weaken, pairwise_map, pairwise_flat_map}
use Rattle.rules.specs.Following.{Solution, Numbered, up, numbered, is_multiset, mark, extend, chain, on_side, combine, just, when_so, no_solution, solve, solve_each}
use Rattle.promises.specs.Twin.{of_chain}

-- Two ways of one pattern differ at some choice, so neither is the other's beginning.

infix 50 ◌≪◌
abbrev pub ◌≪◌ : Way → Way → Type 0
[] ≪ w = ⊥
(a ∷ u) ≪ [] = ⊥
(a ∷ u) ≪ (b ∷ w) = (a < b) ⊎ ((a ≡ b) × (u ≪ w))

≪_≺ : (u w : Way) → u ≪ w → u ≺ w
unfolding ◌≺◌
≪_≺ [] w h = absurd h
≪_≺ (a ∷ u) [] h = absurd h
≪_≺ (a ∷ u) (b ∷ w) (inl h) = inl h
≪_≺ (a ∷ u) (b ∷ w) (inr h) = inr (h.0, ≪_≺ u w h.1)

≪_append : (u w x y : Way) → u ≪ w → (u ++ x) ≪ (w ++ y)
≪_append [] w x y h = absurd h
≪_append (a ∷ u) [] x y h = absurd h
≪_append (a ∷ u) (b ∷ w) x y (inl h) = inl h
≪_append (a ∷ u) (b ∷ w) x y (inr h) = inr (h.0, ≪_append u w x y h.1)

append_≪ : (u x y : Way) → x ≪ y → (u ++ x) ≪ (u ++ y)
append_≪ [] x y h = h
append_≪ (a ∷ u) x y h = inr (refl, append_≪ u x y h)

abbrev pub Earlier : Solution → Solution → Type 0
Earlier s t = s.way ≪ t.way

numbered_up : (hs : List Halves) → Pairwise (λ c d. c.no < d.no) (numbered hs)
unfolding numbered up
numbered_up [] = tt
numbered_up (h ∷ hs) = (
  λ d m. let r = Memᴰ.of_map up (numbered hs) m in subst (λ (x : Numbered). 0 < x.no) r.2 (suc-le-suc zero-le),
  pairwise_map (λ c d. c.no < d.no) (λ c d. c.no < d.no) up (numbered hs) (λ x y h. suc-le-suc h) (numbered_up hs),
)

-- Where there is no choice there is at most one state.
abbrev Fine : Bool → List Halves → Type 0
Fine true hs = Unit {0}
Fine false [] = Unit {0}
Fine false (h ∷ []) = Unit {0}
Fine false (h ∷ g ∷ hs) = ⊥

fine_one : (m : Matcher) (v : Valueᵒ) → Fine (is_multiset m) (cons_halves m v)
unfolding is_multiset cons_halves
fine_one something v = tt
fine_one integer v = tt
fine_one (list m) (intᵒ o x) = tt
fine_one (list m) (collectionᵒ o emptyᵒ) = tt
fine_one (list m) (collectionᵒ o (v ▸ᵒ vs)) = tt
fine_one (list m) (tupledᵒ o vs) = tt
fine_one (multiset m) v = tt
fine_one (tuple_of ms) v = tt

fine_two : (m : Matcher) (v : Valueᵒ) → Fine (is_multiset m) (cons_halves_in first_places m v)
unfolding is_multiset cons_halves cons_halves_in
fine_two something v = tt
fine_two integer v = tt
fine_two (list m) (intᵒ o x) = tt
fine_two (list m) (collectionᵒ o emptyᵒ) = tt
fine_two (list m) (collectionᵒ o (v ▸ᵒ vs)) = tt
fine_two (list m) (tupledᵒ o vs) = tt
fine_two (multiset m) v = tt
fine_two (tuple_of ms) v = tt

cons_fine : (dialect : Dialect) (m : Matcher) (v : Valueᵒ) → Fine (is_multiset m) (cons_halves_in dialect m v)
unfolding cons_halves_in
cons_fine every_place m v = fine_one m v
cons_fine first_places m v = fine_two m v

chain_in_order : (w : Way) (ss : List Solution) (g : Bindings → List Solution) → Pairwise Earlier ss → ((d : Bindings) → Pairwise Earlier (g d))
    → Pairwise Earlier (chain w ss g)
unfolding chain extend
chain_in_order w ss g hs hg = pairwise_flat_map Earlier Earlier _ ss hs
    (λ s. pairwise_map Earlier Earlier (extend w s) (g s.bound) (λ t r h. append_≪ w _ _ (append_≪ s.way _ _ h)) (hg s.bound))
    (λ s r h x y m n.
    let i = Memᴰ.of_map (extend w s) (g s.bound) m in
    let j = Memᴰ.of_map (extend w r) (g r.bound) n in
    subst₂ Earlier i.2 j.2 (append_≪ w _ _ (≪_append s.way r.way _ _ h)))

module _ (f : Valueᵒ → List Solution) (g : Valueᵒ → Bindings → List Solution)
    (hf : (a : Valueᵒ) → Pairwise Earlier (f a)) (hg : (a : Valueᵒ) (d : Bindings) → Pairwise Earlier (g a d)) where
  -- The solutions after one choice.
  abbrev under : Bool → Numbered → List Solution
  under b c = chain (mark b c.no) (f c.halves.first) (g c.halves.second)

  under_in_order : (b : Bool) (c : Numbered) → Pairwise Earlier (under b c)
  under_in_order b c = chain_in_order (mark b c.no) (f c.halves.first) (g c.halves.second) (hf c.halves.first) (hg c.halves.second)

  -- A solution under a numbered choice begins with that number.
  begins : (c : Numbered) (x : Solution) → Mem x (under true c) → (w : Way) × (c.no ∷ w ≡ x.way)
  unfolding extend mark
  begins c x m =
      let i = of_chain (mark true c.no) (f c.halves.first) (g c.halves.second) x m in
      (i.0.way ++ i.1.way, ap (λ (z : Solution). z.way) i.4)

  in_order_lem : (b : Bool) (hs : List Halves) → Fine b hs → Pairwise Earlier (combine b f g hs)
  unfolding combine
  in_order_lem true hs fine = pairwise_flat_map (λ c d. c.no < d.no) Earlier (under true) (numbered hs) (numbered_up hs) (under_in_order true)
      (λ c d h x y m n. let i = begins c x m in let j = begins d y n in subst₂ ◌≪◌ i.1 j.1 (inl h))
  in_order_lem false [] fine = tt
  in_order_lem false (h ∷ []) fine = pairwise_flat_map (λ c d. ⊥) Earlier (under false) (numbered (h ∷ [])) ((λ d m. Memᴰ.not-nil m), tt) (under_in_order false)
      (λ c d h x y m n. absurd h)
  in_order_lem false (h ∷ k ∷ hs) fine = absurd fine

-- The sides of an or: the first before the second.
side_in_order : (k : ℕ) (ss : List Solution) → Pairwise Earlier ss → Pairwise Earlier (map (on_side k) ss)
unfolding on_side
side_in_order k ss h = pairwise_map Earlier Earlier (on_side k) ss (λ s t l. inr (refl, l)) h

sides_in_order : (ss ts : List Solution) → Pairwise Earlier ss → Pairwise Earlier ts → Pairwise Earlier (map (on_side 0) ss ++ map (on_side 1) ts)
unfolding on_side
sides_in_order ss ts h k = pairwise_append Earlier (map (on_side 0) ss) (map (on_side 1) ts) (side_in_order 0 ss h) (side_in_order 1 ts k)
    (λ x y m n. let i = Memᴰ.of_map (on_side 0) ss m in let j = Memᴰ.of_map (on_side 1) ts n in
    subst₂ Earlier i.2 j.2 (inl (suc-le-suc zero-le)))

single : (e : Bindings) → Pairwise Earlier (just e)
unfolding just
single e = ((λ y m. absurd (Memᴰ.not-nil m)), tt)

single_or_none : (b : Bool) (e : Bindings) → Pairwise Earlier (when_so b e)
unfolding when_so
single_or_none true e = single e
single_or_none false e = tt

mutual
  unfolding solve

  pub solve_in_order : (dialect : Dialect) (p : Pattern) (m : Matcher) (v : Valueᵒ) (e : Bindings) → Pairwise Earlier (solve dialect p m v e)
  solve_in_order dialect wildcard m v e = single e
  solve_in_order dialect nil m v e = single_or_none (is_empty (plain v)) e
  solve_in_order dialect (variable x) m v e = single (e ++ (v ∷ []))
  solve_in_order dialect (constant c) m v e = single_or_none (is_constant c (plain v)) e
  solve_in_order dialect (value x c) m v e = single_or_none (is_value m (map plain e) x c (plain v)) e
  solve_in_order dialect (cons p q) m v e =
      in_order_lem (λ a. solve dialect p (element m) a e) (λ a d. solve dialect q m a d) (λ a. solve_in_order dialect p (element m) a e) (λ a d. solve_in_order dialect q m a d) (is_multiset m) (cons_halves_in dialect m v) (cons_fine dialect m v)
  solve_in_order dialect (join p q) m v e =
      in_order_lem (λ a. solve dialect p m a e) (λ a d. solve dialect q m a d) (λ a. solve_in_order dialect p m a e) (λ a d. solve_in_order dialect q m a d) true (join_halves v) tt
  solve_in_order dialect (tuple ps) m (intᵒ o x) e = tt
  solve_in_order dialect (tuple ps) m (collectionᵒ o vs) e = tt
  solve_in_order dialect (tuple ps) m (tupledᵒ o vs) e = each_in_order dialect ps (members m) vs e
  solve_in_order dialect (both p q) m v e =
      chain_in_order [] (solve dialect p m v e) (λ d. solve dialect q m v d) (solve_in_order dialect p m v e) (λ d. solve_in_order dialect q m v d)
  solve_in_order dialect (either p q) m v e = sides_in_order (solve dialect p m v e) (solve dialect q m v e) (solve_in_order dialect p m v e) (solve_in_order dialect q m v e)
  solve_in_order dialect (never p) m v e = single_or_none (no_solution (solve dialect p m v e)) e

  each_in_order : (dialect : Dialect) (ps : Patterns) (ms : Matchers) (vs : Valuesᵒ) (e : Bindings) → Pairwise Earlier (solve_each dialect ps ms vs e)
  each_in_order dialect no_patterns ms vs e = single e
  each_in_order dialect (p ▸ᵖ ps) no_matchers vs e = single e
  each_in_order dialect (p ▸ᵖ ps) (m ▸ᵐ ms) emptyᵒ e = single e
  each_in_order dialect (p ▸ᵖ ps) (m ▸ᵐ ms) (v ▸ᵒ vs) e =
      chain_in_order [] (solve dialect p m v e) (λ d. solve_each dialect ps ms vs d) (solve_in_order dialect p m v e) (λ d. each_in_order dialect ps ms vs d)

-- Each way once, the smaller first.
pub solve_increasing : (dialect : Dialect) (p : Pattern) (m : Matcher) (v : Valueᵒ) (e : Bindings) → Pairwise (λ s t. s.way ≺ t.way) (solve dialect p m v e)
solve_increasing dialect p m v e = pairwise_weaken Earlier (λ s t. s.way ≺ t.way) (solve dialect p m v e) (λ s t. ≪_≺ s.way t.way) (solve_in_order dialect p m v e)
