-- Review's count bounds the steps, and the product of the factors bounds the rows, where the value fits and no collection has more elements than the cap.
-- `gone` conses were taken from the collection that stands here, and so many elements are gone from it.
use Rattle.std.specs.Prelude.{ℕ, suc, ◌+◌, ◌*◌, ◌≤◌, ◌≡◌, refl, Bool, true, false, length}
use Rattle.std.proofs.Common.{arith, le_trans, mul-le-mul_right, sym, ap, ◌∙◌, subst, ⊎_elim, length-append}
use mathlib.Core.List.Memᴰ
use mathlib.Core.List.{List, [], ◌∷◌, map}
use Rattle.std.proofs.lemmas.List.{length-map}
use Rattle.rules.specs.Forms.{Matcher, something, integer, list, multiset, tuple_of, Matchers, no_matchers, ◌▸ᵐ◌}
use Rattle.rules.specs.Forms.{Pattern, wildcard, nil, variable, constant, value, cons, join, tuple, both, either, never, Patterns, no_patterns, ◌▸ᵖ◌}
use Rattle.rules.specs.Forms.{Value, int, collection, tupled, Values, count}
use Rattle.rules.specs.Origins.{Valueᵒ, intᵒ, collectionᵒ, tupledᵒ, Valuesᵒ, emptyᵒ, ◌▸ᵒ◌, Bindings, plain, plain_all, target}
use Rattle.rules.specs.Fit.{element, members}
use Rattle.rules.specs.Equality.{is_constant, is_value, is_empty}
use Rattle.rules.specs.Search.{Taking, takings, behind, cuts, longer, Halves, cons_halves, cons_halves_in, join_halves}
use Rattle.rules.specs.Dialects.{Dialect}
use Rattle.rules.specs.Ways.{Way}
use Rattle.rules.specs.Review.{leaf_steps, cons_factor, factor, factor_all}
use Rattle.forms.specs.Written.{largest, largest_of}
use Rattle.promises.specs.Parts.{cons_parts, join_parts, part_largest}
use Rattle.promises.specs.Suited.{Suits, SuitsEach, cons_suits, join_suits, tuple_suits}
use Rattle.forms.specs.Lists.{Mem, length_flat_map_le}
use Rattle.forms.specs.Origins.{plain_target}
use Rattle.rules.specs.Following.{Solution, up, numbered, is_multiset, mark, chain, on_side, combine, just, when_so, no_solution, solve, solve_each}
use Rattle.promises.specs.Choices.{in_numbered}
use Rattle.promises.specs.FirstPlaces.{halves_some, some_length, some_member}

-- ---- A cons or a join has no more choices than its factor says.

length_takings : (vs : Valuesᵒ) → length (takings vs) ≡ count (plain_all vs)
unfolding takings count plain_all
length_takings emptyᵒ = refl
length_takings (v ▸ᵒ vs) = ap suc (length-map (takings vs) (behind v) ∙ length_takings vs)

length_cuts : (vs : Valuesᵒ) → length (cuts vs) ≡ suc (count (plain_all vs))
unfolding cuts count plain_all
length_cuts emptyᵒ = refl
length_cuts (v ▸ᵒ vs) = ap suc (length-map (cuts vs) (longer v) ∙ length_cuts vs)

-- The elements that are there to take.
unfoldable pub held : Value → ℕ
unfolding count
held (int x) = 0
held (collection vs) = count vs
held (tupled vs) = 0

cons_count : (cap gone : ℕ) (m : Matcher) (v : Valueᵒ) → held (plain v) + gone ≤ cap → length (cons_halves m v) ≤ cons_factor cap gone m
unfolding cons_halves cons_factor held plain
cons_count cap gone something v h = omega arith
cons_count cap gone integer v h = omega arith
cons_count cap gone (list m) (intᵒ o x) h = omega arith
cons_count cap gone (list m) (collectionᵒ o emptyᵒ) h = omega arith
cons_count cap gone (list m) (collectionᵒ o (v ▸ᵒ vs)) h = omega arith
cons_count cap gone (list m) (tupledᵒ o vs) h = omega arith
cons_count cap gone (multiset m) (intᵒ o x) h = omega arith
cons_count cap gone (multiset m) (collectionᵒ o vs) h = simp length-map (omega (arith, length_takings vs))
cons_count cap gone (multiset m) (tupledᵒ o vs) h = omega arith
cons_count cap gone (tuple_of ms) v h = omega arith

pub choices_count : (dialect : Dialect) (cap gone : ℕ) (m : Matcher) (v : Valueᵒ) → held (plain v) + gone ≤ cap → length (cons_halves_in dialect m v) ≤ cons_factor cap gone m
choices_count dialect cap gone m v h = le_trans (some_length (halves_some dialect m v)) (cons_count cap gone m v h)

pub join_count : (cap : ℕ) (v : Valueᵒ) → largest (plain v) ≤ cap → length (join_halves v) ≤ suc cap
unfolding join_halves largest plain
join_count cap (intᵒ o x) h = omega arith
join_count cap (collectionᵒ o vs) h = simp length-map (omega (arith, length_cuts vs))
join_count cap (tupledᵒ o vs) h = omega arith

-- A cons leaves one element fewer.
pick_count : (vs : Valuesᵒ) (p : Taking) → Mem p (takings vs) → suc (count (plain_all p.others)) ≡ count (plain_all vs)
unfolding takings behind count plain_all
pick_count emptyᵒ p i = absurd (Memᴰ.not-nil i)
pick_count (v ▸ᵒ vs) p i = ⊎_elim
    (λ e. ap (λ (q : Taking). suc (count (plain_all q.others))) e)
    (λ n. let r = Memᴰ.of_map (behind v) (takings vs) n in
    subst (λ (q : Taking). suc (count (plain_all q.others)) ≡ suc (count (plain_all vs))) r.2 (ap suc (pick_count vs r.0 r.1)))
    (Memᴰ.cases_cons i)

cons_held : (m : Matcher) (v : Valueᵒ) (h : Halves) → Mem h (cons_halves m v) → suc (held (plain h.second)) ≡ held (plain v)
unfolding cons_halves held count plain
cons_held something v h i = absurd (Memᴰ.not-nil i)
cons_held integer v h i = absurd (Memᴰ.not-nil i)
cons_held (list m) (intᵒ o x) h i = absurd (Memᴰ.not-nil i)
cons_held (list m) (collectionᵒ o emptyᵒ) h i = absurd (Memᴰ.not-nil i)
cons_held (list m) (collectionᵒ o (v ▸ᵒ vs)) h i = ap (λ (g : Halves). suc (held (plain g.second))) (Memᴰ.eq_of_singleton i)
cons_held (list m) (tupledᵒ o vs) h i = absurd (Memᴰ.not-nil i)
cons_held (multiset m) (intᵒ o x) h i = absurd (Memᴰ.not-nil i)
cons_held (multiset m) (collectionᵒ o vs) h i =
    let r = Memᴰ.of_map _ (takings vs) i in subst (λ (g : Halves). suc (held (plain g.second)) ≡ count (plain_all vs)) r.2 (pick_count vs r.0 r.1)
cons_held (multiset m) (tupledᵒ o vs) h i = absurd (Memᴰ.not-nil i)
cons_held (tuple_of ms) v h i = absurd (Memᴰ.not-nil i)

held_largest : (v : Value) → held v ≤ largest v
unfolding held largest
held_largest (int x) = omega arith
held_largest (collection vs) = omega arith
held_largest (tupled vs) = omega arith

-- A value that fits, with no collection over the cap, and from which as many elements are gone as conses are gone before; and so a tuple's parts, anew.
pub record Fine (cap gone : ℕ) (m : Matcher) (v : Value) : Type 0 where
  pub suits : Suits m v
  pub small : largest v ≤ cap
  pub left : held v + gone ≤ cap

abbrev pub FineEach : ℕ → Matchers → Values → Type 0
FineEach cap ms vs = SuitsEach ms vs × (largest_of vs ≤ cap)

pub anew : (cap : ℕ) (m : Matcher) (v : Value) → Suits m v → largest v ≤ cap → Fine cap 0 m v
anew cap m v s l = record { suits = s; small = l; left = omega (arith, held_largest v) }

-- What is taken out of it is so too.
pub cons_fine : (cap gone : ℕ) (m : Matcher) (v : Valueᵒ) → Fine cap gone m (plain v) → (h : Halves) → Mem h (cons_halves m v)
    → Fine cap 0 (element m) (plain h.first) × Fine cap (suc gone) m (plain h.second)
cons_fine cap gone m v f h i =
    let p = cons_parts m v h i in
    let s = cons_suits m v h i f.suits in (
      anew cap (element m) (plain h.first) s.0 (le_trans (part_largest p.first) f.small),
      record { suits = s.1; small = le_trans (part_largest p.second) f.small; left = omega (arith, cons_held m v h i, f.left) },
    )

pub join_fine : (cap gone : ℕ) (m : Matcher) (v : Valueᵒ) → Fine cap gone m (plain v) → (h : Halves) → Mem h (join_halves v)
    → Fine cap 0 m (plain h.first) × Fine cap 0 m (plain h.second)
join_fine cap gone m v f h i =
    let p = join_parts v h i in
    let s = join_suits m v h i f.suits in (
      anew cap m (plain h.first) s.0 (le_trans (part_largest p.first) f.small),
      anew cap m (plain h.second) s.1 (le_trans (part_largest p.second) f.small),
    )

-- ---- The steps. What an atom costs if what comes after it costs at cap `k`.

unfoldable mutual
  unfolding leaf_steps cons_factor element members

  pub horner : (cap gone : ℕ) → Pattern → Matcher → ℕ → ℕ
  horner cap gone wildcard m k = leaf_steps m + k
  horner cap gone (variable x) m k = leaf_steps m + k
  horner cap gone (constant c) m k = 1 + k
  horner cap gone (value x c) m k = 1 + k
  horner cap gone nil m k = 1 + k
  horner cap gone (cons p q) m k = 1 + cons_factor cap gone m * horner cap 0 p (element m) (horner cap (suc gone) q m k)
  horner cap gone (join p q) m k = 1 + suc cap * horner cap 0 p m (horner cap 0 q m k)
  horner cap gone (tuple ps) m k = 1 + horner_each cap ps (members m) k
  horner cap gone (both p q) m k = 1 + horner cap gone p m (horner cap gone q m k)
  horner cap gone (either p q) m k = 1 + (horner cap gone p m k + horner cap gone q m k)
  horner cap gone (never p) m k = 1 + (horner cap gone p m 1 + k)

  pub horner_each : ℕ → Patterns → Matchers → ℕ → ℕ
  horner_each cap no_patterns ms k = k
  horner_each cap (p ▸ᵖ ps) no_matchers k = k
  horner_each cap (p ▸ᵖ ps) (m ▸ᵐ ms) k = horner cap 0 p m (horner_each cap ps ms k)

-- The whole target is as its value.
pub fine_target : (cap : ℕ) (m : Matcher) (v : Value) → Fine cap 0 m v → Fine cap 0 m (plain (target v))
fine_target cap m v s = subst (Fine cap 0 m) (sym (plain_target v)) s

-- ---- The rows: the product of all factors bounds them.

length_numbered : (hs : List Halves) → length (numbered hs) ≡ length hs
unfolding numbered
length_numbered [] = refl
length_numbered (h ∷ hs) = ap suc (length-map (numbered hs) up ∙ length_numbered hs)

chain_count : (w : Way) (ss : List Solution) (g : Bindings → List Solution) (x y : ℕ) → length ss ≤ x → ((d : Bindings) → length (g d) ≤ y)
    → length (chain w ss g) ≤ x * y
unfolding chain
chain_count w ss g x y i h = le_trans (length_flat_map_le _ y ss (λ s k. simp length-map (h s.bound))) (mul-le-mul_right y i)

combine_count : (b : Bool) (f : Valueᵒ → List Solution) (g : Valueᵒ → Bindings → List Solution) (hs : List Halves) (n x y : ℕ) → length hs ≤ n
    → ((h : Halves) → Mem h hs → length (f h.first) ≤ x) → ((h : Halves) → Mem h hs → (d : Bindings) → length (g h.second d) ≤ y)
    → length (combine b f g hs) ≤ n * (x * y)
unfolding combine
combine_count b f g hs n x y i hf hg =
    le_trans (length_flat_map_le _ (x * y) (numbered hs) (λ c m. let j = in_numbered hs c m in
    chain_count (mark b c.no) (f c.halves.first) (g c.halves.second) x y (hf c.halves j) (hg c.halves j)))
    (rw (length_numbered hs) (mul-le-mul_right (x * y) i))

when_count : (b : Bool) (e : Bindings) → length (when_so b e) ≤ 1
unfolding when_so just
when_count true e = omega arith
when_count false e = omega arith

mutual
  unfolding solve factor just largest Suits plain

  pub rows_bound : (dialect : Dialect) (cap gone : ℕ) (p : Pattern) (m : Matcher) (v : Valueᵒ) (e : Bindings) → Fine cap gone m (plain v) → length (solve dialect p m v e) ≤ factor cap gone p m
  rows_bound dialect cap gone wildcard m v e s = omega arith
  rows_bound dialect cap gone nil m v e s = when_count (is_empty (plain v)) e
  rows_bound dialect cap gone (variable x) m v e s = omega arith
  rows_bound dialect cap gone (constant c) m v e s = when_count (is_constant c (plain v)) e
  rows_bound dialect cap gone (value x c) m v e s = when_count (is_value m (map plain e) x c (plain v)) e
  rows_bound dialect cap gone (cons p q) m v e s =
      combine_count (is_multiset m) (λ a. solve dialect p (element m) a e) (λ a d. solve dialect q m a d) (cons_halves_in dialect m v) _ _ _ (choices_count dialect cap gone m v s.left)
      (λ h i. rows_bound dialect cap 0 p (element m) h.first e (cons_fine cap gone m v s h (some_member (halves_some dialect m v) h i)).0)
      (λ h i d. rows_bound dialect cap (suc gone) q m h.second d (cons_fine cap gone m v s h (some_member (halves_some dialect m v) h i)).1)
  rows_bound dialect cap gone (join p q) m v e s =
      combine_count true (λ a. solve dialect p m a e) (λ a d. solve dialect q m a d) (join_halves v) _ _ _ (join_count cap v s.small)
      (λ h i. rows_bound dialect cap 0 p m h.first e (join_fine cap gone m v s h i).0)
      (λ h i d. rows_bound dialect cap 0 q m h.second d (join_fine cap gone m v s h i).1)
  rows_bound dialect cap gone (tuple ps) m (intᵒ o x) e s = omega arith
  rows_bound dialect cap gone (tuple ps) m (collectionᵒ o vs) e s = omega arith
  rows_bound dialect cap gone (tuple ps) m (tupledᵒ o vs) e s = omega (arith, rows_bound_each dialect cap ps (members m) vs e (tuple_suits m (plain_all vs) s.suits, s.small))
  rows_bound dialect cap gone (both p q) m v e s = chain_count [] (solve dialect p m v e) (λ d. solve dialect q m v d) _ _ (rows_bound dialect cap gone p m v e s) (λ d. rows_bound dialect cap gone q m v d s)
  rows_bound dialect cap gone (either p q) m v e s = omega (
    arith,
    length-append (map (on_side 0) (solve dialect p m v e)) (map (on_side 1) (solve dialect q m v e)),
    length-map (solve dialect p m v e) (on_side 0),
    length-map (solve dialect q m v e) (on_side 1),
    rows_bound dialect cap gone p m v e s,
    rows_bound dialect cap gone q m v e s,
  )
  rows_bound dialect cap gone (never p) m v e s = when_count (no_solution (solve dialect p m v e)) e

  rows_bound_each : (dialect : Dialect) (cap : ℕ) (ps : Patterns) (ms : Matchers) (vs : Valuesᵒ) (e : Bindings) → FineEach cap ms (plain_all vs)
      → length (solve_each dialect ps ms vs e) ≤ factor_all cap ps ms
  rows_bound_each dialect cap no_patterns ms vs e s = omega arith
  rows_bound_each dialect cap (p ▸ᵖ ps) no_matchers vs e s = omega arith
  rows_bound_each dialect cap (p ▸ᵖ ps) (m ▸ᵐ ms) emptyᵒ e s = absurd s.0
  rows_bound_each dialect cap (p ▸ᵖ ps) (m ▸ᵐ ms) (v ▸ᵒ vs) e s =
      chain_count [] (solve dialect p m v e) (λ d. solve_each dialect ps ms vs d) _ _ (rows_bound dialect cap 0 p m v e (anew cap m (plain v) s.0.0 (omega (arith, s.1))))
      (λ d. rows_bound_each dialect cap ps ms vs d (s.0.1, omega (arith, s.1)))
