-- What a cons or a join takes out of a value are parts of it: an element, or some of the elements in their order. A part is in no number larger.
use Rattle.std.specs.Prelude.{◌≤◌}
use Rattle.std.proofs.Common.{arith, sym, subst, ⊎_elim}
use mathlib.Core.List.Memᴰ
use Rattle.rules.specs.Forms.{Matcher, something, integer, list, multiset, tuple_of, count, size, size_all}
use Rattle.rules.specs.Origins.{Valueᵒ, intᵒ, collectionᵒ, tupledᵒ, Valuesᵒ, emptyᵒ, ◌▸ᵒ◌, Origin, plain, plain_all}
use Rattle.rules.specs.Search.{Taking, takings, behind, Cut, cuts, longer, Halves, cons_halves, join_halves}
use Rattle.forms.specs.Written.{largest, largest_of}
use Rattle.forms.specs.Lists.{Mem}

-- Some of the elements, in their order.
pub data Among : Valuesᵒ → Valuesᵒ → Type 0 where
  none : {vs : Valuesᵒ} → Among emptyᵒ vs
  kept : {v : Valueᵒ} {us vs : Valuesᵒ} → Among us vs → Among (v ▸ᵒ us) (v ▸ᵒ vs)
  left : {v : Valueᵒ} {us vs : Valuesᵒ} → Among us vs → Among us (v ▸ᵒ vs)

pub data Part : Valueᵒ → Valueᵒ → Type 0 where
  element : {o : Origin} {v : Valueᵒ} {vs : Valuesᵒ} → Among (v ▸ᵒ emptyᵒ) vs → Part v (collectionᵒ o vs)
  elements : {o : Origin} {us vs : Valuesᵒ} → Among us vs → Part (collectionᵒ o us) (collectionᵒ o vs)

all : (vs : Valuesᵒ) → Among vs vs
all emptyᵒ = none
all (v ▸ᵒ vs) = kept (all vs)

-- ---- The halves are parts.

pub pick_among : (vs : Valuesᵒ) (p : Taking) → Mem p (takings vs) → Among (p.one ▸ᵒ emptyᵒ) vs × Among p.others vs
unfolding takings behind
pick_among emptyᵒ p m = absurd (Memᴰ.not-nil m)
pick_among (v ▸ᵒ vs) p m = ⊎_elim
    (λ e. subst (λ (p : Taking). Among (p.one ▸ᵒ emptyᵒ) (v ▸ᵒ vs) × Among p.others (v ▸ᵒ vs)) (sym e) (kept none, left (all vs)))
    (λ n. let r = Memᴰ.of_map (behind v) (takings vs) n in let i = pick_among vs r.0 r.1 in
    subst (λ (p : Taking). Among (p.one ▸ᵒ emptyᵒ) (v ▸ᵒ vs) × Among p.others (v ▸ᵒ vs)) r.2 (left i.0, kept i.1))
    (Memᴰ.cases_cons m)

pub cut_among : (vs : Valuesᵒ) (c : Cut) → Mem c (cuts vs) → Among c.front vs × Among c.back vs
unfolding cuts longer
cut_among emptyᵒ c m = subst (λ (c : Cut). Among c.front emptyᵒ × Among c.back emptyᵒ) (sym (Memᴰ.eq_of_singleton m)) (none, none)
cut_among (v ▸ᵒ vs) c m = ⊎_elim
    (λ e. subst (λ (c : Cut). Among c.front (v ▸ᵒ vs) × Among c.back (v ▸ᵒ vs)) (sym e) (none, all (v ▸ᵒ vs)))
    (λ n. let r = Memᴰ.of_map (longer v) (cuts vs) n in let i = cut_among vs r.0 r.1 in
    subst (λ (c : Cut). Among c.front (v ▸ᵒ vs) × Among c.back (v ▸ᵒ vs)) r.2 (kept i.0, left i.1))
    (Memᴰ.cases_cons m)

pub record Parts (h : Halves) (v : Valueᵒ) : Type 0 where
  pub first : Part h.first v
  pub second : Part h.second v

pub cons_parts : (m : Matcher) (v : Valueᵒ) (h : Halves) → Mem h (cons_halves m v) → Parts h v
unfolding cons_halves
cons_parts something v h i = absurd (Memᴰ.not-nil i)
cons_parts integer v h i = absurd (Memᴰ.not-nil i)
cons_parts (list m) (intᵒ o x) h i = absurd (Memᴰ.not-nil i)
cons_parts (list m) (collectionᵒ o emptyᵒ) h i = absurd (Memᴰ.not-nil i)
cons_parts (list m) (collectionᵒ o (v ▸ᵒ vs)) h i =
    subst (λ (h : Halves). Parts h (collectionᵒ o (v ▸ᵒ vs))) (sym (Memᴰ.eq_of_singleton i)) (record { first = element (kept none); second = elements (left (all vs)) })
cons_parts (list m) (tupledᵒ o vs) h i = absurd (Memᴰ.not-nil i)
cons_parts (multiset m) (intᵒ o x) h i = absurd (Memᴰ.not-nil i)
cons_parts (multiset m) (collectionᵒ o vs) h i =
    let r = Memᴰ.of_map _ (takings vs) i in let s = pick_among vs r.0 r.1 in
    subst (λ (h : Halves). Parts h (collectionᵒ o vs)) r.2 (record { first = element s.0; second = elements s.1 })
cons_parts (multiset m) (tupledᵒ o vs) h i = absurd (Memᴰ.not-nil i)
cons_parts (tuple_of ms) v h i = absurd (Memᴰ.not-nil i)

pub join_parts : (v : Valueᵒ) (h : Halves) → Mem h (join_halves v) → Parts h v
unfolding join_halves
join_parts (intᵒ o x) h i = absurd (Memᴰ.not-nil i)
join_parts (collectionᵒ o vs) h i =
    let r = Memᴰ.of_map _ (cuts vs) i in let s = cut_among vs r.0 r.1 in
    subst (λ (h : Halves). Parts h (collectionᵒ o vs)) r.2 (record { first = elements s.0; second = elements s.1 })
join_parts (tupledᵒ o vs) h i = absurd (Memᴰ.not-nil i)

-- ---- A part is no larger.

among_count : {us vs : Valuesᵒ} → Among us vs → count (plain_all us) ≤ count (plain_all vs)
unfolding count plain_all
among_count none = omega arith
among_count (kept a) = omega (arith, among_count a)
among_count (left a) = omega (arith, among_count a)

among_largest : {us vs : Valuesᵒ} → Among us vs → largest_of (plain_all us) ≤ largest_of (plain_all vs)
unfolding largest_of plain_all
among_largest none = omega arith
among_largest (kept a) = omega (arith, among_largest a)
among_largest (left a) = omega (arith, among_largest a)

among_size : {us vs : Valuesᵒ} → Among us vs → size_all (plain_all us) ≤ size_all (plain_all vs)
unfolding size_all plain_all
among_size none = omega arith
among_size (kept a) = omega (arith, among_size a)
among_size (left a) = omega (arith, among_size a)

pub part_largest : {u v : Valueᵒ} → Part u v → largest (plain u) ≤ largest (plain v)
unfolding largest plain
part_largest (element a) = omega (arith, among_largest a)
part_largest (elements a) = omega (arith, among_largest a, among_count a)

pub part_size : {u v : Valueᵒ} → Part u v → size (plain u) ≤ size (plain v)
unfolding size plain
part_size (element a) = omega (arith, among_size a)
part_size (elements a) = omega (arith, among_size a)
