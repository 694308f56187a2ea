-- The parts of a tuple by places are the definitions' parts, one by one in their order. Assumes nothing.
use Prim.Native.Nat.{ℕ, suc, ◌+◌, ◌<◌}
use mathlib.Core.Path.{◌≡◌, refl, sym, ◌∙◌, ap, subst}
use mathlib.Core.Bool.{true}
use mathlib.Core.List.{List}
use native.Mathlib.Omega.{arith}
use borrow.Author.Tests.{eq-eqb}
use lib.IntN.{ℤ}
use Rattle.rules.specs.Forms.{Matcher, tuple_of, Matchers, no_matchers, ◌▸ᵐ◌, countᵐ, Value, Values, empty, ◌▸◌, count}
use Rattle.rules.specs.Origins.{Origin, Valueᵒ, tupledᵒ, Valuesᵒ, emptyᵒ, ◌▸ᵒ◌, plain, plain_all, placed}
use Rattle.value_places.specs.Places.{value_at, elements, count_at, Target, Tag, element_at}
use Rattle.value_places.specs.Origins.{nthᵒ, elementsᵒ}
use Rattle.forms.specs.Origins.{plain_placed_all}
use Rattle.value_places.proofs.Elements.{count_elements, element_tag}
use Rattle.value_places.proofs.Held.{whole_held}
use Rattle.value_places.proofs.Origins.{origin_tuple, origin_whole, element_origin}
use Rattle.value_rows.specs.declared.Binding.{Binding}
use Rattle.search_machine.specs.Held.{Parts}
use Rattle.search_machine.specs.Fitting.{Fitting, FittingEach}
use Rattle.search_machine.specs.Operations.{Is, is_wide, part_of}
use Rattle.search_machine.proofs.Tests.{is_tag}

-- As many parts as matchers.
each_count : (ms : Matchers) (vs : Values) → FittingEach ms vs → countᵐ ms ≡ count vs
unfolding FittingEach countᵐ count
each_count no_matchers empty f = refl
each_count no_matchers (v ▸ vs) f = absurd f
each_count (m ▸ᵐ ms) empty f = absurd f
each_count (m ▸ᵐ ms) (v ▸ vs) f = ap suc (each_count ms vs f.1)

module _ (s : List ℤ) (g : Target s) where
  module _ (h : Binding) (w : Tag s h.at) where
    all : Valuesᵒ
    all = elementsᵒ s h.at

    count_all : count (plain_all all) ≡ count_at s h.at
    unfolding all elementsᵒ
    count_all = ap count (plain_placed_all (h.at + 2) 0 (elements (value_at s h.at))) ∙ count_elements s h.at g w

    -- Part i, if there is one.
    part_is : (m : Matcher) (i : ℕ) (v : Valueᵒ) → i < count_at s h.at → nthᵒ all i ≡ v → Fitting m (plain v) → Is s m (part_of s h i) v
    unfolding part_of all
    part_is m i v l e f =
        let t = element_tag s h.at i g w l in
        record {
          held = whole_held s (element_at s h.at i) g t;
          place = i;
          is = origin_whole s (element_at s h.at i) i g t ∙ sym (element_origin s h.at i g w l) ∙ e;
          fits = f;
        }

    -- Those from number n on.
    parts_from : (ms : Matchers) (vs : Valuesᵒ) (n : ℕ) → n + count (plain_all vs) ≡ count_at s h.at
        → ((k : ℕ) → k < count (plain_all vs) → nthᵒ all (n + k) ≡ nthᵒ vs k) → FittingEach ms (plain_all vs) → Parts (Is s) (part_of s h) n ms vs
    unfolding Parts FittingEach count plain_all nthᵒ
    parts_from no_matchers emptyᵒ n l e f = tt
    parts_from no_matchers (v ▸ᵒ vs) n l e f = absurd f
    parts_from (m ▸ᵐ ms) emptyᵒ n l e f = absurd f
    parts_from (m ▸ᵐ ms) (v ▸ᵒ vs) n l e f =
        let z : n + 0 ≡ n = omega arith in (
          part_is m n v (omega arith) (ap (nthᵒ all) (sym z) ∙ e 0 (omega arith)) f.0,
          parts_from ms vs (suc n) (omega arith) (λ k h. let y : suc n + k ≡ n + suc k = omega arith in ap (nthᵒ all) y ∙ e (suc k) (omega arith)) f.1,
        )

  pub parts_ok : (ms : Matchers) (h : Binding) (v : Valueᵒ) → Is s (tuple_of ms) h v
      → (is_wide s (countᵐ ms) h ≡ true) × (o : Origin) × (vs : Valuesᵒ) × (v ≡ tupledᵒ o vs) × Parts (Is s) (part_of s h) 0 ms vs
  unfolding is_wide Fitting all plain
  parts_ok ms h v i =
      let w = i.held.tag in
      let t = is_tag s g (tuple_of ms) h v 2 refl (omega arith) i in
      let e = sym i.is ∙ origin_tuple s h.at h.marks i.place g w t in
      let f : FittingEach ms (plain_all (all h w)) = subst (λ (u : Valueᵒ). Fitting (tuple_of ms) (plain u)) e i.fits in
      let c = count_all h w in
      let n = each_count ms (plain_all (all h w)) f in (
        eq-eqb (count_at s h.at) (countᵐ ms) (omega arith),
        record { at = h.at; place = i.place },
        all h w,
        e,
        parts_from h w ms (all h w) 0 (omega arith) (λ k l. let y : 0 + k ≡ k = omega arith in ap (nthᵒ (all h w)) y) f,
      )
