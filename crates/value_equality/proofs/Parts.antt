-- A question of two tuples: where their widths differ, and the level of their parts. Assumes nothing.
use mathlib.Core.Path.{◌≡◌, refl, sym, ◌∙◌, ap}
use mathlib.Core.Bool.{Bool, true, false, ◌&&◌}
use mathlib.Core.List.{List}
use Prim.Native.Nat.{ℕ, suc, ◌+◌, ◌-◌, ◌*◌, ◌^◌, ◌<◌, ◌≤◌}
use native.Mathlib.Omega.{arith}
use borrow.Author.Rules.{rules}
use lib.ListN.{length}
use lib.IntN.{ℤ}
use mir.Syntax.{w64}
use mir.Val.{Fits}
use Rattle.rules.specs.Forms.{Matchers, no_matchers, ◌▸ᵐ◌, countᵐ, Values, empty, ◌▸◌, count}
use Rattle.rules.specs.Equality.{equal, equal_parts}
use Rattle.matchers.specs.Places.{width_at, matchers_at}
use Rattle.value_places.specs.Places.{value_at, elements, count_at, Target, Tag}
use Rattle.value_equality.specs.declared.Level.{Level}
use Rattle.value_equality.specs.Equality.{tuples_equal}
use Rattle.value_equality.specs.Levels.{level_of, parts_of, Marks, Opens}
use Rattle.value_places.proofs.Elements.{count_elements}
use Rattle.value_equality.proofs.Matchers.{count_matchers}
use Rattle.value_equality.proofs.Marks.{marks_all_lem, left_all}
use Rattle.value_equality.proofs.Levels.{comes_4, settled_opens, level_opens}

-- ---- Where the counts differ.

and_false : (c d : Bool) → d ≡ false → c && d ≡ false
and_false true d e = e
and_false false d e = refl

parts_width : (ms : Matchers) (vs ws : Values) → (count vs ≡ countᵐ ms → ⊥) → equal_parts ms vs ws ≡ false
unfolding equal_parts count countᵐ
parts_width no_matchers empty ws f = absurd (f refl)
parts_width no_matchers (v ▸ vs) ws f = refl
parts_width (m ▸ᵐ ms) empty ws f = refl
parts_width (m ▸ᵐ ms) (v ▸ vs) empty f = refl
parts_width (m ▸ᵐ ms) (v ▸ vs) (w ▸ ws) f = and_false (equal m v w) _ (parts_width ms vs ws (λ z. f (ap suc z)))

parts_count : (ms : Matchers) (vs ws : Values) → (count vs ≡ count ws → ⊥) → equal_parts ms vs ws ≡ false
unfolding equal_parts count
parts_count no_matchers empty empty f = absurd (f refl)
parts_count no_matchers empty (w ▸ ws) f = refl
parts_count no_matchers (v ▸ vs) ws f = refl
parts_count (m ▸ᵐ ms) empty ws f = refl
parts_count (m ▸ᵐ ms) (v ▸ vs) empty f = refl
parts_count (m ▸ᵐ ms) (v ▸ vs) (w ▸ ws) f = and_false (equal m v w) _ (parts_count ms vs ws (λ z. f (ap suc z)))

module _ (mt s : List ℤ) (i a b n m : ℕ) (g : Target s) (v : Tag s a) (w : Tag s b) (p : n ≡ count_at s a) (q : m ≡ count_at s b) where
  pub tuples_count : (n ≡ m → ⊥) → false ≡ tuples_equal mt i s a b
  unfolding tuples_equal
  tuples_count f = sym (parts_count _ (elements (value_at s a)) (elements (value_at s b))
      (λ z. f (p ∙ sym (count_elements s a g v) ∙ z ∙ count_elements s b g w ∙ sym q)))

  module _ (x : ℕ) (d : x ≡ width_at mt i) where
    pub tuples_width : (n ≡ x → ⊥) → false ≡ tuples_equal mt i s a b
    unfolding tuples_equal
    tuples_width f = sym (parts_width (matchers_at mt (width_at mt i) (i + 1)) (elements (value_at s a)) (elements (value_at s b))
        (λ z. f (p ∙ sym (count_elements s a g v) ∙ z ∙ count_matchers mt (width_at mt i) (i + 1) ∙ sym d)))

    pub tuples_opens : (u : ℕ) (r : Level) → n ≡ m → n ≡ x → u ≡ 2 ^ n - 1 → r ≡ level_of 4 (i + 1) a u b u → Opens mt s a r (tuples_equal mt i s a b)
    unfolding tuples_equal parts_of level_of
    tuples_opens u r c z k j =
        let f : Marks s a u = marks_all_lem s a u n g v p k in
        let o : Marks s b u = marks_all_lem s b u n g w (c ∙ q) k in
        let h : count (elements (value_at s a)) ≡ width_at mt i = count_elements s a g v ∙ sym p ∙ z ∙ d in
        level_opens mt s 4 (i + 1) a u b u (tuples_equal mt i s a b) r f o (λ _. refl) j
        (comes_4 (level_of 4 (i + 1) a u b u) mt s g o refl ∙ rw (left_all s a u n g v p k, left_all s b u n g w (c ∙ q) k, h))

pub tuples_full : (s : List ℤ) (a n : ℕ) → Target s → Tag s a → n ≡ count_at s a → n ≤ 64
tuples_full s a n g v p = omega (arith, p, g.small a v)

pub tuples_next : (mt : List ℤ) (i : ℕ) → i ≤ length mt → length mt * 4 < 2 ^ 63 → Fits w64 (i + 1)
tuples_next mt i h l = record { fits = omega arith }

pub ruleset tuples_rules = (tuples_count, tuples_width, tuples_opens, tuples_full, tuples_next, settled_opens, rules)
