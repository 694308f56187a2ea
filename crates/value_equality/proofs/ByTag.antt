-- A question by the tag of the matcher and the tags of the values, as the code asks. Assumes nothing.
use mathlib.Core.Path.{◌≡◌, refl, sym, ◌∙◌, ap}
use mathlib.Core.Bool.{Bool, false}
use mathlib.Core.List.{List}
use Prim.Native.Nat.{ℕ, zero, suc, ◌+◌, ◌<◌, ◌≤◌}
use native.Mathlib.Omega.{arith}
use borrow.Author.Rules.{rules}
use lib.ListN.{length, get_or}
use lib.IntN.{ℤ, pos}
use Rattle.rules.specs.Numbers.{same}
use Rattle.rules.specs.Forms.{Matcher, something, integer, list, multiset, tuple_of, Value, int, collection, tupled}
use Rattle.rules.specs.Equality.{equal}
use Rattle.forms.specs.Pairing.{multisets_greedy}
use Rattle.words.specs.Words.{tag_at}
use Rattle.matchers.specs.Places.{matcher_at}
use Rattle.matchers.proofs.Matchers.{matcher_0, matcher_1, matcher_2, matcher_3, matcher_4, matcher_high}
use Rattle.value_places.specs.Places.{value_at, elements, Target}
use Rattle.value_places.specs.Held.{Held, held_at, left}
use Rattle.value_equality.specs.declared.Level.{Level}
use Rattle.value_equality.specs.Equality.{equal_at, left_in_order, left_paired, tuples_equal}
use Rattle.value_equality.specs.Levels.{level_of, comes_to, Opens}
use Rattle.value_places.proofs.Elements.{tag_of, by_tag, second, tag_small, tuple_at_lem}
use Rattle.value_places.proofs.Held.{held_int, held_collection, held_tuple, held_tag}
use Rattle.value_equality.proofs.Matchers.{matcher_next, matcher_width}
use Rattle.value_equality.proofs.Marks.{marks_held}
use Rattle.value_equality.proofs.Levels.{comes_2, comes_3, settled_opens, level_opens, opens_as}

-- The tag of the values that a matcher compares; 3, which no value has, under something.
abbrev pub wants : Matcher → ℕ
wants something = 3
wants integer = 0
wants (list m) = 1
wants (multiset m) = 1
wants (tuple_of ms) = 2

-- Values of another tag are not equal.
pub first_other : (m : Matcher) (v w : Value) → (tag_of v ≡ wants m → ⊥) → equal m v w ≡ false
unfolding equal
first_other something v w f = refl
first_other integer (int x) w f = absurd (f refl)
first_other integer (collection vs) w f = refl
first_other integer (tupled vs) w f = refl
first_other (list m) (int x) w f = refl
first_other (list m) (collection vs) w f = absurd (f refl)
first_other (list m) (tupled vs) w f = refl
first_other (multiset m) (int x) w f = refl
first_other (multiset m) (collection vs) w f = absurd (f refl)
first_other (multiset m) (tupled vs) w f = refl
first_other (tuple_of ms) (int x) w f = refl
first_other (tuple_of ms) (collection vs) w f = refl
first_other (tuple_of ms) (tupled vs) w f = absurd (f refl)

pub second_other : (m : Matcher) (v w : Value) → (tag_of w ≡ wants m → ⊥) → equal m v w ≡ false
unfolding equal
second_other something v w f = refl
second_other integer (int x) (int y) f = absurd (f refl)
second_other integer (int x) (collection ws) f = refl
second_other integer (int x) (tupled ws) f = refl
second_other integer (collection vs) w f = refl
second_other integer (tupled vs) w f = refl
second_other (list m) (int x) w f = refl
second_other (list m) (collection vs) (int y) f = refl
second_other (list m) (collection vs) (collection ws) f = absurd (f refl)
second_other (list m) (collection vs) (tupled ws) f = refl
second_other (list m) (tupled vs) w f = refl
second_other (multiset m) (int x) w f = refl
second_other (multiset m) (collection vs) (int y) f = refl
second_other (multiset m) (collection vs) (collection ws) f = absurd (f refl)
second_other (multiset m) (collection vs) (tupled ws) f = refl
second_other (multiset m) (tupled vs) w f = refl
second_other (tuple_of ms) (int x) w f = refl
second_other (tuple_of ms) (collection vs) w f = refl
second_other (tuple_of ms) (tupled vs) (int y) f = refl
second_other (tuple_of ms) (tupled vs) (collection ws) f = refl
second_other (tuple_of ms) (tupled vs) (tupled ws) f = absurd (f refl)

-- What is held has the tag that stands there.
pub tag_held : (s : List ℤ) (at m : ℕ) → Target s → Held s at m → tag_at s at ≡ tag_of (held_at s at m)
tag_held s at m g w = by_tag s at g w.tag _
    (λ e. e ∙ sym (ap tag_of (held_int s at m g w.tag e)))
    (λ e. e ∙ sym (ap tag_of (held_collection s at m g w.tag e)))
    (λ e. e ∙ sym (ap tag_of (held_tuple s at m g w.tag e ∙ tuple_at_lem s at g w.tag e)))

pub equal_0 : (mt s : List ℤ) (i a am b bm k : ℕ) → k ≡ tag_at mt i → k ≡ 0 → false ≡ equal_at mt i s a am b bm
unfolding equal_at equal
equal_0 mt s i a am b bm k e z = rw (matcher_0 mt i k e z)

pub equal_high : (mt s : List ℤ) (i a am b bm k : ℕ) → k ≡ tag_at mt i → 4 < k → false ≡ equal_at mt i s a am b bm
unfolding equal_at equal
equal_high mt s i a am b bm k e z = rw (matcher_high mt i k e z)

module _ (mt s : List ℤ) (i a am b bm k ta tb : ℕ) (g : Target s) (v : Held s a am) (w : Held s b bm) (e : k ≡ tag_at mt i) (p : ta ≡ tag_at s a) (q : tb ≡ tag_at s b) where
  bad_first : (t : ℕ) → wants (matcher_at mt i) ≡ t → (ta ≡ t → ⊥) → false ≡ equal_at mt i s a am b bm
  unfolding equal_at
  bad_first t d f = sym (first_other (matcher_at mt i) (held_at s a am) (held_at s b bm) (λ z. f (p ∙ tag_held s a am g v ∙ z ∙ d)))

  bad_second : (t : ℕ) → wants (matcher_at mt i) ≡ t → (tb ≡ t → ⊥) → false ≡ equal_at mt i s a am b bm
  unfolding equal_at
  bad_second t d f = sym (second_other (matcher_at mt i) (held_at s a am) (held_at s b bm) (λ z. f (q ∙ tag_held s b bm g w ∙ z ∙ d)))

  module _ (z : k ≡ 1) where
    pub int_bad_a : (ta ≡ 0 → ⊥) → false ≡ equal_at mt i s a am b bm
    int_bad_a f = bad_first 0 (ap wants (matcher_1 mt i k e z)) f

    pub int_bad_b : (tb ≡ 0 → ⊥) → false ≡ equal_at mt i s a am b bm
    int_bad_b f = bad_second 0 (ap wants (matcher_1 mt i k e z)) f

    pub int_equal : (r : Bool) → ta ≡ 0 → tb ≡ 0 → r ≡ same (get_or s (a + 1) (pos 0)) (get_or s (b + 1) (pos 0)) → r ≡ equal_at mt i s a am b bm
    unfolding equal_at equal
    int_equal r x y h = h ∙ rw (matcher_1 mt i k e z, held_int s a am g v.tag (sym p ∙ x), held_int s b bm g w.tag (sym q ∙ y))

  module _ (z : k ≡ 4) where
    pub tuple_bad_a : (ta ≡ 2 → ⊥) → false ≡ equal_at mt i s a am b bm
    tuple_bad_a f = bad_first 2 (ap wants (matcher_4 mt i k e z)) f

    pub tuple_bad_b : (tb ≡ 2 → ⊥) → false ≡ equal_at mt i s a am b bm
    tuple_bad_b f = bad_second 2 (ap wants (matcher_4 mt i k e z)) f

    tuple_equal : ta ≡ 2 → tb ≡ 2 → tuples_equal mt (i + 1) s a b ≡ equal_at mt i s a am b bm
    unfolding equal_at equal tuples_equal
    tuple_equal x y =
        let h : i + 1 + 1 ≡ i + 2 = omega arith in
        let A : held_at s a am ≡ tupled (elements (value_at s a)) = held_tuple s a am g v.tag (sym p ∙ x) ∙ tuple_at_lem s a g v.tag (sym p ∙ x) in
        let B : held_at s b bm ≡ tupled (elements (value_at s b)) = held_tuple s b bm g w.tag (sym q ∙ y) ∙ tuple_at_lem s b g w.tag (sym q ∙ y) in
        rw (matcher_4 mt i k e z, A, B, h)

    pub tuple_opens : (r : Level) → ta ≡ 2 → tb ≡ 2 → Opens mt s a r (tuples_equal mt (i + 1) s a b) → Opens mt s a r (equal_at mt i s a am b bm)
    tuple_opens r x y o = opens_as mt s a r _ _ o (tuple_equal x y)

  module _ (f : k ≡ 0 → ⊥) (h : k ≤ 4) (n : k ≡ 1 → ⊥) (o : k ≡ 4 → ⊥) where
    by_kind : (P : Type 0) → (k ≡ 2 → P) → (k ≡ 3 → P) → P
    by_kind P x y = go k refl
      where
        go : (n : ℕ) → k ≡ n → P
        go zero z = absurd (f z)
        go (suc zero) z = absurd (n z)
        go (suc (suc zero)) z = x z
        go (suc (suc (suc zero))) z = y z
        go (suc (suc (suc (suc zero)))) z = absurd (o z)
        go (suc (suc (suc (suc (suc n))))) z = absurd (omega arith)

    wants_one : wants (matcher_at mt i) ≡ 1
    wants_one = by_kind _ (λ x. ap wants (matcher_2 mt i k e x)) (λ x. ap wants (matcher_3 mt i k e x))

    pub bad_a : (ta ≡ 1 → ⊥) → false ≡ equal_at mt i s a am b bm
    bad_a x = bad_first 1 wants_one x

    pub bad_b : (tb ≡ 1 → ⊥) → false ≡ equal_at mt i s a am b bm
    bad_b x = bad_second 1 wants_one x

    module _ (x : ta ≡ 1) (y : tb ≡ 1) where
      list_equal : k ≡ 2 → left_in_order mt (i + 1) s a am b bm ≡ equal_at mt i s a am b bm
      unfolding equal_at equal left_in_order
      list_equal z = rw (matcher_2 mt i k e z, held_collection s a am g v.tag (sym p ∙ x), held_collection s b bm g w.tag (sym q ∙ y))

      multiset_equal : k ≡ 3 → left_paired mt (i + 1) s a am b bm ≡ equal_at mt i s a am b bm
      unfolding equal_at left_paired
      multiset_equal z = rw (matcher_3 mt i k e z, held_collection s a am g v.tag (sym p ∙ x), held_collection s b bm g w.tag (sym q ∙ y))
          (sym (multisets_greedy (matcher_at mt (i + 1)) (left s a am) (left s b bm)))

      both_comes : comes_to mt s (level_of k (i + 1) a am b bm) ≡ equal_at mt i s a am b bm
      unfolding level_of
      both_comes = by_kind _
          (λ z. comes_2 (level_of k (i + 1) a am b bm) mt s g (marks_held s b bm w) (λ u. omega arith) (λ u. omega arith) ∙ list_equal z)
          (λ z. comes_3 (level_of k (i + 1) a am b bm) mt s g (marks_held s b bm w) z refl (marks_held s a am v) ∙ multiset_equal z)

      pub both_opens : (r : Level) → r ≡ level_of k (i + 1) a am b bm → Opens mt s a r (equal_at mt i s a am b bm)
      both_opens r u = level_opens mt s k (i + 1) a am b bm _ r (marks_held s a am v) (marks_held s b bm w) (λ z. absurd (o z)) u both_comes

-- What the calls ask.
pub held_number : (s : List ℤ) (a am : ℕ) → Target s → Held s a am → tag_at s a < 2147483648
held_number s a am g w = tag_small s a g w.tag

pub held_second : (s : List ℤ) (a am : ℕ) → Target s → Held s a am → a + 1 < length s
held_second s a am g w = second s a g w.tag

pub ruleset opened_rules = (equal_0, equal_high, int_bad_a, int_bad_b, int_equal, tuple_bad_a, tuple_bad_b, tuple_opens, bad_a, bad_b, both_opens, settled_opens, matcher_next, matcher_width, held_number, held_second, held_tag, rules)

pub ruleset tuples_call = (matcher_width, held_tag, rules)
