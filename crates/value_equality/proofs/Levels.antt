-- What a level comes to: where nothing is left to ask, when its question is answered, and when it is opened. Assumes nothing.
use mathlib.Core.Path.{◌≡◌, refl, sym, ◌∙◌, ap}
use mathlib.Core.Bool.{Bool, true, false, cond, ◌&&◌}
use mathlib.Core.List.{List}
use Prim.Native.Nat.{ℕ, ◌+◌, ◌*◌, ◌<◌, ◌≤◌}
use native.Mathlib.Omega.{arith}
use native.Mathlib.Decide.{dec_le, ℕ_discrete}
use borrow.Author.Tests.{eq-eqb, ne_eqb}
use lib.Dec.{eqb}
use lib.IntN.{ℤ}
use lib.Count.{count_trailing_zeros}
use Rattle.words.specs.Marks.{clear}
use Rattle.matchers.specs.Places.{matcher_end}
use Rattle.rules.specs.Forms.{count}
use Rattle.value_places.specs.Places.{Target, Tag, element_at}
use Rattle.value_places.specs.Held.{left}
use Rattle.value_places.proofs.Held.{left_none}
use Rattle.value_equality.specs.declared.Level.{Level}
use Rattle.value_equality.specs.Equality.{left_in_order, left_paired, first_equal}
use Rattle.value_equality.specs.Levels.{ended_of, outcome_of, level_of, onward_of, settled_of, pair_taken, other_tried, taken_of, first_of, second_of, question_of, marked_off, paired_from, parts_of, open_to, comes_to, Marks, Open, Opens}
use Rattle.value_equality.proofs.Marks.{marks_clear, left_64, low_64, low_count}
use Rattle.value_equality.proofs.Comparing.{order_out, pair_out, parts_out, order_short, parts_short, order_is, parts_is, find_out, find_is, pair_is}

-- ---- By its kind.

module _ (l : Level) where
  by_kind : (P : Type 0) → (l.kind ≡ 3 → P) → (l.kind ≡ 4 → P) → ((l.kind ≡ 3 → ⊥) → (l.kind ≡ 4 → ⊥) → P) → P
  by_kind P f h k = go (ℕ_discrete l.kind 3) (ℕ_discrete l.kind 4)
    where
      go : Dec (l.kind ≡ 3) → Dec (l.kind ≡ 4) → P
      go (yes u) w = f u
      go (no u) (yes w) = h w
      go (no u) (no w) = k u w

  module _ (mt s : List ℤ) where
    comes_none : l.x ≤ 0 → comes_to mt s l ≡ eqb l.y 0
    unfolding comes_to
    comes_none h = let z : l.x ≡ 0 = omega arith in rw (eq-eqb l.x 0 z)

    comes_open : 0 < l.x → comes_to mt s l ≡ open_to mt s l
    unfolding comes_to
    comes_open h = rw (ne_eqb l.x 0 (λ z. omega arith))

    open_3 : l.kind ≡ 3 → open_to mt s l ≡ paired_from mt l.at s l.a l.x l.b l.y l.z
    unfolding open_to
    open_3 e = rw (eq-eqb l.kind 3 e)

    open_4 : l.kind ≡ 4 → open_to mt s l ≡ parts_of mt l.at (left s l.a l.x) (left s l.b l.y)
    unfolding open_to
    open_4 e = rw (ne_eqb l.kind 3 (λ z. omega arith), eq-eqb l.kind 4 e)

    open_2 : (l.kind ≡ 3 → ⊥) → (l.kind ≡ 4 → ⊥) → open_to mt s l ≡ left_in_order mt l.at s l.a l.x l.b l.y
    unfolding open_to
    open_2 f h = rw (ne_eqb l.kind 3 f, ne_eqb l.kind 4 h)

    -- all of them are to try
    module _ (g : Target s) (w : Marks s l.b l.y) where
      pub comes_3 : l.kind ≡ 3 → l.z ≡ l.y → Marks s l.a l.x → comes_to mt s l ≡ left_paired mt l.at s l.a l.x l.b l.y
      comes_3 e q v = go (dec_le l.x 0)
        where
          go : Dec (l.x ≤ 0) → comes_to mt s l ≡ left_paired mt l.at s l.a l.x l.b l.y
          go (yes u) = comes_none u ∙ sym (pair_out mt s l.at l.a l.x l.b l.y g w u)
          go (no u) = comes_open (omega arith) ∙ open_3 e ∙ ap (paired_from mt l.at s l.a l.x l.b l.y) q
              ∙ sym (pair_is mt s l.at l.a l.x l.b l.y g v w (omega arith))

      pub comes_4 : l.kind ≡ 4 → comes_to mt s l ≡ parts_of mt l.at (left s l.a l.x) (left s l.b l.y)
      comes_4 e = go (dec_le l.x 0)
        where
          go : Dec (l.x ≤ 0) → comes_to mt s l ≡ parts_of mt l.at (left s l.a l.x) (left s l.b l.y)
          go (yes u) = comes_none u ∙ sym (parts_out mt s l.at l.a l.x l.b l.y g w u)
          go (no u) = comes_open (omega arith) ∙ open_4 e

      pub comes_2 : (l.kind ≡ 3 → ⊥) → (l.kind ≡ 4 → ⊥) → comes_to mt s l ≡ left_in_order mt l.at s l.a l.x l.b l.y
      comes_2 f h = go (dec_le l.x 0)
        where
          go : Dec (l.x ≤ 0) → comes_to mt s l ≡ left_in_order mt l.at s l.a l.x l.b l.y
          go (yes u) = comes_none u ∙ sym (order_out mt s l.at l.a l.x l.b l.y g w u)
          go (no u) = comes_open (omega arith) ∙ open_2 f h

-- ---- Nothing is left to ask.

ended_x : (x z : ℕ) → 0 < x → ended_of x z ≡ true → z ≤ 0
unfolding ended_of
ended_x x z h e = go (dec_le z 0)
  where
    go : Dec (z ≤ 0) → z ≤ 0
    go (yes u) = u
    go (no u) =
        let t : false ≡ true = sym (ne_eqb z 0 (λ y. omega arith)) ∙ (rw (ne_eqb x 0 (λ y. omega arith)) at e) in
        let q : ◌≡◌ {A = ℕ} 0 1 = cc in absurd (omega arith)

no_find : (mt s : List ℤ) (i a x b y z : ℕ) → z ≤ 0 → paired_from mt i s a x b y z ≡ false
unfolding paired_from marked_off
no_find mt s i a x b y z h = rw (find_out mt s i (element_at s a (count_trailing_zeros 64 x)) b z h)

pub ended_comes : (mt s : List ℤ) (l : Level) → Target s → (0 < l.x → Open s l) → ended_of l.x l.z ≡ true → outcome_of l.x l.y ≡ comes_to mt s l
unfolding outcome_of
ended_comes mt s l g o e = go (dec_le l.x 0)
  where
    go : Dec (l.x ≤ 0) → cond (eqb l.x 0) (eqb l.y 0) false ≡ comes_to mt s l
    go (yes u) = let z : l.x ≡ 0 = omega arith in rw (comes_none l mt s u, eq-eqb l.x 0 z)
    go (no u) =
        let h : 0 < l.x = omega arith in
        let n : l.z ≤ 0 = ended_x l.x l.z h e in
        let w = o h in
        rw (ne_eqb l.x 0 (λ z. omega arith)) (sym (comes_open l mt s h ∙ by_kind l _
        (λ k. open_3 l mt s k ∙ no_find mt s l.at l.a l.x l.b l.y l.z n)
        (λ k. open_4 l mt s k ∙ parts_short mt s l.at l.a l.x l.b l.y g w.firsts h (omega (arith, w.one (λ z. omega arith))))
        (λ f k. open_2 l mt s f k ∙ order_short mt s l.at l.a l.x l.b l.y g w.firsts h (omega (arith, w.one f)))))

-- ---- The question is answered.

onward_same : (mt : List ℤ) (kind at : ℕ) → (kind ≡ 4 → ⊥) → onward_of mt kind at ≡ at
unfolding onward_of
onward_same mt kind at f = rw (ne_eqb kind 4 f)

onward_next : (mt : List ℤ) (kind at : ℕ) → kind ≡ 4 → onward_of mt kind at ≡ matcher_end mt at
unfolding onward_of
onward_next mt kind at e = rw (eq-eqb kind 4 e)

pub settled_comes : (mt s : List ℤ) (a b : ℕ) (t : Bool) → comes_to mt s (settled_of a b t) ≡ t
unfolding settled_of level_of comes_to
settled_comes mt s a b true = refl
settled_comes mt s a b false = refl

pub settled_none : (a b : ℕ) (t : Bool) → 0 < (settled_of a b t).x → ⊥
unfolding settled_of level_of
settled_none a b true h = omega arith
settled_none a b false h = omega arith

pub opens_as : (mt s : List ℤ) (a : ℕ) (l : Level) (r w : Bool) → Opens mt s a l r → r ≡ w → Opens mt s a l w
opens_as mt s a l r w o e = record { place = o.place; opens = o.opens; tag = o.tag; comes = o.comes ∙ e; all = o.all; parts = o.parts }

-- A question that has its answer opens a level that has it.
settled_is : (mt s : List ℤ) (a b : ℕ) (t : Bool) → Tag s b → Opens mt s a (settled_of a b t) t
unfolding settled_of level_of comes_to
settled_is mt s a b true w = record { place = refl; opens = λ h. absurd (omega arith); tag = w; comes = refl; all = refl; parts = λ k. absurd (omega arith) }
settled_is mt s a b false w = record { place = refl; opens = λ h. absurd (omega arith); tag = w; comes = refl; all = refl; parts = λ k. absurd (omega arith) }

pub settled_opens : (mt s : List ℤ) (a b : ℕ) (l : Level) (t r : Bool) → Tag s b → l ≡ settled_of a b t → t ≡ r → Opens mt s a l r
settled_opens mt s a b l t r w e q = rw e (opens_as mt s a (settled_of a b t) t r (settled_is mt s a b t w) q)

-- A level on elements or parts that there are.
pub begun_open : (s : List ℤ) (kind at a x b y : ℕ) → (0 < x → Marks s a x) → (0 < x → Marks s b y) → 0 < x → Open s (level_of kind at a x b y)
unfolding level_of
begun_open s kind at a x b y v w h = record { firsts = v h; seconds = w h; tries = w h; one = λ _. refl }

pub level_opens : (mt s : List ℤ) (kind at a x b y : ℕ) (r : Bool) (l : Level) → Marks s a x → Marks s b y → (kind ≡ 4 → y ≡ x) → l ≡ level_of kind at a x b y
    → comes_to mt s (level_of kind at a x b y) ≡ r → Opens mt s a l r
unfolding level_of
level_opens mt s kind at a x b y r l v w f e c = rw e (record {
  place = refl;
  opens = begun_open s kind at a x b y (λ _. v) (λ _. w);
  tag = w.tag;
  comes = c;
  all = refl;
  parts = f;
})

module _ (mt s : List ℤ) (g : Target s) (l : Level) (o : Open s l) (h : 0 < l.x) (n : 0 < l.z) where
  abbrev x' : ℕ
  x' = clear (count_trailing_zeros 64 l.x) l.x

  abbrev y' : ℕ
  y' = clear (count_trailing_zeros 64 l.z) l.y

  abbrev z' : ℕ
  z' = clear (count_trailing_zeros 64 l.z) l.z

  fewer_x : Marks s l.a x'
  fewer_x = marks_clear s l.a l.x (count_trailing_zeros 64 l.x) o.firsts

  fewer_y : Marks s l.b y'
  fewer_y = marks_clear s l.b l.y (count_trailing_zeros 64 l.z) o.seconds

  -- what the level comes to by the answer, for each kind
  by_3 : l.kind ≡ 3 → comes_to mt s l
      ≡ marked_off mt l.at s l.a l.x l.b l.y (cond (question_of mt s l) (count_trailing_zeros 64 l.z) (first_equal mt l.at s (first_of s l) l.b z'))
  unfolding paired_from question_of first_of second_of
  by_3 e = comes_open l mt s h ∙ open_3 l mt s e
      ∙ ap (marked_off mt l.at s l.a l.x l.b l.y) (find_is mt s l.at (element_at s l.a (count_trailing_zeros 64 l.x)) l.b l.z g o.tries n)

  module _ (q : l.z ≡ l.y) where
    some_y : 0 < l.y
    some_y = omega (arith, n, q)

    by_4 : l.kind ≡ 4 → comes_to mt s l ≡ question_of mt s l && parts_of mt (matcher_end mt l.at) (left s l.a x') (left s l.b y')
    unfolding question_of first_of second_of
    by_4 e = comes_open l mt s h ∙ open_4 l mt s e ∙ parts_is mt s l.at l.a l.x l.b l.y g o.firsts o.seconds h some_y ∙ rw q

    by_2 : (l.kind ≡ 3 → ⊥) → (l.kind ≡ 4 → ⊥) → comes_to mt s l ≡ question_of mt s l && left_in_order mt l.at s l.a x' l.b y'
    unfolding question_of first_of second_of
    by_2 e f = comes_open l mt s h ∙ open_2 l mt s e f ∙ order_is mt s l.at l.a l.x l.b l.y g o.firsts o.seconds h some_y ∙ rw q

  marked_low_z : marked_off mt l.at s l.a l.x l.b l.y (count_trailing_zeros 64 l.z) ≡ left_paired mt l.at s l.a x' l.b y'
  unfolding marked_off
  marked_low_z = let k = low_64 s l.b l.z g o.tries n in rw (ne_eqb (count_trailing_zeros 64 l.z) 64 (λ z. omega arith))

  pair_comes : question_of mt s l ≡ true → comes_to mt s (pair_taken mt l) ≡ comes_to mt s l
  unfolding pair_taken level_of
  pair_comes q = by_kind l _
      (λ e. comes_3 (pair_taken mt l) mt s g fewer_y e refl fewer_x ∙ rw (onward_same mt l.kind l.at (λ z. omega arith), by_3 e, q) (sym marked_low_z))
      (λ e. comes_4 (pair_taken mt l) mt s g fewer_y e ∙ rw (onward_next mt l.kind l.at e, by_4 (o.one (λ z. omega arith)) e, q))
      (λ e f. comes_2 (pair_taken mt l) mt s g fewer_y e f ∙ rw (onward_same mt l.kind l.at f, by_2 (o.one e) e f, q))

  other_comes : question_of mt s l ≡ false → l.kind ≡ 3 → comes_to mt s (other_tried l) ≡ comes_to mt s l
  unfolding other_tried paired_from first_of
  other_comes q e = comes_open (other_tried l) mt s h ∙ open_3 (other_tried l) mt s e ∙ rw (by_3 e, q)

  none_comes : question_of mt s l ≡ false → (l.kind ≡ 3 → ⊥) → false ≡ comes_to mt s l
  none_comes q f = by_kind l _
      (λ e. absurd (f e))
      (λ e. rw (by_4 (o.one f) e, q))
      (λ e k. rw (by_2 (o.one f) e k, q))

  pub taken_comes : (r : Bool) → r ≡ question_of mt s l → comes_to mt s (taken_of mt l r) ≡ comes_to mt s l
  unfolding taken_of
  taken_comes true q = pair_comes (sym q)
  taken_comes false q = go (ℕ_discrete l.kind 3)
    where
      go : Dec (l.kind ≡ 3) → comes_to mt s (cond (eqb l.kind 3) (other_tried l) (settled_of l.a l.b false)) ≡ comes_to mt s l
      go (yes e) = rw (eq-eqb l.kind 3 e) (other_comes (sym q) e)
      go (no f) = rw (ne_eqb l.kind 3 f) (settled_comes mt s l.a l.b false ∙ none_comes (sym q) f)

  pair_open : Open s (pair_taken mt l)
  unfolding pair_taken level_of
  pair_open = record { firsts = fewer_x; seconds = fewer_y; tries = fewer_y; one = λ f. refl }

  other_open : l.kind ≡ 3 → Open s (other_tried l)
  unfolding other_tried
  other_open e = record { firsts = o.firsts; seconds = o.seconds; tries = marks_clear s l.b l.z (count_trailing_zeros 64 l.z) o.tries; one = λ f. absurd (f e) }

  pub taken_open : (r : Bool) → 0 < (taken_of mt l r).x → Open s (taken_of mt l r)
  unfolding taken_of
  taken_open true k = pair_open
  taken_open false k = go (ℕ_discrete l.kind 3)
    where
      go : Dec (l.kind ≡ 3) → Open s (cond (eqb l.kind 3) (other_tried l) (settled_of l.a l.b false))
      go (yes e) = rw (eq-eqb l.kind 3 e) (other_open e)
      go (no f) = absurd (settled_none l.a l.b false (rw (ne_eqb l.kind 3 f) at k))

pub taken_place : (mt : List ℤ) (l : Level) (r : Bool) → (taken_of mt l r).a ≡ l.a
unfolding taken_of pair_taken other_tried settled_of level_of
taken_place mt l true = refl
taken_place mt l false = go (eqb l.kind 3)
  where
    go : (t : Bool) → (cond t (other_tried l) (settled_of l.a l.b false)).a ≡ l.a
    go true = refl
    go false = refl

-- ---- How much a level may still ask: each answer makes it less.

unfoldable pub asks : List ℤ → Level → ℕ
asks s l = count (left s l.a l.x) * 65 + count (left s l.b l.z)

settled_asks : (s : List ℤ) (a b : ℕ) (t : Bool) → Target s → Tag s b → asks s (settled_of a b t) ≤ 64
unfolding asks settled_of level_of count
settled_asks s a b true g w = rw (left_none s a 0 (omega arith)) (omega (arith, left_64 s b 0 g w))
settled_asks s a b false g w = rw (left_none s a 0 (omega arith)) (omega (arith, left_64 s b 1 g w))

pub opens_asks : (mt s : List ℤ) (a : ℕ) (l : Level) (r : Bool) → Target s → Opens mt s a l r → asks s l + 1 < 5000
unfolding asks count
opens_asks mt s a l r g o = go (dec_le l.x 0)
  where
    go : Dec (l.x ≤ 0) → count (left s l.a l.x) * 65 + count (left s l.b l.z) + 1 < 5000
    go (yes u) = rw (left_none s l.a l.x u) (omega (arith, left_64 s l.b l.z g o.tag))
    go (no u) = let w = o.opens (omega arith) in omega (arith, left_64 s l.a l.x g w.firsts.tag, left_64 s l.b l.z g o.tag)

module _ (mt s : List ℤ) (g : Target s) (l : Level) (o : Open s l) (h : 0 < l.x) (n : 0 < l.z) where
  pair_less : asks s (pair_taken mt l) < asks s l
  unfolding asks pair_taken level_of
  pair_less = omega (arith, low_count s l.a l.x g o.firsts h, left_64 s l.b (clear (count_trailing_zeros 64 l.z) l.y) g o.seconds.tag)

  other_less : asks s (other_tried l) < asks s l
  unfolding asks other_tried
  other_less = omega (arith, low_count s l.b l.z g o.tries n)

  none_less : asks s (settled_of l.a l.b false) < asks s l
  unfolding asks
  none_less = omega (arith, settled_asks s l.a l.b false g o.tries.tag, low_count s l.a l.x g o.firsts h)

  pub taken_less : (r : Bool) → asks s (taken_of mt l r) < asks s l
  unfolding taken_of
  taken_less true = pair_less
  taken_less false = go (eqb l.kind 3)
    where
      go : (t : Bool) → asks s (cond t (other_tried l) (settled_of l.a l.b false)) < asks s l
      go true = other_less
      go false = none_less
