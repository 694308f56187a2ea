-- What the code of a level asks: its outcome, the level after an answer, its question, the table, and two held values. Assumes nothing.
use mathlib.Core.Path.{◌≡◌, sym, ◌∙◌, ap}
use mathlib.Core.Bool.{Bool, true, false}
use mathlib.Core.List.{List}
use Prim.Native.Nat.{ℕ, zero, suc, ◌+◌, ◌-◌, ◌^◌, ◌<◌, ◌≤◌}
use native.Mathlib.Omega.{arith}
use borrow.Author.Rules.{rules}
use borrow.Author.Tests.{eq-eqb, ne_eqb}
use lib.Dec.{eqb, eqb-suc-zero}
use lib.ListN.{get_or, set, replicate, length-replicate}
use lib.IntN.{ℤ}
use lib.Count.{count_trailing_zeros}
use Rattle.words.specs.Marks.{clear}
use Rattle.words.proofs.marks.Places.{low_lt}
use Rattle.matchers.specs.Places.{matcher_end}
use Rattle.value_places.specs.Places.{count_at, Target, Tag, element_at}
use Rattle.value_places.specs.Held.{Held, whole_at}
use Rattle.value_places.proofs.Held.{whole_held}
use Rattle.value_equality.specs.declared.Level.{Level}
use Rattle.value_equality.specs.Equality.{equal_at}
use Rattle.value_equality.specs.Levels.{ended_of, outcome_of, level_of, onward_of, settled_of, pair_taken, other_tried, taken_of, first_of, second_of, question_of, comes_to, Marks, Open, Opens}
use Rattle.value_equality.proofs.Marks.{marks_64, low_in, low_tag}
use Rattle.value_equality.proofs.Comparing.{wholes_equal_lem}
use Rattle.value_equality.proofs.Levels.{begun_open, opens_as}
use Rattle.value_equality.proofs.Table.{none, Waits, Going, to_go, going_start, going_end, going_back, going_room, going_on, back_less, on_less}

-- ---- The outcome, and a level that has its answer.

module _ (x y : ℕ) where
  pub ended_none : x ≡ 0 → true ≡ ended_of x y
  unfolding ended_of
  ended_none e = rw (eq-eqb x 0 e)

  pub ended_some : (x ≡ 0 → ⊥) → eqb y 0 ≡ ended_of x y
  unfolding ended_of
  ended_some f = rw (ne_eqb x 0 f)

  pub outcome_none : x ≡ 0 → eqb y 0 ≡ outcome_of x y
  unfolding outcome_of
  outcome_none e = rw (eq-eqb x 0 e)

  pub outcome_some : (x ≡ 0 → ⊥) → false ≡ outcome_of x y
  unfolding outcome_of
  outcome_some f = rw (ne_eqb x 0 f)

module _ (a b : ℕ) (r : Bool) (l : Level) where
  pub settled_yes : r ≡ true → l ≡ level_of 2 0 a 0 b 0 → l ≡ settled_of a b r
  unfolding settled_of
  settled_yes e q = q ∙ rw e

  pub settled_no : r ≡ false → l ≡ level_of 2 0 a 0 b 1 → l ≡ settled_of a b r
  unfolding settled_of
  settled_no e q = q ∙ rw e

pub ruleset answer_rules = (ended_none, ended_some, outcome_none, outcome_some, settled_yes, settled_no, rules)

-- ---- The level after an answer.

module _ (mt : List ℤ) (kind at : ℕ) where
  pub onward_part : (r : ℕ) → kind ≡ 4 → r ≡ matcher_end mt at → r ≡ onward_of mt kind at
  unfolding onward_of
  onward_part r e q = q ∙ rw (eq-eqb kind 4 e)

  pub onward_at : (kind ≡ 4 → ⊥) → at ≡ onward_of mt kind at
  unfolding onward_of
  onward_at f = rw (ne_eqb kind 4 f)

pub taken_low : (z k : ℕ) → 0 < z → z < 2 ^ 64 → k ≡ count_trailing_zeros 64 z → k < 64
taken_low z k h l e = rw e (low_lt 64 z h l)

module _ (mt : List ℤ) (l : Level) (r : Bool) where
  pub taken_pair : (u : Level) (next k left x' : ℕ) → r ≡ true → next ≡ onward_of mt l.kind l.at → k ≡ count_trailing_zeros 64 l.z → left ≡ clear k l.y
      → x' ≡ clear (count_trailing_zeros 64 l.x) l.x → u ≡ level_of l.kind next l.a x' l.b left → u ≡ taken_of mt l r
  unfolding taken_of pair_taken
  taken_pair u next k left x' e p d q c j = j ∙ rw (e, p, q, d, c)

  pub taken_other : (z' : ℕ) → r ≡ false → l.kind ≡ 3 → z' ≡ clear (count_trailing_zeros 64 l.z) l.z
      → record { kind = l.kind; at = l.at; a = l.a; x = l.x; b = l.b; y = l.y; z = z' } ≡ taken_of mt l r
  unfolding taken_of other_tried
  taken_other z' e k q = rw (e, eq-eqb l.kind 3 k, q)

  pub taken_none : (u : Level) → r ≡ false → (l.kind ≡ 3 → ⊥) → u ≡ settled_of l.a l.b false → u ≡ taken_of mt l r
  unfolding taken_of
  taken_none u e f q = q ∙ rw (e, ne_eqb l.kind 3 f)

pub ruleset taken_rules = (onward_part, onward_at, taken_low, taken_pair, taken_other, taken_none, rules)

-- ---- The question.

module _ (s : List ℤ) (l : Level) (o : Open s l) where
  pub asked_a : Tag s l.a
  asked_a = o.firsts.tag

  pub asked_b : Tag s l.b
  asked_b = o.tries.tag

  module _ (g : Target s) (j : ℕ) where
    pub asked_in_a : 0 < l.x → j ≡ count_trailing_zeros 64 l.x → j < count_at s l.a
    asked_in_a h e = rw e (low_in s l.a l.x g o.firsts h)

    pub asked_in_b : 0 < l.z → j ≡ count_trailing_zeros 64 l.z → j < count_at s l.b
    asked_in_b h e = rw e (low_in s l.b l.z g o.tries h)

    pub asked_tag_a : (e : ℕ) → 0 < l.x → j ≡ count_trailing_zeros 64 l.x → e ≡ element_at s l.a j → Tag s e
    asked_tag_a e h d q = rw (q, d) (low_tag s l.a l.x g o.firsts h)

    pub asked_tag_b : (e : ℕ) → 0 < l.z → j ≡ count_trailing_zeros 64 l.z → e ≡ element_at s l.b j → Tag s e
    asked_tag_b e h d q = rw (q, d) (low_tag s l.b l.z g o.tries h)

pub wholes_held : (s : List ℤ) (a x : ℕ) → Target s → Tag s a → x ≡ whole_at s a → Held s a x
wholes_held s a x g w e = rw e (whole_held s a g w)

pub asked_opens : (mt s : List ℤ) (l r : Level) (j k e f x y : ℕ) → j ≡ count_trailing_zeros 64 l.x → k ≡ count_trailing_zeros 64 l.z → e ≡ element_at s l.a j → f ≡ element_at s l.b k
    → x ≡ whole_at s e → y ≡ whole_at s f → Target s → Tag s e → Tag s f → Opens mt s e r (equal_at mt l.at s e x f y) → Opens mt s (first_of s l) r (question_of mt s l)
unfolding first_of second_of question_of
asked_opens mt s l r j k e f x y dj dk p q u v g t w o =
    rw (← dj, ← dk, ← p, ← q) (opens_as mt s e r _ _ (rw (u, v) at o) (wholes_equal_lem mt s l.at e f g t w))

pub ruleset asked_rules = (asked_a, asked_b, asked_in_a, asked_in_b, asked_tag_a, asked_tag_b, wholes_held, rules)

-- ---- The table.

pub table_start : (mt s : List ℤ) (kind at a x b y : ℕ) (l : Level) → Target s → Tag s a → (0 < x → Open s (level_of kind at a x b y)) → l ≡ level_of kind at a x b y
    → Going mt s (comes_to mt s (level_of kind at a x b y)) (replicate 8 l) 0 l
unfolding level_of
table_start mt s kind at a x b y l g v o e = rw e (going_start mt s _ (level_of kind at a x b y) g v o (length-replicate 8 (level_of kind at a x b y)))

pub some_x : (x z : ℕ) (c : Bool) → c ≡ ended_of x z → c ≡ false → 0 < x
unfolding ended_of
some_x zero z c e f = let q : false ≡ true = sym f ∙ e in let y : ◌≡◌ {A = ℕ} 0 1 = cc in absurd (omega arith)
some_x (suc x) z c e f = omega arith

pub some_z : (x z : ℕ) (c : Bool) → c ≡ ended_of x z → c ≡ false → 0 < z
unfolding ended_of
some_z x (suc z) c e f = omega arith
some_z zero zero c e f = let q : false ≡ true = sym f ∙ e in let y : ◌≡◌ {A = ℕ} 0 1 = cc in absurd (omega arith)
some_z (suc x) zero c e f = let q : false ≡ true = sym f ∙ e ∙ rw (eqb-suc-zero x) in let y : ◌≡◌ {A = ℕ} 0 1 = cc in absurd (omega arith)

module _ (mt s : List ℤ) (w : Bool) (t : List Level) (d : ℕ) (l : Level) (i : Going mt s w t d l) where
  pub table_open : 0 < l.x → Open s l
  table_open h = i.shape h

  pub table_back : (d ≡ 0 → ⊥) → d - 1 < 8
  table_back f = let q = i.deep in omega arith

  pub table_step : (d ≡ 0 → ⊥) → 1 ≤ d
  table_step f = omega arith

  module _ (f : d ≡ 0 → ⊥) where
    last : Waits s (get_or t (d - 1) none) (d - 1)
    last = i.waits (d - 1) (omega arith)

    pub last_x : 0 < (get_or t (d - 1) none).x
    last_x = last.first

    pub last_z : 0 < (get_or t (d - 1) none).z
    last_z = last.second

    pub last_64 : Target s → (get_or t (d - 1) none).z < 2 ^ 64
    last_64 g = marks_64 s (get_or t (d - 1) none).b (get_or t (d - 1) none).z g last.shape.tries

  module _ (g : Target s) (c r : Bool) (k : c ≡ ended_of l.x l.z) (e : c ≡ true) (q : r ≡ outcome_of l.x l.y) where
    pub table_end : d ≡ 0 → r ≡ w
    table_end z = going_end mt s w t d l g i r (sym k ∙ e) q z

    module _ (f : d ≡ 0 → ⊥) (l' : Level) (u : l' ≡ taken_of mt (get_or t (d - 1) none) r) where
      pub table_taken : Going mt s w t (d - 1) l'
      table_taken = going_back mt s w t d l g i r (sym k ∙ e) q f l' u

      pub table_taken_less : to_go s t (d - 1) l' < to_go s t d l
      table_taken_less = back_less mt s w t d l g i r (sym k ∙ e) q f l' u

  module _ (g : Target s) (h : 0 < l.x) (n : 0 < l.z) where
    pub table_room : d < 8
    table_room = going_room mt s w t d l g i h n

    module _ (l' : Level) (o : Opens mt s (first_of s l) l' (question_of mt s l)) where
      pub table_asked : Going mt s w (set t d l) (d + 1) l'
      table_asked = going_on mt s w t d l g i h n l' o

      pub table_asked_less : to_go s (set t d l) (d + 1) l' < to_go s t d l
      table_asked_less = on_less mt s w t d l g i h n l' o

pub ruleset table_rules = (table_start, some_x, some_z, table_open, table_back, table_step, last_x, last_z, last_64, table_end, table_taken, table_taken_less, table_room, table_asked, table_asked_less, rules)

-- ---- A question of two held values.

module _ (mt s : List ℤ) (a : ℕ) (w : Bool) (l : Level) (o : Opens mt s a l w) where
  level_is : level_of l.kind l.at l.a l.x l.b l.y ≡ l
  unfolding level_of
  level_is = rw (← o.all)

  parts_are : l.kind ≡ 4 → level_of 4 l.at l.a l.x l.b l.x ≡ l
  parts_are k = let q = o.parts k in let e = level_is in cc

  pub equal_tag : (am : ℕ) → Held s a am → Tag s l.a
  equal_tag am v = rw o.place v.tag

  pub equal_firsts : 0 < l.x → Marks s l.a l.x
  equal_firsts h = (o.opens h).firsts

  pub equal_seconds : 0 < l.x → Marks s l.b l.y
  equal_seconds h = (o.opens h).seconds

  pub parts_seconds : l.kind ≡ 4 → 0 < l.x → Marks s l.b l.x
  parts_seconds k h = rw (← o.parts k) (o.opens h).seconds

  pub equal_comes : (r : Bool) → r ≡ comes_to mt s (level_of l.kind l.at l.a l.x l.b l.y) → r ≡ w
  equal_comes r e = e ∙ ap (comes_to mt s) level_is ∙ o.comes

  pub parts_come : (r : Bool) → l.kind ≡ 4 → r ≡ comes_to mt s (level_of 4 l.at l.a l.x l.b l.x) → r ≡ w
  parts_come r k e = e ∙ ap (comes_to mt s) (parts_are k) ∙ o.comes

pub ruleset equal_rules = (begun_open, equal_tag, equal_firsts, equal_seconds, parts_seconds, equal_comes, parts_come, rules)
