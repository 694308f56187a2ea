-- The table of levels: what the open levels come to, that one is always free, and that the comparison ends. Assumes nothing.
use mathlib.Core.Path.{◌≡◌, refl, sym, ◌∙◌, ap}
use mathlib.Core.Bool.{Bool, true}
use mathlib.Core.List.{List}
use Prim.Native.Nat.{ℕ, zero, suc, ◌+◌, ◌-◌, ◌*◌, ◌<◌, ◌≤◌}
use native.Mathlib.Nat.{mul_assoc, mul-lt-mul_of_pos_right}
use native.Mathlib.Numerals.{add-one}
use native.Mathlib.Omega.{arith}
use native.Mathlib.Decide.{ℕ_discrete}
use lib.ListN.{length, get_or, set, length-set}
use lib.Seq.{get_or-set_same, get_or-set_other}
use lib.IntN.{ℤ}
use Rattle.forms.specs.Written.{deepest}
use Rattle.value_places.specs.Places.{value_at, Target, Tag}
use Rattle.value_equality.specs.declared.Level.{Level}
use Rattle.value_equality.specs.Levels.{ended_of, outcome_of, taken_of, first_of, question_of, comes_to, Open, Opens}
use Rattle.value_equality.proofs.Marks.{low_deep}
use Rattle.value_equality.proofs.Levels.{ended_comes, taken_comes, taken_open, taken_place, asks, opens_asks, taken_less}

abbrev pub none : Level
none = record { kind = 0; at = 0; a = 0; x = 0; b = 0; y = 0; z = 0 }

-- What the first d levels come to when the question of the last of them is answered.
unfoldable pub folded : List ℤ → List ℤ → List Level → ℕ → Bool → Bool
folded mt s t zero r = r
folded mt s t (suc k) r = folded mt s t k (comes_to mt s (taken_of mt (get_or t k none) r))

-- A level that waits for an answer, k others below it.
pub record Waits (s : List ℤ) (l : Level) (k : ℕ) : Type 0 where
  pub shape : Open s l
  pub first : 0 < l.x
  pub second : 0 < l.z
  pub deep : deepest (value_at s l.a) + k ≤ 8

-- The answer wanted is w; d levels of the table wait, and l is at work.
pub record Going (mt s : List ℤ) (w : Bool) (t : List Level) (d : ℕ) (l : Level) : Type 0 where
  pub answer : w ≡ folded mt s t d (comes_to mt s l)
  pub long : length t ≡ 8
  pub waits : (k : ℕ) → k < d → Waits s (get_or t k none) k
  pub shape : 0 < l.x → Open s l
  pub deep : deepest (value_at s l.a) + d ≤ 8

folded_set : (mt s : List ℤ) (t : List Level) (d : ℕ) (l : Level) (k : ℕ) (r : Bool) → k ≤ d → folded mt s (set t d l) k r ≡ folded mt s t k r
unfolding folded
folded_set mt s t d l zero r h = refl
folded_set mt s t d l (suc k) r h = rw (get_or-set_other t d k l none (λ z. omega arith)) (folded_set mt s t d l k (comes_to mt s (taken_of mt (get_or t k none) r)) (omega arith))

-- ---- The start, and the end.

pub going_start : (mt s : List ℤ) (t : List Level) (l : Level) → Target s → Tag s l.a → (0 < l.x → Open s l) → length t ≡ 8 → Going mt s (comes_to mt s l) t 0 l
unfolding folded
going_start mt s t l g v o h = record {
  answer = refl;
  long = h;
  waits = λ k j. absurd (omega arith);
  shape = o;
  deep = let q = g.deep l.a v in omega arith;
}

module _ (mt s : List ℤ) (w : Bool) (t : List Level) (d : ℕ) (l : Level) (g : Target s) (i : Going mt s w t d l) where
  module _ (r : Bool) (e : ended_of l.x l.z ≡ true) (q : r ≡ outcome_of l.x l.y) where
    going_answer : w ≡ folded mt s t d r
    going_answer = i.answer ∙ ap (folded mt s t d) (sym (q ∙ ended_comes mt s l g i.shape e))

    pub going_end : d ≡ 0 → r ≡ w
    unfolding folded
    going_end z = sym (going_answer ∙ rw z)

    module _ (f : d ≡ 0 → ⊥) where
      last_waits : Waits s (get_or t (d - 1) none) (d - 1)
      last_waits = i.waits (d - 1) (omega arith)

      folded_last : w ≡ folded mt s t (d - 1) (comes_to mt s (taken_of mt (get_or t (d - 1) none) r))
      unfolding folded
      folded_last = going_answer ∙ (let z : d ≡ suc (d - 1) = omega arith in ap (λ (n : ℕ). folded mt s t n r) z)

      pub going_back : (l' : Level) → l' ≡ taken_of mt (get_or t (d - 1) none) r → Going mt s w t (d - 1) l'
      going_back l' u = rw u (record {
        answer = folded_last;
        long = i.long;
        waits = λ k j. i.waits k (omega arith);
        shape = taken_open mt s g (get_or t (d - 1) none) last_waits.shape last_waits.first last_waits.second r;
        deep = rw (taken_place mt (get_or t (d - 1) none) r) last_waits.deep;
      })

  module _ (h : 0 < l.x) (n : 0 < l.z) where
    next_deep : deepest (value_at s (first_of s l)) < deepest (value_at s l.a)
    unfolding first_of
    next_deep = low_deep s l.a l.x g (i.shape h).firsts h

    pub going_room : d < 8
    going_room = let q = i.deep in omega (arith, next_deep)

    -- Its question is answered at once, and it stays the level at work.
    pub going_stay : (r : Bool) → r ≡ question_of mt s l → (l' : Level) → l' ≡ taken_of mt l r → Going mt s w t d l'
    going_stay r q l' u = rw u (record {
      answer = i.answer ∙ ap (folded mt s t d) (sym (taken_comes mt s g l (i.shape h) h n r q));
      long = i.long;
      waits = i.waits;
      shape = taken_open mt s g l (i.shape h) h n r;
      deep = rw (taken_place mt l r) i.deep;
    })

    module _ (l' : Level) (o : Opens mt s (first_of s l) l' (question_of mt s l)) where
      same_last : get_or (set t d l) d none ≡ l
      same_last = get_or-set_same t d l none (omega (arith, i.long, going_room))

      next_answer : w ≡ folded mt s (set t d l) (suc d) (comes_to mt s l')
      unfolding folded
      next_answer =
          i.answer
          ∙ ap (folded mt s t d) (sym (taken_comes mt s g l (i.shape h) h n (comes_to mt s l') o.comes))
          ∙ sym (rw same_last (folded_set mt s t d l d (comes_to mt s (taken_of mt l (comes_to mt s l'))) (omega arith)))

      next_waits : (k : ℕ) → k < suc d → Waits s (get_or (set t d l) k none) k
      next_waits k j = go (ℕ_discrete k d)
        where
          go : Dec (k ≡ d) → Waits s (get_or (set t d l) k none) k
          go (yes z) = rw (z, same_last) (record { shape = i.shape h; first = h; second = n; deep = i.deep })
          go (no z) = rw (get_or-set_other t d k l none z) (i.waits k (omega arith))

      pub going_on : Going mt s w (set t d l) (d + 1) l'
      going_on = rw (add-one d) (record {
        answer = next_answer;
        long = length-set t d l ∙ i.long;
        waits = next_waits;
        shape = o.opens;
        deep = rw o.place (let q = i.deep in omega (arith, next_deep));
      })

-- ---- It ends: what the levels may still ask, a level's worth more than all that may be opened above it.

unfoldable worth : ℕ → ℕ
worth zero = 1
worth (suc n) = 5000 * worth n

worth_pos : (n : ℕ) → 0 < worth n
unfolding worth
worth_pos zero = omega arith
worth_pos (suc n) = let r = worth_pos n in omega arith

unfoldable below : List ℤ → List Level → ℕ → ℕ
unfolding asks
below s t zero = 0
below s t (suc k) = below s t k * 5000 + asks s (get_or t k none)

unfoldable pub to_go : List ℤ → List Level → ℕ → Level → ℕ
unfolding worth below
to_go s t d l = (below s t d * 5000 + asks s l + 1) * worth (8 - d)

below_set : (s : List ℤ) (t : List Level) (d : ℕ) (l : Level) (k : ℕ) → k ≤ d → below s (set t d l) k ≡ below s t k
unfolding below
below_set s t d l zero h = refl
below_set s t d l (suc k) h = rw (get_or-set_other t d k l none (λ z. omega arith), below_set s t d l k (omega arith))

below_last : (s : List ℤ) (t : List Level) (d : ℕ) → (d ≡ 0 → ⊥) → below s t d ≡ below s t (d - 1) * 5000 + asks s (get_or t (d - 1) none)
unfolding below
below_last s t zero f = absurd (f refl)
below_last s t (suc d) f = let z : suc d - 1 ≡ d = omega arith in rw z

open_less : (u p n : ℕ) → p + 1 < 5000 → (u * 5000 + p + 1) * worth n < (u + 1) * worth (suc n)
unfolding worth
open_less u p n h = rw (← mul_assoc (u + 1) 5000 (worth n)) (mul-lt-mul_of_pos_right (omega arith) (worth_pos n))

close_less : (u p q c n : ℕ) → p < q → (u + p + 1) * worth (suc n) < ((u + q) * 5000 + c + 1) * worth n
unfolding worth
close_less u p q c n h = rw (← mul_assoc (u + p + 1) 5000 (worth n)) (mul-lt-mul_of_pos_right (omega arith) (worth_pos n))

module _ (mt s : List ℤ) (w : Bool) (t : List Level) (d : ℕ) (l : Level) (g : Target s) (i : Going mt s w t d l) where
  pub back_less : (r : Bool) → ended_of l.x l.z ≡ true → r ≡ outcome_of l.x l.y → (d ≡ 0 → ⊥) → (l' : Level) → l' ≡ taken_of mt (get_or t (d - 1) none) r → to_go s t (d - 1) l' < to_go s t d l
  unfolding to_go
  back_less r e q f l' u =
      let v = last_waits mt s w t d l g i r e q f in
      let a : 8 - (d - 1) ≡ suc (8 - d) = let z = i.deep in omega arith in
      let b : below s t d ≡ below s t (d - 1) * 5000 + asks s (get_or t (d - 1) none) = below_last s t d f in
      rw (u, a, b) (close_less (below s t (d - 1) * 5000) _ _ (asks s l) (8 - d)
      (taken_less mt s g (get_or t (d - 1) none) v.shape v.first v.second r))

  pub on_less : 0 < l.x → 0 < l.z → (l' : Level) → Opens mt s (first_of s l) l' (question_of mt s l) → to_go s (set t d l) (d + 1) l' < to_go s t d l
  unfolding to_go below
  on_less h n l' o =
      let a : 8 - d ≡ suc (8 - suc d) = let z = going_room mt s w t d l g i h n in omega arith in
      rw (add-one d, a, same_last mt s w t d l g i h n l' o, below_set s t d l d (omega arith))
      (open_less (below s t d * 5000 + asks s l) (asks s l') (8 - suc d) (opens_asks mt s (first_of s l) l' (question_of mt s l) g o))

  pub stay_less : 0 < l.x → 0 < l.z → (r : Bool) (l' : Level) → l' ≡ taken_of mt l r → to_go s t d l' < to_go s t d l
  unfolding to_go
  stay_less h n r l' u = rw u (mul-lt-mul_of_pos_right (omega (arith, taken_less mt s g l (i.shape h) h n r)) (worth_pos (8 - d)))
