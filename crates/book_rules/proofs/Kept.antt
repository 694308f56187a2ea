-- Document 02, No. 7, for whole calls: a refused call changes nothing; of a good book where an add goes, the total, and what is found.
use Prim.Native.Nat.{ℕ, zero, suc, ◌<◌, ◌≤◌, min}
use native.Mathlib.Omega.{arith}
use Rattle.std.proofs.Math.Path.{◌≡◌, refl, sym, ap}
use Rattle.std.proofs.Common.{◌∙◌, subst, length-take, eqb→eq, leb→le, le→leb, ltb→lt}
use Rattle.std.specs.Prelude.{Bool, true, ◌≢◌, [], length, get_or, leb, ltb, T}
use Rattle.std.proofs.Math.Bool.{false}
use Rattle.std.proofs.Math.Option.{Option, none, some}
use Rattle.book_rules.specs.Sums.{and_also}
use Rattle.book_rules.specs.Blocks.{Block, Entry, badge_of, unless, or_else, holds, taken}
use Rattle.book_rules.specs.Books.{Book, in_use, walk, fault, Told, unless_refused, changed, place, withdrawn, live, total, read_at, read, withdraw_from, withdraw, growth, slot_or, slot, add_fault, add_in, add}
use Rattle.book_rules.proofs.Round.{is_true, is_false, holds_true}
use Rattle.book_rules.proofs.Walks.{holds_zero, held_is, First, place_some, place_none, or_first, or_second, or_both, last_test, and_also_fst, and_also_snd}

-- ---- (e) A refused call changes no block.

pub refused_kept : (n : ℕ) (b : Book) (t : Told) → n ≢ 0 → (unless_refused n b t).book ≡ b
unfolding unless_refused
refused_kept zero b t h = absurd (h refl)
refused_kept (suc n) b t h = refl

answer_is : (n : ℕ) (b : Book) (t : Told) → t.answer ≡ 0 → (unless_refused n b t).answer ≡ n
unfolding unless_refused
answer_is zero b t h = h
answer_is (suc n) b t h = refl

kept : (n : ℕ) (b : Book) (t : Told) → t.answer ≡ 0 → (unless_refused n b t).answer ≢ 0 → (unless_refused n b t).book ≡ b
kept n b t h r = refused_kept n b t (λ z. r (answer_is n b t h ∙ z))

in_answer : (e : Entry) (b : Book) (o : Option ℕ) → (add_in e b o).answer ≡ 0
unfolding add_in changed
in_answer e b none = refl
in_answer e b (some i) = refl

from_answer : (b : Book) (o : Option ℕ) → (withdraw_from b o).answer ≡ 0
unfolding withdraw_from changed
from_answer b none = refl
from_answer b (some i) = refl

pub refused_add_kept : (e : Entry) (b : Book) → (add e b).answer ≢ 0 → (add e b).book ≡ b
unfolding add
refused_add_kept e b h = kept (add_fault e b) b (add_in e b (slot b)) (in_answer e b (slot b)) h

pub refused_withdraw_kept : (x : ℕ) (b : Book) → (withdraw x b).answer ≢ 0 → (withdraw x b).book ≡ b
unfolding withdraw
refused_withdraw_kept x b h = kept (or_else (fault b) (unless (taken x (in_use b)) 23)) b (withdraw_from b (place (holds x) (in_use b))) (from_answer b (place (holds x) (in_use b))) h

pub total_kept : (b : Book) → (total b).book ≡ b
unfolding total
total_kept b = either (fault b)
  where
    either : (n : ℕ) → (unless_refused n b (record { answer = 0; number = live (in_use b); found = none; book = b })).book ≡ b
    either zero = unfold unless_refused in refl
    either (suc n) = unfold unless_refused in refl

pub read_kept : (x : ℕ) (b : Book) → (read x b).book ≡ b
unfolding read
read_kept x b = either (fault b) (place (holds x) (in_use b))
  where
    either : (n : ℕ) (o : Option ℕ) → (unless_refused n b (read_at b o)).book ≡ b
    either zero none = unfold unless_refused read_at in refl
    either zero (some i) = unfold unless_refused read_at in refl
    either (suc n) o = unfold unless_refused in refl

-- ---- A good book.

pub good_walk : (b : Book) → fault b ≡ 0 → walk 0 [] (in_use b) ≡ 0
unfolding fault
good_walk b h = or_first (walk 0 [] (in_use b)) _ h

pub good_lent : (b : Book) → fault b ≡ 0 → b.used ≤ length b.lent
unfolding fault
good_lent b h = leb→le b.used (length b.lent) (holds_true (last_test (leb b.used (length b.lent)) 13 (omega arith) (or_second (walk 0 [] (in_use b)) _ h)))

pub good_book : (b : Book) → walk 0 [] (in_use b) ≡ 0 → b.used ≤ length b.lent → fault b ≡ 0
unfolding fault
good_book b h l = or_both h (unfold unless in ap (λ (x : Bool). unless x 13) (is_true (leb b.used (length b.lent)) (le→leb b.used (length b.lent) l)))

pub in_use_long : (b : Book) → b.used ≤ length b.lent → length (in_use b) ≡ b.used
in_use_long b l = length-take b.used b.lent ∙ least b.used (length b.lent) l
  where
    least : (m n : ℕ) → m ≤ n → min m n ≡ m
    least m n h = omega arith

-- ---- (f) Where an add goes: the lowest withdrawn block; only where there is none, the next lent one.

pub data Slot (b : Book) (i : ℕ) : Type 0 where
  lowest : First withdrawn (in_use b) i → Slot b i
  grown : ((j : ℕ) → j < length (in_use b) → withdrawn (get_or (in_use b) j []) ≡ false) → i ≡ b.used → b.used < length b.lent → b.used < 65536 → Slot b i

pub slot_is : (b : Book) (i : ℕ) → slot b ≡ some i → Slot b i
unfolding slot
slot_is b i h = by (place withdrawn (in_use b)) refl h
  where
    next : (t : Bool) → and_also (ltb b.used (length b.lent)) (ltb b.used 65536) ≡ t → place withdrawn (in_use b) ≡ none → growth b ≡ some i → Slot b i
    next true p e q =
        let c : growth b ≡ some b.used = unfold growth in rw (p, growth) in
        let s : some b.used ≡ some i = sym c ∙ q in
        let u : b.used ≡ i = cc in
        grown (place_none withdrawn (in_use b) e) (sym u)
        (ltb→lt b.used (length b.lent) (holds_true (and_also_fst (ltb b.used (length b.lent)) (ltb b.used 65536) p)))
        (ltb→lt b.used 65536 (holds_true (and_also_snd (ltb b.used (length b.lent)) (ltb b.used 65536) p)))
    next false p e q =
        let c : growth b ≡ none = unfold growth in rw (p, growth) in
        let s : none ≡ some i = sym c ∙ q in
        let z : ◌≡◌ {A = ℕ} 0 1 = cc in
        absurd (clash z)
      where
        clash : ◌≡◌ {A = ℕ} 0 1 → ⊥
        clash c = omega arith

    by : (o : Option ℕ) → place withdrawn (in_use b) ≡ o → slot_or (place withdrawn (in_use b)) (growth b) ≡ some i → Slot b i
    by (some j) e h =
        let s : some j ≡ some i = sym (unfold slot_or in ap (λ (x : Option ℕ). slot_or x (growth b)) e) ∙ h in
        let u : j ≡ i = cc in
        lowest (place_some withdrawn (in_use b) i (e ∙ ap some u))
    by none e h = next (and_also (ltb b.used (length b.lent)) (ltb b.used 65536)) refl e (sym (unfold slot_or in ap (λ (x : Option ℕ). slot_or x (growth b)) e) ∙ h)

pub record Place (b : Book) (i : ℕ) : Type 0 where
  pub low : i ≤ b.used
  pub lent : i < length b.lent
  pub seen : i ≤ length (in_use b)
  pub free : i < length (in_use b) → withdrawn (get_or (in_use b) i []) ≡ true

pub placed_by : (b : Book) (i : ℕ) → b.used ≤ length b.lent → Slot b i → Place b i
placed_by b i l (lowest f) =
    let n = in_use_long b l in
    let m = f.inside in
    record { low = omega arith; lent = omega arith; seen = omega arith; free = λ _. f.passes }
placed_by b i l (grown full e m k) =
    let n = in_use_long b l in
    record { low = omega arith; lent = omega arith; seen = omega arith; free = λ h. absurd (over n e h) }
  where
    over : length (in_use b) ≡ b.used → i ≡ b.used → i < length (in_use b) → ⊥
    over p q r = omega arith

-- The total of a good book is the number of its live rules.
pub total_is : (b : Book) → fault b ≡ 0 → (total b).number ≡ live (in_use b)
unfolding total unless_refused
total_is b h = ap (λ (n : ℕ). (unless_refused n b (record { answer = 0; number = live (in_use b); found = none; book = b })).number) h

pub found_is : (x : ℕ) (b : Book) → fault b ≡ 0 → (read x b).found ≡ (read_at b (place (holds x) (in_use b))).found
unfolding read unless_refused
found_is x b h = ap (λ (n : ℕ). (unless_refused n b (read_at b (place (holds x) (in_use b)))).found) h

pub withdrawn_holds : (x : ℕ) (c : Block) → withdrawn c ≡ true → holds x c ≡ false
unfolding withdrawn
withdrawn_holds x c h = is_false (holds x c) (λ p.
    subst T (sym (is_true (holds x c) p) ∙ ap (λ (y : ℕ). holds y c) (sym (held_is x c p) ∙ eqb→eq (badge_of c) 0 (holds_true h)) ∙ holds_zero c) tt)
