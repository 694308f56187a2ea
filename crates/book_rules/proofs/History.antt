-- Document 02, No. 7, "a true total of live rules after any adds and withdrawals": any calls, refused or not, from a good book on.
use Rattle.std.specs.Prelude.{ℕ, zero, suc, ◌+◌, ◌<◌, ◌≤◌, max, ◌≡◌, refl, ◌≢◌, List, [], ◌∷◌, length, get_or, set, Bool, true}
use Rattle.std.proofs.Math.Decide.{ℕ_discrete}
use Rattle.std.proofs.Common.{arith, sym, ap, ◌∙◌, subst}
use Rattle.std.proofs.Math.Dec.{leb-zero}
use Rattle.book_rules.specs.Blocks.{Block, Entry, known, unless, or_else, taken}
use Rattle.book_rules.specs.Books.{Book, in_use, walk, fault, live, total, withdraw, add_fault, add_in, add, slot}
use Rattle.book_rules.proofs.Round.{Ranged}
use Rattle.book_rules.proofs.Walks.{verdict_version}
use Rattle.book_rules.proofs.Sizes.{written_sized, emptied_sized}
use Rattle.book_rules.specs.Noticed.{Sized, Refused, good_number}
use Rattle.book_rules.specs.Sums.{word, exchanged}
use Rattle.book_rules.proofs.Kept.{Slot, lowest, grown, in_use_long, good_lent, refused_kept, total_is}
use Rattle.book_rules.proofs.Added.{fit, at, add_where, add_writes, add_leaves, add_used, add_keeps_good, total_added}
use Rattle.book_rules.proofs.Withdrawn.{gone, gone_low, withdraw_writes, withdraw_leaves, withdraw_used, withdraw_keeps_good, total_withdrawn}
use Rattle.book_rules.proofs.Damaged.{own, own_good, damaged, change_told, exchange_told}

pub data Call : Type 0 where
  adding : (e : Entry) → Ranged e.matcher → Ranged e.pattern → e.badge < 65536 → Call
  withdrawing : ℕ → Call

abbrev pub withdraw_fault : ℕ → Book → ℕ
withdraw_fault x b = or_else (fault b) (unless (taken x (in_use b)) 23)

unfoldable pub following : Book → Call → Book
following b (adding e rm rp hb) = (add e b).book
following b (withdrawing x) = (withdraw x b).book

-- 1 for a call that is not refused.
unfoldable pub done : ℕ → ℕ
done zero = 1
done (suc n) = 0

unfoldable pub gained : Book → Call → ℕ
unfolding done
gained b (adding e rm rp hb) = done (add_fault e b)
gained b (withdrawing x) = 0

unfoldable pub lost : Book → Call → ℕ
unfolding done
lost b (adding e rm rp hb) = 0
lost b (withdrawing x) = done (withdraw_fault x b)

abbrev Step : Book → Book → ℕ → ℕ → Type 0
Step b c more less = (fault c ≡ 0) × ((total c).number + less ≡ (total b).number + more)

stay : (b c : Book) → fault b ≡ 0 → c ≡ b → Step b c 0 0
stay b c h e = (ap fault e ∙ h, ap (λ (x : Book). (total x).number + 0) e)

clash : {n : ℕ} → suc n ≡ 0 → ⊥
clash h = omega arith

add_stays : (e : Entry) (b : Book) (n : ℕ) → add_fault e b ≡ suc n → (add e b).book ≡ b
unfolding add
add_stays e b n p = refused_kept (add_fault e b) b (add_in e b (slot b)) (λ z. clash (sym p ∙ z))

withdraw_stays : (x : ℕ) (b : Book) (n : ℕ) → withdraw_fault x b ≡ suc n → (withdraw x b).book ≡ b
unfolding withdraw
withdraw_stays x b n p = refused_kept (withdraw_fault x b) b _ (λ z. clash (sym p ∙ z))

add_step : (e : Entry) (b : Book) → Ranged e.matcher → Ranged e.pattern → fault b ≡ 0 → (n : ℕ) → add_fault e b ≡ n → Step b (add e b).book (done n) 0
unfolding done
add_step e b rm rp h zero p = (add_keeps_good e b p rm rp, sum (total (add e b).book).number (total b).number (total_added e b p rm rp))
  where
    sum : (m n : ℕ) → m ≡ 1 + n → m + 0 ≡ n + 1
    sum m n q = omega arith
add_step e b rm rp h (suc n) p = stay b (add e b).book h (add_stays e b n p)

withdraw_step : (x : ℕ) (b : Book) → fault b ≡ 0 → (n : ℕ) → withdraw_fault x b ≡ n → Step b (withdraw x b).book 0 (done n)
unfolding done
withdraw_step x b h zero p = (withdraw_keeps_good x b p, sum (total (withdraw x b).book).number (total b).number (total_withdrawn x b p))
  where
    sum : (m n : ℕ) → n ≡ 1 + m → m + 1 ≡ n + 0
    sum m n q = omega arith
withdraw_step x b h (suc n) p = stay b (withdraw x b).book h (withdraw_stays x b n p)

call_step : (b : Book) (c : Call) → fault b ≡ 0 → Step b (following b c) (gained b c) (lost b c)
unfolding following gained lost
call_step b (adding e rm rp hb) h = add_step e b rm rp h (add_fault e b) refl
call_step b (withdrawing x) h = withdraw_step x b h (withdraw_fault x b) refl

unfoldable pub history : Book → List Call → Book
unfolding following
history b [] = b
history b (c ∷ cs) = history (following b c) cs

unfoldable pub all_gained : Book → List Call → ℕ
unfolding gained following
all_gained b [] = 0
all_gained b (c ∷ cs) = gained b c + all_gained (following b c) cs

unfoldable pub all_lost : Book → List Call → ℕ
unfolding lost following
all_lost b [] = 0
all_lost b (c ∷ cs) = lost b c + all_lost (following b c) cs

-- THE LAW: after any calls the book is good, and its total is the old one with the adds and without the withdrawals that were not refused.
pub true_total : (b : Book) (cs : List Call) → fault b ≡ 0 → (fault (history b cs) ≡ 0) × ((total (history b cs)).number + all_lost b cs ≡ (total b).number + all_gained b cs)
unfolding history all_gained all_lost
true_total b [] h = (h, refl)
true_total b (c ∷ cs) h =
    let s = call_step b c h in
    let r = true_total (following b c) cs s.0 in
    (r.0, chained (total b).number (total (following b c)).number (total (history (following b c) cs)).number (gained b c) (lost b c) (all_gained (following b c) cs) (all_lost (following b c) cs) s.1 r.1)
  where
    chained : (x y z g l gs ls : ℕ) → y + l ≡ x + g → z + ls ≡ y + gs → z + (l + ls) ≡ x + (g + gs)
    chained x y z g l gs ls p q = omega arith

-- It is the number of the live blocks in use.
pub total_counts : (b : Book) (cs : List Call) → fault b ≡ 0 → (total (history b cs)).number ≡ live (in_use (history b cs))
total_counts b cs h = total_is (history b cs) (true_total b cs h).0

-- A book of which nothing is in use is good, whatever the lent blocks hold.
pub empty_good : (blocks : List Block) → fault (record { lent = blocks; used = 0 }) ≡ 0
unfolding fault walk or_else unless
empty_good blocks = ap (λ (x : Bool). unless x 13) (leb-zero (length blocks))

-- ---- Every block that calls have made is one of which (a) and (b) speak.

pub record Sound (b : Book) : Type 0 where
  pub good : fault b ≡ 0
  pub sized : (j : ℕ) → j < b.used → Sized (get_or b.lent j [])

-- A block in use has a number of 16 bits, and a version.
number_small : (b : Book) → Sound b → (k : ℕ) → k < b.used → k < 65536
unfolding own
number_small b s k l =
    let g = own_good b s.good k l in
    small (word (get_or b.lent k []) 0) k (good_number (0 + k) g.0 (get_or b.lent k []) g.1) ((s.sized k l).small 0)
  where
    small : (w k : ℕ) → w ≡ 0 + k → w < 65536 → k < 65536
    small w k e h = omega arith

version_known : (b : Book) → fault b ≡ 0 → (k : ℕ) → k < b.used → known (word (get_or b.lent k []) 1) ≡ true
unfolding own
version_known b h k l = let g = own_good b h k l in verdict_version (0 + k) g.0 (get_or b.lent k []) g.1

slot_small : (b : Book) → Sound b → (i : ℕ) → Slot b i → (i < 65536) × (i ≤ b.used)
slot_small b s i (lowest f) =
    let n = in_use_long b (good_lent b s.good) in
    let m = f.inside in
    let l : i < b.used = omega arith in
    (number_small b s i l, omega arith)
slot_small b s i (grown full e m k) = (omega arith, omega arith)

add_sound : (e : Entry) (b : Book) (rm : Ranged e.matcher) (rp : Ranged e.pattern) → e.badge < 65536 → Sound b → add_fault e b ≡ 0 → Sound (add e b).book
add_sound e b rm rp hb s ok = record {
  good = add_keeps_good e b ok rm rp;
  sized = λ j l. by j l (ℕ_discrete j i);
}
  where
    i : ℕ
    i = at e b ok rm rp

    place_of : (i < 65536) × (i ≤ b.used)
    place_of = slot_small b s i (add_where e b ok rm rp)

    kept : (j u v : ℕ) → v ≡ max u (suc i) → i ≤ u → j < v → j ≢ i → j < u
    kept j u v e p l ne = omega arith

    by : (j : ℕ) → j < (add e b).book.used → Dec (j ≡ i) → Sized (get_or (add e b).book.lent j [])
    by j l (yes p) = subst (λ (k : ℕ). Sized (get_or (add e b).book.lent k [])) (sym p)
        (subst (λ (c : Block). Sized c) (sym (add_writes e b ok rm rp)) (written_sized i e (fit e b ok rm rp) place_of.0 hb))
    by j l (no p) = subst (λ (c : Block). Sized c) (sym (add_leaves e b ok rm rp j p))
        (s.sized j (kept j b.used (add e b).book.used (add_used e b ok rm rp) place_of.1 l p))

withdraw_sound : (x : ℕ) (b : Book) → Sound b → withdraw_fault x b ≡ 0 → Sound (withdraw x b).book
withdraw_sound x b s ok = record {
  good = withdraw_keeps_good x b ok;
  sized = λ j l. by j l (ℕ_discrete j i);
}
  where
    i : ℕ
    i = gone x b ok

    by : (j : ℕ) → j < (withdraw x b).book.used → Dec (j ≡ i) → Sized (get_or (withdraw x b).book.lent j [])
    by j l (yes p) = subst (λ (k : ℕ). Sized (get_or (withdraw x b).book.lent k [])) (sym p)
        (subst (λ (c : Block). Sized c) (sym (withdraw_writes x b ok))
        (emptied_sized i (word (get_or b.lent i []) 1) (number_small b s i (gone_low x b ok)) (version_known b s.good i (gone_low x b ok))))
    by j l (no p) = subst (λ (c : Block). Sized c) (sym (withdraw_leaves x b ok j p)) (s.sized j (subst (λ (u : ℕ). j < u) (withdraw_used x b ok) l))

call_sound : (b : Book) (c : Call) → Sound b → Sound (following b c)
unfolding following
call_sound b (adding e rm rp hb) s = by (add_fault e b) refl
  where
    by : (n : ℕ) → add_fault e b ≡ n → Sound (add e b).book
    by zero p = add_sound e b rm rp hb s p
    by (suc n) p = subst (λ (y : Book). Sound y) (sym (add_stays e b n p)) s
call_sound b (withdrawing x) s = by (withdraw_fault x b) refl
  where
    by : (n : ℕ) → withdraw_fault x b ≡ n → Sound (withdraw x b).book
    by zero p = withdraw_sound x b s p
    by (suc n) p = subst (λ (y : Book). Sound y) (sym (withdraw_stays x b n p)) s

pub history_sound : (b : Book) (cs : List Call) → Sound b → Sound (history b cs)
unfolding history
history_sound b [] s = s
history_sound b (c ∷ cs) s = history_sound (following b c) cs (call_sound b c s)

pub empty_sound : (blocks : List Block) → Sound (record { lent = blocks; used = 0 })
empty_sound blocks = record { good = empty_good blocks; sized = λ j l. absurd (below j l) }
  where
    below : (j : ℕ) → j < 0 → ⊥
    below j l = omega arith

-- (a) and (b) for every block in use of a book that calls have made.
module _ (blocks : List Block) (cs : List Call) where
  abbrev made : Book
  made = history (record { lent = blocks; used = 0 }) cs

  pub any_change_told : (k i y : ℕ) → (l : k < made.used) → i < 256 → y < 65536 → word (get_or made.lent k []) i ≢ y
      → fault (damaged made k (set (get_or made.lent k []) i y)) ≡ 12
  unfolding own
  any_change_told k i y l hi hy ne =
      let s = history_sound (record { lent = blocks; used = 0 }) cs (empty_sound blocks) in
      change_told made s.good k l i y (s.sized k l) hi hy ne

  pub any_exchange_told : (k i j : ℕ) → (l : k < made.used) → i < 256 → j < 256 → word (get_or made.lent k []) i ≢ word (get_or made.lent k []) j
      → Refused (fault (damaged made k (exchanged (get_or made.lent k []) i j)))
  unfolding own
  any_exchange_told k i j l hi hj ne =
      let s = history_sound (record { lent = blocks; used = 0 }) cs (empty_sound blocks) in
      exchange_told made s.good k l i j (s.sized k l) hi hj ne
