-- Document 02, No. 7: what becomes of the tests, of the live rules and of the first place when one block of a book is replaced, or one more comes into use.
use Prim.Native.Nat.{ℕ, zero, suc, ◌+◌, ◌<◌, ◌≤◌, max}
use native.Mathlib.Omega.{arith}
use Rattle.std.proofs.Math.Path.{◌≡◌, refl, ap, subst}
use Rattle.std.proofs.Common.{sym, ap₂, ◌∙◌, eqb→eq}
use Rattle.std.specs.Prelude.{Bool, true, false, not, ◌≢◌, length, get_or, take, set, eqb}
use Rattle.std.proofs.Math.Option.{Option, none, some}
use mathlib.Core.List.{List, [], ◌∷◌}
use Rattle.std.proofs.Math.Dec.{T}
use Rattle.book_rules.specs.Sums.{word, checked, and_also}
use Rattle.book_rules.specs.Blocks.{Block, badge_of, unless, or_else, known, formed, holds, taken, verdict}
use Rattle.book_rules.specs.Books.{walk, place, withdrawn, live}
use Rattle.book_rules.proofs.Round.{is_true, is_false, holds_true, eqb_self, eqb_other, none_taken}

-- Block i becomes b; where i is one past the end, b comes behind the rest.
unfoldable pub stored : List Block → ℕ → Block → List Block
stored [] i b = b ∷ []
stored (a ∷ bs) zero b = b ∷ bs
stored (a ∷ bs) (suc i) b = a ∷ stored bs i b

pub take_stored : (n i : ℕ) (bs : List Block) (b : Block) → i ≤ n → i < length bs → take (max n (suc i)) (set bs i b) ≡ stored (take n bs) i b
unfolding stored
take_stored n i [] b h k = absurd (omega arith)
take_stored zero zero (a ∷ bs) b h k = refl
take_stored zero (suc i) (a ∷ bs) b h k = absurd (omega arith)
take_stored (suc n) zero (a ∷ bs) b h k = ap (λ (x : ℕ). take x (b ∷ bs)) (reach n)
  where
    reach : (n : ℕ) → max (suc n) 1 ≡ suc n
    reach n = omega arith
take_stored (suc n) (suc i) (a ∷ bs) b h k = ap (λ (x : ℕ). take x (a ∷ set bs i b)) (reach n i) ∙ ap {B = List Block} (λ r. a ∷ r) (take_stored n i bs b (omega arith) (omega arith))
  where
    reach : (n i : ℕ) → max (suc n) (suc (suc i)) ≡ suc (max n (suc i))
    reach n i = omega arith

-- ---- Who is taken.

pub taken_behind : (x : ℕ) (b : Block) (bs : List Block) → taken x (b ∷ bs) ≡ false → taken x bs ≡ false
unfolding taken
taken_behind x b bs h = by (holds x b) refl
  where
    by : (t : Bool) → holds x b ≡ t → taken x bs ≡ false
    by true p = let c : taken x (b ∷ bs) ≡ true = rw (p, taken) in absurd (subst T (sym c ∙ h) tt)
    by false p = let c : taken x (b ∷ bs) ≡ taken x bs = rw (p, taken) in sym c ∙ h

pub taken_here : (x : ℕ) (b : Block) (bs : List Block) → taken x (b ∷ bs) ≡ false → holds x b ≡ false
unfolding taken
taken_here x b bs h = is_false (holds x b) (λ t. let c : taken x (b ∷ bs) ≡ true = rw (is_true (holds x b) t, taken) in subst T (sym c ∙ h) tt)

pub not_taken : (x : ℕ) (b : Block) (bs : List Block) → holds x b ≡ false → taken x bs ≡ false → taken x (b ∷ bs) ≡ false
unfolding taken
not_taken x b bs p q = rw (p, taken) q

pub taken_there : (x : ℕ) (b : Block) (bs : List Block) → taken x bs ≡ true → taken x (b ∷ bs) ≡ true
unfolding taken
taken_there x b bs h = by (holds x b) refl
  where
    by : (t : Bool) → holds x b ≡ t → taken x (b ∷ bs) ≡ true
    by true p = rw (p, taken)
    by false p = rw (p, taken) h

pub holds_own : (b : Block) → badge_of b ≢ 0 → holds (badge_of b) b ≡ true
unfolding holds and_also
holds_own b h = rw (eqb_other (badge_of b) 0 h, eqb_self (badge_of b))

pub taken_own : (b : Block) (bs : List Block) → badge_of b ≢ 0 → taken (badge_of b) (b ∷ bs) ≡ true
unfolding taken
taken_own b bs h = rw (holds_own b h, taken)

-- A block holds no other badge than its own.
pub held_is : (x : ℕ) (b : Block) → T (holds x b) → badge_of b ≡ x
unfolding holds and_also
held_is x b h = by (eqb x 0) h
  where
    by : (t : Bool) → T (and_also (not t) (eqb (badge_of b) x)) → badge_of b ≡ x
    by true h = absurd h
    by false h = eqb→eq (badge_of b) x h

pub holds_zero : (b : Block) → holds 0 b ≡ false
unfolding holds and_also
holds_zero b = refl

-- ---- The walk.

pub or_first : (a r : ℕ) → or_else a r ≡ 0 → a ≡ 0
unfolding or_else
or_first zero r h = refl
or_first (suc a) r h = h

pub or_second : (a r : ℕ) → or_else a r ≡ 0 → r ≡ 0
unfolding or_else
or_second zero r h = h
or_second (suc a) r h = absurd (impossible a h)
  where
    impossible : (a : ℕ) → suc a ≡ 0 → ⊥
    impossible a h = omega arith

pub or_both : {a r : ℕ} → a ≡ 0 → r ≡ 0 → or_else a r ≡ 0
unfolding or_else
or_both {r = r} p q = ap (λ (x : ℕ). or_else x r) p ∙ q

pub last_test : (t : Bool) (n : ℕ) → n ≢ 0 → unless t n ≡ 0 → t ≡ true
unfolding unless
last_test true n h e = refl
last_test false n h e = absurd (h e)

pub and_also_fst : (a b : Bool) → and_also a b ≡ true → a ≡ true
unfolding and_also
and_also_fst true b h = refl
and_also_fst false b h = h

pub and_also_snd : (a b : Bool) → and_also a b ≡ true → b ≡ true
unfolding and_also
and_also_snd true b h = h
and_also_snd false b h = absurd (subst T (sym h) tt)

-- A verdict hangs on the blocks before only by the badge.
pub verdict_moved : (k : ℕ) (xs ys : List Block) (b : Block) → (taken (badge_of b) xs ≡ false → taken (badge_of b) ys ≡ false) → verdict k xs b ≡ 0 → verdict k ys b ≡ 0
unfolding verdict
verdict_moved k xs ys b f h =
    let one = or_first (unless (checked b) 12) _ h in
    let r1 = or_second (unless (checked b) 12) _ h in
    let two = or_first (unless (eqb (word b 0) k) 13) _ r1 in
    let r2 = or_second (unless (eqb (word b 0) k) 13) _ r1 in
    let three = or_first (unless (known (word b 1)) 14) _ r2 in
    let r3 = or_second (unless (known (word b 1)) 14) _ r2 in
    let both_hold = last_test (and_also (formed b) (not (taken (badge_of b) xs))) 15 (omega arith) r3 in
    or_both one (or_both two (or_both three (fifteen (and_also_fst (formed b) _ both_hold) (f (untaken (taken (badge_of b) xs) (and_also_snd (formed b) _ both_hold))))))
  where
    untaken : (t : Bool) → not t ≡ true → t ≡ false
    untaken true h = absurd (subst T (sym h) tt)
    untaken false h = refl

    fifteen : formed b ≡ true → taken (badge_of b) ys ≡ false → unless (and_also (formed b) (not (taken (badge_of b) ys))) 15 ≡ 0
    fifteen p q = ap₂ (λ (x y : Bool). unless (and_also x (not y)) 15) p q ∙ unfold unless and_also in refl

pub walk_moved : (k : ℕ) (xs ys bs : List Block) → ((x : ℕ) → taken x bs ≡ true → taken x xs ≡ false → taken x ys ≡ false) → walk k xs bs ≡ 0 → walk k ys bs ≡ 0
unfolding walk
walk_moved k xs ys [] f h = refl
walk_moved k xs ys (b ∷ bs) f h = or_both
    (verdict_moved k xs ys b (by (eqb (badge_of b) 0) refl) (or_first (verdict k xs b) _ h))
    (walk_moved (suc k) (b ∷ xs) (b ∷ ys) bs (λ x t u. not_taken x b ys (taken_here x b xs u) (f x (taken_there x b bs t) (taken_behind x b xs u))) (or_second (verdict k xs b) _ h))
  where
    by : (t : Bool) → eqb (badge_of b) 0 ≡ t → taken (badge_of b) xs ≡ false → taken (badge_of b) ys ≡ false
    by true p u = ap (λ (x : ℕ). taken x ys) (eqb→eq (badge_of b) 0 (holds_true p)) ∙ none_taken ys
    by false p u = f (badge_of b) (taken_own b bs (λ z. subst T (sym (ap (λ (x : ℕ). eqb x 0) z) ∙ p) tt)) u

-- A good block with a badge that is not live may come anywhere.
pub walk_stored : (k : ℕ) (xs bs : List Block) (i : ℕ) (b : Block) → i ≤ length bs
    → ((ys : List Block) → taken (badge_of b) ys ≡ false → verdict (k + i) ys b ≡ 0)
    → taken (badge_of b) xs ≡ false → taken (badge_of b) bs ≡ false → walk k xs bs ≡ 0 → walk k xs (stored bs i b) ≡ 0
unfolding walk stored
walk_stored k xs [] i b l g p q h = or_both (subst (λ (x : ℕ). verdict x xs b ≡ 0) (last k i l) (g xs p)) refl
  where
    last : (k i : ℕ) → i ≤ 0 → k + i ≡ k
    last k i l = omega arith
walk_stored k xs (a ∷ bs) zero b l g p q h = or_both
    (subst (λ (x : ℕ). verdict x xs b ≡ 0) (here k) (g xs p))
    (walk_moved (suc k) (a ∷ xs) (b ∷ xs) bs (λ x t u. not_taken x b xs (apart x t) (taken_behind x a xs u)) (or_second (verdict k xs a) _ h))
  where
    here : (k : ℕ) → k + 0 ≡ k
    here k = omega arith

    apart : (x : ℕ) → taken x bs ≡ true → holds x b ≡ false
    apart x t = is_false (holds x b) (λ s. subst T (sym t ∙ ap (λ (y : ℕ). taken y bs) (sym (held_is x b s)) ∙ taken_behind (badge_of b) a bs q) tt)
walk_stored k xs (a ∷ bs) (suc i) b l g p q h = or_both
    (or_first (verdict k xs a) _ h)
    (walk_stored (suc k) (a ∷ xs) bs i b (omega arith) (λ ys u. subst (λ (x : ℕ). verdict x ys b ≡ 0) (there k i) (g ys u))
    (not_taken (badge_of b) a xs (taken_here (badge_of b) a bs q) p) (taken_behind (badge_of b) a bs q) (or_second (verdict k xs a) _ h))
  where
    there : (k i : ℕ) → k + suc i ≡ suc k + i
    there k i = omega arith

-- Each block of a good book is good in its place.
pub walk_at : (k : ℕ) (xs bs : List Block) (i : ℕ) → i < length bs → walk k xs bs ≡ 0 → (ys : List Block) × (verdict (k + i) ys (get_or bs i []) ≡ 0)
unfolding walk
walk_at k xs [] i l h = absurd (omega arith)
walk_at k xs (b ∷ bs) zero l h = (xs, subst (λ (x : ℕ). verdict x xs b ≡ 0) (here k) (or_first (verdict k xs b) _ h))
  where
    here : (k : ℕ) → k ≡ k + 0
    here k = omega arith
walk_at k xs (b ∷ bs) (suc i) l h =
    let r = walk_at (suc k) (b ∷ xs) bs i (omega arith) (or_second (verdict k xs b) _ h) in
    (r.0, subst (λ (x : ℕ). verdict x r.0 (get_or bs i []) ≡ 0) (there k i) r.1)
  where
    there : (k i : ℕ) → suc k + i ≡ k + suc i
    there k i = omega arith

-- A block that is refused in its place refuses the book, with the same number.
module _ (P : ℕ → Type 0) (no : P 0 → ⊥) where
  or_told : (a r : ℕ) → P a → P (or_else a r)
  unfolding or_else
  or_told zero r p = absurd (no p)
  or_told (suc a) r p = p

  pub walk_told : (k : ℕ) (xs bs : List Block) (i : ℕ) (b : Block) → i < length bs → ((ys : List Block) → P (verdict (k + i) ys b)) → walk k xs bs ≡ 0 → P (walk k xs (stored bs i b))
  unfolding walk stored
  walk_told k xs [] i b l p h = absurd (omega arith)
  walk_told k xs (a ∷ bs) zero b l p h = or_told (verdict k xs b) _ (subst (λ (x : ℕ). P (verdict x xs b)) (here k) (p xs))
    where
      here : (k : ℕ) → k + 0 ≡ k
      here k = omega arith
  walk_told k xs (a ∷ bs) (suc i) b l p h =
      let z : verdict k xs a ≡ 0 = or_first (verdict k xs a) _ h in
      let r = walk_told (suc k) (a ∷ xs) bs i b (omega arith) (λ ys. subst (λ (x : ℕ). P (verdict x ys b)) (there k i) (p ys)) (or_second (verdict k xs a) _ h) in
      subst (λ (x : ℕ). P (or_else x (walk (suc k) (a ∷ xs) (stored bs i b)))) (sym z) (unfold or_else in r)
    where
      there : (k i : ℕ) → k + suc i ≡ suc k + i
      there k i = omega arith

-- ---- The first place.

unfoldable pub step : Option ℕ → Option ℕ
step none = none
step (some i) = some (suc i)

pub record First (f : Block → Bool) (bs : List Block) (i : ℕ) : Type 0 where
  pub inside : i < length bs
  pub passes : f (get_or bs i []) ≡ true
  pub before : (j : ℕ) → j < i → f (get_or bs j []) ≡ false

pub place_yes : (f : Block → Bool) (b : Block) (bs : List Block) → f b ≡ true → place f (b ∷ bs) ≡ some 0
unfolding place
place_yes f b bs h = rw (h, place)

pub place_no : (f : Block → Bool) (b : Block) (bs : List Block) → f b ≡ false → place f (b ∷ bs) ≡ step (place f bs)
unfolding place step
place_no f b bs h = ap (λ (x : Bool). elim x as (λ _. Option ℕ) [ true ↦ some 0 | false ↦ elim (place f bs) [ none ↦ none | some i ↦ some (suc i) ] ]) h ∙ same (place f bs)
  where
    same : (o : Option ℕ) → elim o as (λ _. Option ℕ) [ none ↦ none | some i ↦ some (suc i) ] ≡ step o
    same none = refl
    same (some i) = refl

pub place_some : (f : Block → Bool) (bs : List Block) (i : ℕ) → place f bs ≡ some i → First f bs i
unfolding step
place_some f [] i h = absurd (nothing i (unfold place in h))
  where
    nothing : (i : ℕ) → none ≡ some i → ⊥
    nothing i h = let c : ◌≡◌ {A = ℕ} 0 1 = cc in omega arith
place_some f (b ∷ bs) i h = by (λ j. place_some f bs j) (f b) refl
  where
    next : ((j : ℕ) → place f bs ≡ some j → First f bs j) → (o : Option ℕ) → place f bs ≡ o → f b ≡ false → step o ≡ some i → First f (b ∷ bs) i
    next ih none e p q = absurd (nothing q)
      where
        nothing : none ≡ some i → ⊥
        nothing h = let c : ◌≡◌ {A = ℕ} 0 1 = cc in omega arith
    next ih (some j) e p q =
        let r = ih j e in
        let s : suc j ≡ i = cc in
        subst (λ (x : ℕ). First f (b ∷ bs) x) s (record {
          inside = omega (arith, r.inside);
          passes = r.passes;
          before = below j r.before p;
        })
      where
        below : (j : ℕ) → ((m : ℕ) → m < j → f (get_or bs m []) ≡ false) → f b ≡ false → (m : ℕ) → m < suc j → f (get_or (b ∷ bs) m []) ≡ false
        below j g p zero l = p
        below j g p (suc m) l = g m (omega arith)

    by : ((j : ℕ) → place f bs ≡ some j → First f bs j) → (t : Bool) → f b ≡ t → First f (b ∷ bs) i
    by ih true p =
        let s : some 0 ≡ some i = sym (place_yes f b bs p) ∙ h in
        let z : 0 ≡ i = cc in
        subst (λ (x : ℕ). First f (b ∷ bs) x) z (record { inside = omega arith; passes = p; before = λ j l. absurd (omega arith) })
    by ih false p = next ih (place f bs) refl p (sym (place_no f b bs p) ∙ h)

step_none : (o : Option ℕ) → step o ≡ none → o ≡ none
unfolding step
step_none none h = refl
step_none (some i) h = let c : ◌≡◌ {A = ℕ} 0 1 = cc in absurd (clash c)
  where
    clash : ◌≡◌ {A = ℕ} 0 1 → ⊥
    clash c = omega arith

pub place_none : (f : Block → Bool) (bs : List Block) → place f bs ≡ none → (j : ℕ) → j < length bs → f (get_or bs j []) ≡ false
unfolding step
place_none f [] h j l = absurd (omega arith)
place_none f (b ∷ bs) h j l = by (place_none f bs (step_none (place f bs) (sym (place_no f b bs head) ∙ h))) j l
  where
    nothing : ◌≡◌ {A = Option ℕ} (some 0) none → ⊥
    nothing h = let c : ◌≡◌ {A = ℕ} 0 1 = cc in omega arith

    head : f b ≡ false
    head = is_false (f b) (λ t. nothing (sym (place_yes f b bs (is_true (f b) t)) ∙ h))

    by : ((j : ℕ) → j < length bs → f (get_or bs j []) ≡ false) → (j : ℕ) → j < suc (length bs) → f (get_or (b ∷ bs) j []) ≡ false
    by ih zero l = head
    by ih (suc j) l = ih j (omega arith)

-- The block with a new badge is the first of its badge.
pub place_stored : (x : ℕ) (bs : List Block) (i : ℕ) (b : Block) → i ≤ length bs → taken x bs ≡ false → holds x b ≡ true → place (holds x) (stored bs i b) ≡ some i
unfolding stored step
place_stored x [] i b l p q = place_yes (holds x) b [] q ∙ ap some (zero_is i l)
  where
    zero_is : (i : ℕ) → i ≤ 0 → 0 ≡ i
    zero_is i l = omega arith
place_stored x (a ∷ bs) zero b l p q = place_yes (holds x) b bs q
place_stored x (a ∷ bs) (suc i) b l p q =
    place_no (holds x) a (stored bs i b) (taken_here x a bs p) ∙ ap step (place_stored x bs i b (omega arith) (taken_behind x a bs p) q)

-- ---- The number of live rules.

live_yes : (b : Block) (bs : List Block) → withdrawn b ≡ false → live (b ∷ bs) ≡ suc (live bs)
unfolding live
live_yes b bs h = rw (h, live)

live_no : (b : Block) (bs : List Block) → withdrawn b ≡ true → live (b ∷ bs) ≡ live bs
unfolding live
live_no b bs h = rw (h, live)

live_cong : (b : Block) (xs ys : List Block) (n : ℕ) → live xs ≡ n + live ys → live (b ∷ xs) ≡ n + live (b ∷ ys)
live_cong b xs ys n h = by (withdrawn b) refl
  where
    more : (x y n : ℕ) → x ≡ n + y → suc x ≡ n + suc y
    more x y n h = omega arith

    by : (t : Bool) → withdrawn b ≡ t → live (b ∷ xs) ≡ n + live (b ∷ ys)
    by true p = live_no b xs p ∙ h ∙ ap (λ (x : ℕ). n + x) (sym (live_no b ys p))
    by false p = live_yes b xs p ∙ more (live xs) (live ys) n h ∙ ap (λ (x : ℕ). n + x) (sym (live_yes b ys p))

pub live_added : (bs : List Block) (i : ℕ) (b : Block) → i ≤ length bs → (i < length bs → withdrawn (get_or bs i []) ≡ true) → withdrawn b ≡ false
    → live (stored bs i b) ≡ 1 + live bs
unfolding stored
live_added [] i b l h p = live_yes b [] p ∙ one_more (live [])
  where
    one_more : (n : ℕ) → suc n ≡ 1 + n
    one_more n = omega arith
live_added (a ∷ bs) zero b l h p = live_yes b bs p ∙ one_more (live bs) ∙ ap (λ (x : ℕ). 1 + x) (sym (live_no a bs (h (omega arith))))
  where
    one_more : (n : ℕ) → suc n ≡ 1 + n
    one_more n = omega arith
live_added (a ∷ bs) (suc i) b l h p = live_cong a (stored bs i b) bs 1 (live_added bs i b (omega arith) (λ m. h (omega arith)) p)

pub live_withdrawn : (bs : List Block) (i : ℕ) (b : Block) → i < length bs → withdrawn (get_or bs i []) ≡ false → withdrawn b ≡ true
    → live bs ≡ 1 + live (stored bs i b)
unfolding stored
live_withdrawn [] i b l h p = absurd (omega arith)
live_withdrawn (a ∷ bs) zero b l h p = live_yes a bs h ∙ one_more (live bs) ∙ ap (λ (x : ℕ). 1 + x) (sym (live_no b bs p))
  where
    one_more : (n : ℕ) → suc n ≡ 1 + n
    one_more n = omega arith
live_withdrawn (a ∷ bs) (suc i) b l h p = live_cong a bs (stored bs i b) 1 (live_withdrawn bs i b (omega arith) h p)

-- ---- A badge is live once.

verdict_new : (k : ℕ) (xs : List Block) (b : Block) → verdict k xs b ≡ 0 → taken (badge_of b) xs ≡ false
unfolding verdict
verdict_new k xs b h =
    let r1 = or_second (unless (checked b) 12) _ h in
    let r2 = or_second (unless (eqb (word b 0) k) 13) _ r1 in
    let r3 = or_second (unless (known (word b 1)) 14) _ r2 in
    untaken (taken (badge_of b) xs) (and_also_snd (formed b) _ (last_test (and_also (formed b) (not (taken (badge_of b) xs))) 15 (omega arith) r3))
  where
    untaken : (t : Bool) → not t ≡ true → t ≡ false
    untaken true h = absurd (subst T (sym h) tt)
    untaken false h = refl

pub verdict_version : (k : ℕ) (xs : List Block) (b : Block) → verdict k xs b ≡ 0 → known (word b 1) ≡ true
unfolding verdict
verdict_version k xs b h =
    let r1 = or_second (unless (checked b) 12) _ h in
    let r2 = or_second (unless (eqb (word b 0) k) 13) _ r1 in
    last_test (known (word b 1)) 14 (omega arith) (or_first (unless (known (word b 1)) 14) _ r2)

walk_once : (k x : ℕ) (xs bs : List Block) → walk k xs bs ≡ 0 → taken x xs ≡ true → taken x bs ≡ false
unfolding walk
walk_once k x xs [] h t = unfold taken in refl
walk_once k x xs (b ∷ bs) h t = not_taken x b bs
    (is_false (holds x b) (λ s. subst T (sym t ∙ ap (λ (y : ℕ). taken y xs) (sym (held_is x b s)) ∙ verdict_new k xs b (or_first (verdict k xs b) _ h)) tt))
    (walk_once (suc k) x (b ∷ xs) bs (or_second (verdict k xs b) _ h) (taken_there x b xs t))

taken_first : (x : ℕ) (b : Block) (bs : List Block) → holds x b ≡ true → taken x (b ∷ bs) ≡ true
unfolding taken
taken_first x b bs h = rw (h, taken)

pub taken_out : (k x : ℕ) (xs bs : List Block) (i : ℕ) (b : Block) → i < length bs → walk k xs bs ≡ 0 → holds x (get_or bs i []) ≡ true
    → ((j : ℕ) → j < i → holds x (get_or bs j []) ≡ false) → holds x b ≡ false → taken x (stored bs i b) ≡ false
unfolding walk stored
taken_out k x xs [] i b l h p q r = absurd (omega arith)
taken_out k x xs (a ∷ bs) zero b l h p q r = not_taken x b bs r (walk_once (suc k) x (a ∷ xs) bs (or_second (verdict k xs a) _ h) (taken_first x a xs p))
taken_out k x xs (a ∷ bs) (suc i) b l h p q r = not_taken x a (stored bs i b) (q 0 (omega arith))
    (taken_out (suc k) x (a ∷ xs) bs i b (omega arith) (or_second (verdict k xs a) _ h) p (λ j m. q (suc j) (omega arith)) r)

-- What is taken has a place, and what is not has none.
pub taken_place : (x : ℕ) (bs : List Block) → taken x bs ≡ true → (i : ℕ) × (place (holds x) bs ≡ some i)
unfolding step
taken_place x [] h = let c : taken x [] ≡ false = unfold taken in refl in absurd (subst T (sym h ∙ c) tt)
taken_place x (b ∷ bs) h = by (λ g. taken_place x bs g) (holds x b) refl
  where
    by : (taken x bs ≡ true → (i : ℕ) × (place (holds x) bs ≡ some i)) → (t : Bool) → holds x b ≡ t → (i : ℕ) × (place (holds x) (b ∷ bs) ≡ some i)
    by ih true p = (0, place_yes (holds x) b bs p)
    by ih false p =
        let c : taken x (b ∷ bs) ≡ taken x bs = unfold taken in rw (p, taken) in
        let r = ih (sym c ∙ h) in
        (suc r.0, place_no (holds x) b bs p ∙ ap step r.1)

pub untaken_place : (x : ℕ) (bs : List Block) → taken x bs ≡ false → place (holds x) bs ≡ none
unfolding step
untaken_place x [] h = unfold place in refl
untaken_place x (b ∷ bs) h = place_no (holds x) b bs (taken_here x b bs h) ∙ ap step (untaken_place x bs (taken_behind x b bs h))

-- Another badge's place stays.
pub place_other : (f : Block → Bool) (bs : List Block) (i : ℕ) (b : Block) → i ≤ length bs → (i < length bs → f (get_or bs i []) ≡ false) → f b ≡ false
    → place f (stored bs i b) ≡ place f bs
unfolding stored step
place_other f [] i b l h p = place_no f b [] p ∙ unfold place in refl
place_other f (a ∷ bs) zero b l h p = place_no f b bs p ∙ sym (place_no f a bs (h (omega arith)))
place_other f (a ∷ bs) (suc i) b l h p = by (place_other f bs i b (omega arith) (λ m. h (omega arith)) p) (f a) refl
  where
    by : place f (stored bs i b) ≡ place f bs → (t : Bool) → f a ≡ t → place f (a ∷ stored bs i b) ≡ place f (a ∷ bs)
    by ih true q = place_yes f a (stored bs i b) q ∙ sym (place_yes f a bs q)
    by ih false q = place_no f a (stored bs i b) q ∙ ap step ih ∙ sym (place_no f a bs q)

pub get_d_take : (n i : ℕ) (bs : List Block) → i < n → get_or (take n bs) i [] ≡ get_or bs i []
get_d_take zero i bs l = absurd (omega arith)
get_d_take (suc n) i [] l = refl
get_d_take (suc n) zero (b ∷ bs) l = refl
get_d_take (suc n) (suc i) (b ∷ bs) l = get_d_take n i bs (omega arith)
