-- The stack of parts that wait: what a store on top and a part that waits no longer make of it. Assumes nothing.
use Prim.Native.Nat.{ℕ, zero, suc, ◌+◌, ◌-◌, ◌<◌, ◌≤◌}
use native.Mathlib.Numerals.{add-one}
use native.Mathlib.Omega.{arith}
use native.Mathlib.Decide.{ℕ_discrete}
use mathlib.Core.Path.{◌≡◌, refl, sym, ◌∙◌}
use mathlib.Core.List.{List, ◌∷◌}
use borrow.Author.Tests.{ne_eqb}
use lib.ListN.{length, get_or, set, length-set}
use lib.Seq.{get_or-set_same, get_or-set_other}
use lib.IntN.{ℤ}
use Rattle.matchers.specs.Places.{matcher_end}
use Rattle.program_rules.specs.Lines.{Waiting, waits, slot_of, others}
use Rattle.program_rules.specs.Stack.{Stack, stack, waiting_at, popped}
use Rattle.program_rules.specs.Bounds.{few, few_part, few_other}

-- A store above the top is not seen.
waiting_above : (u s b : List ℕ) (j x y n d : ℕ) → d < j → waiting_at (set u j x) (set s j y) (set b j n) d ≡ waiting_at u s b d
unfolding waiting_at
waiting_above u s b j x y n zero h = refl
waiting_above u s b j x y n (suc d) h =
    rw (get_or-set_other u j (suc d) x 0 (λ e. omega arith), get_or-set_other s j (suc d) y 0 (λ e. omega arith), get_or-set_other b j (suc d) n 0 (λ e. omega arith), waiting_above u s b j x y n d (omega arith))

waiting_set : (u s b : List ℕ) (d x y n : ℕ) → suc d < length u → suc d < length s → suc d < length b
    → waiting_at (set u (suc d) x) (set s (suc d) y) (set b (suc d) n) (suc d) ≡ waits x y n ∷ waiting_at u s b d
unfolding waiting_at
waiting_set u s b d x y n h l k =
    rw (get_or-set_same u (suc d) x 0 h, get_or-set_same s (suc d) y 0 l, get_or-set_same b (suc d) n 0 k, waiting_above u s b (suc d) x y n d (omega arith))

waiting_over : (u s b : List ℕ) (j n d : ℕ) → d < j → waiting_at u s (set b j n) d ≡ waiting_at u s b d
unfolding waiting_at
waiting_over u s b j n zero h = refl
waiting_over u s b j n (suc d) h = rw (get_or-set_other b j (suc d) n 0 (λ e. omega arith), waiting_over u s b j n d (omega arith))

waiting_else : (u s b : List ℕ) (d n : ℕ) → suc d < length b → waiting_at u s (set b (suc d) n) (suc d) ≡ waits (get_or u (suc d) 0) (get_or s (suc d) 0) n ∷ waiting_at u s b d
unfolding waiting_at
waiting_else u s b d n k = rw (get_or-set_same b (suc d) n 0 k, waiting_over u s b (suc d) n d (omega arith))

pub waiting_push : (u s b : List ℕ) (d x y n : ℕ) → d + 1 < length u → d + 1 < length s → d + 1 < length b
    → waiting_at (set u (d + 1) x) (set s (d + 1) y) (set b (d + 1) n) (d + 1) ≡ waits x y n ∷ waiting_at u s b d
waiting_push u s b d x y n h l k = rw (add-one d) (waiting_set u s b d x y n (omega arith) (omega arith) (omega arith))

pub slot_top : (u s b : List ℕ) (d : ℕ) → get_or s 0 0 ≡ 0 → slot_of (waiting_at u s b d) ≡ get_or s d 0
unfolding waiting_at slot_of
slot_top u s b zero e = sym e
slot_top u s b (suc d) e = refl

pub waiting_pop : (u s b : List ℕ) (d : ℕ) → (d ≡ 0 → ⊥) → waiting_at u s b d ≡ waits (get_or u d 0) (get_or s d 0) (get_or b d 0) ∷ waiting_at u s b (d - 1)
unfolding waiting_at
waiting_pop u s b zero h = absurd (h refl)
waiting_pop u s b (suc d) h = let e : suc d - 1 ≡ d = omega arith in rw e

-- Two stores at one index: the sums stay within a bound.
pub pair_sum : (s b : List ℕ) (i c n j q : ℕ) → i < length s → i < length b → c + few n ≤ q → get_or s j 0 + few (get_or b j 0) ≤ q
    → get_or (set s i c) j 0 + few (get_or (set b i n) j 0) ≤ q
pair_sum s b i c n j q h l k r = go (ℕ_discrete j i)
  where
    go : Dec (j ≡ i) → get_or (set s i c) j 0 + few (get_or (set b i n) j 0) ≤ q
    go (yes e) = rw (e, get_or-set_same s i c 0 h, get_or-set_same b i n 0 l) k
    go (no e) = rw (get_or-set_other s i j c 0 e, get_or-set_other b i j n 0 e) r

-- ---- What is left when the part on top waits no longer.

pub record Left (ms : List ℤ) (t t' : Stack) : Type 0 where
  pub waits : waiting_at t'.under t'.slots t'.behind t'.depth
      ≡ others ms (get_or t.under t.depth 0) (get_or t.slots t.depth 0) (get_or t.behind t.depth 0) (waiting_at t.under t.slots t.behind (t.depth - 1))
  pub lower : t'.depth ≤ t.depth
  pub bottom : get_or t'.slots 0 0 ≡ get_or t.slots 0 0
  pub floor : get_or t'.behind 0 0 ≡ get_or t.behind 0 0
  pub sums : (j : ℕ) → get_or t'.slots j 0 + few (get_or t'.behind j 0) ≤ get_or t.slots j 0 + few (get_or t.behind j 0)
  pub long : length t'.under ≡ length t.under
  pub wide : length t'.slots ≡ length t.slots
  pub tall : length t'.behind ≡ length t.behind

others_last : (ms : List ℤ) (i c n : ℕ) (ts : List Waiting) → n ≡ 0 → ts ≡ others ms i c n ts
unfolding others
others_last ms i c n ts e = rw e

others_next : (ms : List ℤ) (i c n : ℕ) (ts : List Waiting) → (n ≡ 0 → ⊥) → (n ≡ 3 → ⊥) → waits (matcher_end ms i) (c + 1) (n - 1) ∷ ts ≡ others ms i c n ts
unfolding others
others_next ms i c zero ts h g = absurd (h refl)
others_next ms i c (suc n) ts h g = let e : suc n - 1 ≡ n = omega arith in rw (e, add-one c, ne_eqb n 2 (λ y. g (omega arith)))

others_else : (ms : List ℤ) (i c n : ℕ) (ts : List Waiting) → n ≡ 3 → waits i c 4 ∷ ts ≡ others ms i c n ts
unfolding others
others_else ms i c n ts e = rw e

module _ (ms : List ℤ) (u s b : List ℕ) where
  left_last : (d : ℕ) → get_or b d 0 ≡ 0 → Left ms (stack u s b d) (stack u s b (d - 1))
  left_last d e = record {
    waits = others_last ms _ _ _ _ e;
    lower = omega arith;
    bottom = refl;
    floor = refl;
    sums = λ j. omega arith;
    long = refl;
    wide = refl;
    tall = refl;
  }

  -- The slot grows by as much as fewer parts wait behind it.
  sum_next : (d : ℕ) → (get_or b d 0 ≡ 0 → ⊥) → get_or b d 0 ≤ 2 → d < length s → d < length b
      → (j : ℕ) → get_or (set s d (get_or s d 0 + 1)) j 0 + few (get_or (set b d (get_or b d 0 - 1)) j 0) ≤ get_or s j 0 + few (get_or b j 0)
  sum_next d z y l k j = go (ℕ_discrete j d)
    where
      go : Dec (j ≡ d) → get_or (set s d (get_or s d 0 + 1)) j 0 + few (get_or (set b d (get_or b d 0 - 1)) j 0) ≤ get_or s j 0 + few (get_or b j 0)
      go (yes e) =
          let f = few_part (get_or b d 0) y in
          let g = few_part (get_or b d 0 - 1) (omega arith) in
          rw (e, get_or-set_same s d (get_or s d 0 + 1) 0 l, get_or-set_same b d (get_or b d 0 - 1) 0 k) (omega arith)
      go (no e) = rw (get_or-set_other s d j (get_or s d 0 + 1) 0 e, get_or-set_other b d j (get_or b d 0 - 1) 0 e) (omega arith)

  sum_else : (d : ℕ) → d < length b → (j : ℕ) → get_or s j 0 + few (get_or (set b d 4) j 0) ≤ get_or s j 0 + few (get_or b j 0)
  sum_else d k j = go (ℕ_discrete j d)
    where
      go : Dec (j ≡ d) → get_or s j 0 + few (get_or (set b d 4) j 0) ≤ get_or s j 0 + few (get_or b j 0)
      go (yes e) = let f = few_other 4 (omega arith) in rw (e, get_or-set_same b d 4 0 k) (omega arith)
      go (no e) = rw (get_or-set_other b d j 4 0 e) (omega arith)

  left_next : (d : ℕ) → (get_or b (suc d) 0 ≡ 0 → ⊥) → get_or b (suc d) 0 ≤ 2 → suc d < length u → suc d < length s → suc d < length b → Left ms (stack u s b (suc d))
      (stack (set u (suc d) (matcher_end ms (get_or u (suc d) 0))) (set s (suc d) (get_or s (suc d) 0 + 1)) (set b (suc d) (get_or b (suc d) 0 - 1)) (suc d))
  left_next d z y h l k = record {
    waits =
        let e : suc d - 1 ≡ d = omega arith in
        rw e (waiting_set u s b d _ _ _ h l k ∙ others_next ms (get_or u (suc d) 0) (get_or s (suc d) 0) (get_or b (suc d) 0) (waiting_at u s b d) z (λ g. omega arith));
    lower = omega arith;
    bottom = get_or-set_other s (suc d) 0 _ 0 (λ e. omega arith);
    floor = get_or-set_other b (suc d) 0 _ 0 (λ e. omega arith);
    sums = sum_next (suc d) z y l k;
    long = length-set u (suc d) _;
    wide = length-set s (suc d) _;
    tall = length-set b (suc d) _;
  }

  left_else : (d : ℕ) → get_or b (suc d) 0 ≡ 3 → suc d < length b → Left ms (stack u s b (suc d)) (stack u s (set b (suc d) 4) (suc d))
  left_else d z k = record {
    waits =
        let e : suc d - 1 ≡ d = omega arith in
        rw e (waiting_else u s b d 4 k ∙ others_else ms (get_or u (suc d) 0) (get_or s (suc d) 0) (get_or b (suc d) 0) (waiting_at u s b d) z);
    lower = omega arith;
    bottom = refl;
    floor = get_or-set_other b (suc d) 0 _ 0 (λ e. omega arith);
    sums = sum_else (suc d) k;
    long = refl;
    wide = refl;
    tall = length-set b (suc d) _;
  }

  left_is : (d : ℕ) → (d ≡ 0 → ⊥) → get_or b d 0 ≤ 3 → d < length u → d < length s → d < length b → Left ms (stack u s b d) (popped ms (stack u s b d))
  unfolding popped
  left_is zero y f h l k = absurd (y refl)
  left_is (suc d) y f h l k = go (ℕ_discrete (get_or b (suc d) 0) 0) (ℕ_discrete (get_or b (suc d) 0) 3)
    where
      go : Dec (get_or b (suc d) 0 ≡ 0) → Dec (get_or b (suc d) 0 ≡ 3) → Left ms (stack u s b (suc d)) (popped ms (stack u s b (suc d)))
      go (yes e) g = let x : popped ms (stack u s b (suc d)) ≡ stack u s b (suc d - 1) = rw e in rw x (left_last (suc d) e)
      go (no e) (yes g) = let x : popped ms (stack u s b (suc d)) ≡ stack u s (set b (suc d) 4) (suc d) = rw g in rw x (left_else d g k)
      go (no e) (no g) = rw (ne_eqb (get_or b (suc d) 0) 0 e, ne_eqb (get_or b (suc d) 0) 3 g) (left_next d e (omega arith) h l k)

pub pop_left : (ms : List ℤ) (t : Stack) → (t.depth ≡ 0 → ⊥) → get_or t.behind t.depth 0 ≤ 3 → t.depth < length t.under → t.depth < length t.slots
    → t.depth < length t.behind → Left ms t (popped ms t)
pop_left ms t z f h l k = left_is ms t.under t.slots t.behind t.depth z f h l k
