-- A run of values: f holds of each, and each has so many words. Assumes nothing.
use mathlib.Core.Path.{◌≡◌, refl}
use mathlib.Core.Bool.{Bool, true, false, cond}
use mathlib.Core.List.{List}
use Prim.Native.Nat.{ℕ, zero, suc, min, ◌+◌, ◌-◌, ◌*◌, ◌/◌, ◌^◌, ◌<◌, ◌≤◌}
use native.Mathlib.Nat.{mul-suc, mul-div-le, lt-mul-div-succ, mul-le-mul_left}
use native.Mathlib.Numerals.{add-one}
use native.Mathlib.Omega.{arith}
use borrow.Author.Rules.{rules}
use borrow.Author.Tests.{lt-ltb, ne_eqb}
use mir.Syntax.{w64}
use mir.Val.{Fits}
use lib.ListN.{length}
use lib.IntN.{ℤ}
use Rattle.words.specs.Words.{tag_at}
use Rattle.test_target.specs.Targets.{plain_at, plain_run, run_of}
use Rattle.test_target.proofs.Steps.{plain_words_lem}

-- ---- A run of them.

module _ (f : ℕ → Bool) (each : ℕ) where
  pub run_most : (n e : ℕ) → run_of f each n e ≤ n
  unfolding run_of
  run_most zero e = omega arith
  run_most (suc n) e = go (f e) (run_most n (e + each))
    where
      go : (b : Bool) → run_of f each n (e + each) ≤ n → cond b (suc (run_of f each n (e + each))) 0 ≤ suc n
      go true r = omega arith
      go false r = omega arith

  -- Each stands whole in a list so long.
  module _ (l : ℕ) (w : (e : ℕ) → f e ≡ true → e + each ≤ l) where
    pub run_within : (n e : ℕ) → e < 2 ^ 64 → l < 2 ^ 64 → e + each * run_of f each n e < 2 ^ 64
    unfolding run_of
    run_within zero e h b = omega arith
    run_within (suc n) e h b = go (f e) refl (λ a. run_within n (e + each) a b)
      where
        go : (c : Bool) → f e ≡ c → (e + each < 2 ^ 64 → e + each + each * run_of f each n (e + each) < 2 ^ 64) → e + each * cond c (suc (run_of f each n (e + each))) 0 < 2 ^ 64
        go true q g = let x = w e q in let r = g (omega arith) in omega arith
        go false q g = omega arith

    -- Those that there are no words for need not be looked at.
    run_enough : (n m e : ℕ) → m ≤ n → (m < n → l < e + each * m + each) → run_of f each n e ≡ run_of f each m e
    unfolding run_of
    run_enough zero zero e h g = refl
    run_enough zero (suc m) e h g = absurd (omega arith)
    run_enough (suc n) zero e h g = go (f e) refl
      where
        go : (b : Bool) → f e ≡ b → cond b (suc (run_of f each n (e + each))) 0 ≡ 0
        go true q = let x = w e q in let y = g (omega arith) in absurd (omega arith)
        go false q = refl
    run_enough (suc n) (suc m) e h g = let r = run_enough n m (e + each) (omega arith) (λ k. let x = g (omega arith) in omega arith) in rw r

-- Of at most m from the index `at` on, for which there are words in a list of length l, i are passed; r is how many there are.
pub record Passed (f : ℕ → Bool) (each l r m at i : ℕ) : Type 0 where
  pub some : 0 < each
  pub room : each * (m - i) ≤ l - (at + each * i)
  pub is : r ≡ i + run_of f each (m - i) (at + each * i)

module _ (f : ℕ → Bool) (each l : ℕ) where
  pub run_start : (n at m : ℕ) → 0 < each → ((e : ℕ) → f e ≡ true → e + each ≤ l) → m ≡ min n ((l - at) / each) → Passed f each l (run_of f each n at) m at 0
  run_start n at m p w q =
      let x = mul-div-le (l - at) each in
      let y = lt-mul-div-succ (l - at) p in
      let z : m - 0 ≡ m = omega arith in
      let k : at + each * 0 ≡ at = omega arith in
      let a : m ≤ (l - at) / each = omega arith in
      let b = mul-le-mul_left each a in
      let t = run_enough f each l w n m at (omega arith) (λ k. let u : m ≡ (l - at) / each = omega arith in let v = rw (← u) at y in omega arith) in
      record { some = p; room = rw (z, k) (omega arith); is = rw (z, k) (omega (arith, t)) }

  module _ (r m at i : ℕ) (h : Passed f each l r m at i) where
    pub run_out : m ≤ i → i ≡ r
    unfolding run_of
    run_out k = let z : m - i ≡ 0 = omega arith in let t : run_of f each (m - i) (at + each * i) ≡ 0 = rw z in omega (arith, h.is, t)

    module _ (k : i < m) where
      one_more : m - i ≡ suc (m - (i + 1))
      one_more = omega arith

      more_room : each * (m - i) ≡ each * (m - (i + 1)) + each
      more_room = rw one_more (mul-suc each (m - (i + 1)))

      next : at + each * i + each ≡ at + each * (i + 1)
      next = let x : each * (i + 1) ≡ each * i + each = rw (add-one i) (mul-suc each i) in omega (arith, x)

      pub run_there : at + each * i + each ≤ l
      run_there = omega (arith, more_room, h.room, h.some)

      pub run_words : l < 2 ^ 64 → Fits w64 (each * i)
      run_words b = let x = run_there in record { fits = omega arith }

      pub run_index : l < 2 ^ 64 → Fits w64 (at + each * i)
      run_index b = let x = run_there in record { fits = omega arith }

      step : (b : Bool) → f (at + each * i) ≡ b → run_of f each (m - i) (at + each * i) ≡ cond b (suc (run_of f each (m - (i + 1)) (at + each * (i + 1)))) 0
      unfolding run_of
      step b t = rw (one_more, t, next)

      pub run_on : f (at + each * i) ≡ true → Passed f each l r m at (i + 1)
      run_on t = record { some = h.some; room = rw (← next) (omega (arith, more_room, h.room)); is = omega (arith, h.is, step true t) }

      pub run_here : f (at + each * i) ≡ false → i ≡ r
      run_here t = omega (arith, h.is, step false t)

-- ---- Integers.

pub plain_whole : (s : List ℤ) (e : ℕ) → plain_at s e ≡ true → e + 2 ≤ length s
plain_whole s e h = let x = (plain_words_lem s e h).1 in omega arith

module _ (s : List ℤ) where
  pub plain_start : (n at m : ℕ) → m ≡ min n ((length s - at) / 2) → Passed (plain_at s) 2 (length s) (plain_run s n at) m at 0
  unfolding plain_run
  plain_start n at m q = run_start (plain_at s) 2 (length s) n at m (omega arith) (plain_whole s) q

  module _ (r m at i : ℕ) (h : Passed (plain_at s) 2 (length s) r m at i) (k : i < m) where
    pub plain_there : at + 2 * i < length s
    plain_there = let x = run_there (plain_at s) 2 (length s) r m at i h k in omega arith

    pub plain_is : (t : ℕ) → t ≡ tag_at s (at + 2 * i) → t ≡ 0 → plain_at s (at + 2 * i) ≡ true
    unfolding plain_at
    plain_is t q z = let x = run_there (plain_at s) 2 (length s) r m at i h k in rw (← q, z, lt-ltb (at + 2 * i + 1) (length s) (omega arith))

    pub plain_not : (t : ℕ) → t ≡ tag_at s (at + 2 * i) → (t ≡ 0 → ⊥) → plain_at s (at + 2 * i) ≡ false
    unfolding plain_at
    plain_not t q z = rw (← q, ne_eqb t 0 z)

pub ruleset run_rules = (plain_start, plain_there, plain_is, plain_not, run_out, run_words, run_index, run_on, run_here, rules)
