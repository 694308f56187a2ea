-- The members of a collection that fit at once. Assumes nothing.
use mathlib.Core.Path.{◌≡◌, refl, sym, ◌∙◌}
use mathlib.Core.Bool.{Bool, true, false, cond}
use mathlib.Core.List.{List}
use Prim.Native.Nat.{ℕ, zero, suc, min, ◌+◌, ◌-◌, ◌*◌, ◌/◌, ◌^◌, ◌<◌, ◌≤◌}
use native.Mathlib.Omega.{arith}
use borrow.Author.Rules.{rules}
use borrow.Author.Tests.{ltb-true, eq-eqb, ne_eqb, eqb-true}
use mir.Syntax.{w64}
use mir.Val.{Fits}
use lib.Dec.{eqb, ltb}
use lib.ListN.{length}
use lib.IntN.{ℤ}
use Rattle.std.specs.Prelude.{Result, Ok}
use Rattle.words.specs.Words.{tag_at}
use Rattle.words.proofs.Signed as signed
use Rattle.test_forms.specs.Ends.{onward}
use Rattle.test_target.specs.Targets.{plain_at, run_of, plain_run}
use Rattle.test_target.proofs.Steps.{plain_words_lem}
use Rattle.test_target.proofs.Runs.{Passed, plain_whole, run_most, run_within, run_start, run_there, run_out, run_words, run_index, run_on, run_here}
use Rattle.test_unfit.specs.Unfit.{next_member, number_fits, is_pair, pair_fits, asks_pairs, plain_pair, pair_run, passed, fit_run, in_each, fit_from}
use Rattle.test_unfit.specs.declared.Run.{Run}
use Rattle.test_unfit.proofs.Steps.{holds, number_end, pair_end}

-- ---- A tuple of two integers.

pub behind_asked : (m : List ℤ) (j t : ℕ) → t ≡ tag_at m (j + 2) → t ≡ 1 → length m < 2 ^ 64 → Fits w64 (j + 3)
behind_asked m j t q z l = let w = signed.within m (j + 2) t q (omega arith) in record { fits = omega arith }

-- ---- A pair of integers.

pub plain_pair_whole : (s : List ℤ) (e : ℕ) → plain_pair s e ≡ true → e + 6 ≤ length s
unfolding plain_pair
plain_pair_whole s e h =
    let x = (holds (plain_at s (e + 2)) _ (holds (is_pair s e 2) _ h).1).1 in
    let y = (plain_words_lem s (e + 4) x).1 in
    omega arith

pub pair_start : (s : List ℤ) (n at m : ℕ) → m ≡ min n ((length s - at) / 6) → Passed (plain_pair s) 6 (length s) (pair_run s n at) m at 0
unfolding pair_run
pair_start s n at m q = run_start (plain_pair s) 6 (length s) n at m (omega arith) (plain_pair_whole s) q

pub pair_seen : (s : List ℤ) (e : ℕ) (b c : Bool) → b ≡ plain_pair s e → b ≡ c → plain_pair s e ≡ c
pair_seen s e b c q h = sym q ∙ h

pub ruleset pair_run_rules = (pair_start, pair_seen, run_there, run_out, run_words, run_index, run_on, run_here, rules)

-- ---- Those that fit at once.

module _ (s m : List ℤ) (at n k j d : ℕ) (r : Run) where
  pub run_tuple : k ≡ 4 → r ≡ passed at 0 0 → r ≡ fit_run s at n m k j d
  unfolding fit_run
  run_tuple h x = x ∙ rw h

  module _ (f : k ≡ 4 → ⊥) (t : ℕ) (e : t ≡ tag_at m j) where
    pub run_numbers : t ≡ 1 → (c : ℕ) → c ≡ plain_run s n at → r ≡ passed at 2 c → r ≡ fit_run s at n m k j d
    unfolding fit_run
    run_numbers h c q x = x ∙ rw (ne_eqb k 4 f, ← e, h, q)

    module _ (h : t ≡ 1 → ⊥) (b : Bool) (w : b ≡ asks_pairs m j d) where
      pub run_pairs : b ≡ true → (c : ℕ) → c ≡ pair_run s n at → r ≡ passed at 6 c → r ≡ fit_run s at n m k j d
      unfolding fit_run
      run_pairs z c q x = x ∙ rw (← w, z, ← q, ne_eqb k 4 f, ← e, ne_eqb t 1 h)

      pub run_other : b ≡ false → r ≡ passed at 0 0 → r ≡ fit_run s at n m k j d
      unfolding fit_run
      run_other z x = x ∙ rw (← w, z, ne_eqb k 4 f, ← e, ne_eqb t 1 h)

module _ (s : List ℤ) (n at c : ℕ) (a : at < 2 ^ 64) (l : length s < 2 ^ 64) where
  pub numbers_fit : c ≡ plain_run s n at → at + 2 * c < 18446744073709551616
  unfolding plain_run
  numbers_fit q = rw q (run_within (plain_at s) 2 (length s) (plain_whole s) n at a l)

  pub pairs_fit : c ≡ pair_run s n at → at + 6 * c < 18446744073709551616
  unfolding pair_run
  pairs_fit q = rw q (run_within (plain_pair s) 6 (length s) (plain_pair_whole s) n at a l)

pub ruleset fit_run_rules = (run_tuple, run_numbers, run_pairs, run_other, numbers_fit, pairs_fit, rules)

by_run : (s m : List ℤ) (at n k j d : ℕ) (P : Run → Type 0) → P (passed at 0 0) → ((k ≡ 4 → ⊥) → tag_at m j ≡ 1 → P (passed at 2 (plain_run s n at)))
    → ((k ≡ 4 → ⊥) → asks_pairs m j d ≡ true → P (passed at 6 (pair_run s n at))) → P (fit_run s at n m k j d)
unfolding fit_run
by_run s m at n k j d P z f g = go (eqb k 4) refl (eqb (tag_at m j) 1) refl (asks_pairs m j d) refl
  where
    other : eqb k 4 ≡ false → k ≡ 4 → ⊥
    other p y = let u : false ≡ true = sym p ∙ eq-eqb k 4 y in let w : ◌≡◌ {A = ℕ} 0 1 = cc in absurd (omega arith)

    go : (a : Bool) → eqb k 4 ≡ a → (b : Bool) → eqb (tag_at m j) 1 ≡ b → (c : Bool) → asks_pairs m j d ≡ c
        → P (cond a (passed at 0 0) (cond b (passed at 2 (plain_run s n at)) (cond c (passed at 6 (pair_run s n at)) (passed at 0 0))))
    go true p b q c w = z
    go false p true q c w = f (other p) (eqb-true (tag_at m j) 1 q)
    go false p false q true w = g (other p) w
    go false p false q false w = z

-- ---- Past them.

module _ (s m : List ℤ) (d k j : ℕ) where
  abbrev rest : ℕ → ℕ → Result ℕ ℕ
  rest n e = in_each (fit_from s m d) (next_member m k) n j e

  rest_at : {a b x y : ℕ} → a ≡ b → x ≡ y → rest a x ≡ rest b y
  rest_at p q = rw (p, q)

  -- Where p holds, a value of so many words fits.
  module _ (f : k ≡ 4 → ⊥) (p : ℕ → Bool) (each : ℕ) (w : (e : ℕ) → p e ≡ true → Ok (e + each) ≡ fit_from s m d j e) where
    one_on : (n e : ℕ) → p e ≡ true → rest (suc n) e ≡ rest n (e + each)
    unfolding in_each onward next_member
    one_on n e h = rw (← w e h, ne_eqb k 4 f)

    pass_run : (n e : ℕ) → rest n e ≡ rest (n - run_of p each n e) (e + each * run_of p each n e)
    unfolding run_of
    pass_run zero e = rest_at (omega arith) (omega arith)
    pass_run (suc n) e = go (p e) refl (pass_run n (e + each))
      where
        go : (b : Bool) → p e ≡ b → rest n (e + each) ≡ rest (n - run_of p each n (e + each)) (e + each + each * run_of p each n (e + each))
            → rest (suc n) e ≡ rest (suc n - cond b (suc (run_of p each n (e + each))) 0) (e + each * cond b (suc (run_of p each n (e + each))) 0)
        go true h r = one_on n e h ∙ r ∙ rest_at (omega arith) (omega arith)
        go false h r = rest_at (omega arith) (omega arith)

-- An integer under integer, and a pair of integers under a tuple of two.
integer_end : (s m : List ℤ) (d j : ℕ) → tag_at m j ≡ 1 → (e : ℕ) → plain_at s e ≡ true → Ok (e + 2) ≡ fit_from s m d j e
unfolding number_fits
integer_end s m d j h e p = number_end s m e j d (rw (eq-eqb (tag_at m j) 1 h) p)

integers_end : (s m : List ℤ) (depth j : ℕ) → asks_pairs m j depth ≡ true → (e : ℕ) → plain_pair s e ≡ true → Ok (e + 6) ≡ fit_from s m (depth - 1) j e
unfolding asks_pairs plain_pair pair_fits number_fits
integers_end s m depth j h e p =
    let l = holds (ltb 1 depth) _ h in
    let a = holds (is_pair m j 4) _ l.1 in
    let b = holds (eqb (tag_at m (j + 2)) 1) _ a.1 in
    let u = holds (is_pair s e 2) _ p in
    let v = holds (plain_at s (e + 2)) _ u.1 in
    let z : depth - 1 ≡ suc (depth - 2) = omega (arith, ltb-true 1 depth l.0) in
    rw z (pair_end s m e j (depth - 2) (rw (a.0, u.0, b.0, v.0, b.1) v.1))

module _ (s m : List ℤ) (k j n e depth : ℕ) (r : Run) (q : r ≡ fit_run s e n m k j depth) where
  -- What the members give, v, is what those behind the run give.
  pub loop_run : (v : Result ℕ ℕ) → v ≡ in_each (fit_from s m (depth - 1)) (next_member m k) n j e
      → v ≡ in_each (fit_from s m (depth - 1)) (next_member m k) (n - r.members) j r.end
  unfolding passed plain_run pair_run
  loop_run v x = x ∙ rw q (by_run s m e n k j depth (λ c. rest s m (depth - 1) k j n e ≡ rest s m (depth - 1) k j (n - c.members) c.end)
      (rest_at s m (depth - 1) k j (omega arith) (omega arith))
      (λ f h. pass_run s m (depth - 1) k j f (plain_at s) 2 (integer_end s m (depth - 1) j h) n e)
      (λ f h. pass_run s m (depth - 1) k j f (plain_pair s) 6 (integers_end s m depth j h) n e))
