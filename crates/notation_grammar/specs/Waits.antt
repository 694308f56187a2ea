-- What waits, as the code's table holds it: how tight it is, how many of its parts are read, and its words so far.
use Prim.Native.Nat.{ℕ, suc, ◌+◌, ◌≤◌, ◌<◌}
use native.Mathlib.Omega.{arith}
use Rattle.std.specs.Prelude.{◌≡◌, refl, Bool, true, false, cond, length, get_or, set, ltb, T, ℤ}
use Rattle.std.proofs.Common.{ap, ◌∙◌, lt-ltb, length-set, get_or-set_same, get_or-set_other}
use mathlib.Core.List.{List, [], ◌∷◌, ◌++◌}
use Rattle.notation_step.specs.Stepped.{nothing, waiting_at, put_at}
use Rattle.notation_step.specs.declared.Waiting.{Waiting}

pub data Wait : Type 0 where
  wait : (tight parts : ℕ) → List ℤ → Wait

-- All words below, over the words before.
unfoldable pub under : List ℤ → List Wait → List ℤ
under base [] = base
under base (wait k c ws ∷ gs) = under base gs ++ ws

-- The table holds them, none with more than n parts.
unfoldable pub Held : (n : ℕ) → List Waiting → List ℤ → List Wait → Type 0
unfolding waiting_at under
Held n stack base [] = T true
Held n stack base (wait k c ws ∷ gs) =
    ((waiting_at stack (length gs)).tight ≡ k) × ((waiting_at stack (length gs)).start ≡ length (under base gs)) × ((waiting_at stack (length gs)).parts ≡ c) × (c ≤ n) × Held n stack base gs

pub held_more : (n m : ℕ) (stack : List Waiting) (base : List ℤ) (gs : List Wait) → n ≤ m → Held n stack base gs → Held m stack base gs
unfolding Held
held_more n m stack base [] l h = tt
held_more n m stack base (wait k c ws ∷ gs) l h = let e = h.3 in (h.0, h.1, h.2, omega arith, held_more n m stack base gs l h.4)

-- ---- The table with an entry changed.
pub put_size : (stack : List Waiting) (i : ℕ) (x : Waiting) → length (put_at stack i x) ≡ length stack
unfolding put_at
put_size stack i x = go (ltb i 16384)
  where
    go : (t : Bool) → length (cond t (set stack i x) stack) ≡ length stack
    go true = length-set stack i x
    go false = refl

pub put_same : (stack : List Waiting) (i : ℕ) (x : Waiting) → length stack ≡ 16384 → i < 16384 → waiting_at (put_at stack i x) i ≡ x
unfolding waiting_at put_at
put_same stack i x e l = rw (lt-ltb i 16384 l) (get_or-set_same stack i x nothing (omega arith))

pub put_other : (stack : List Waiting) (i : ℕ) (x : Waiting) (j : ℕ) → (j ≡ i → ⊥) → waiting_at (put_at stack i x) j ≡ waiting_at stack j
unfolding waiting_at put_at
put_other stack i x j h = go (ltb i 16384) (ltb j 16384)
  where
    go : (t u : Bool) → cond u (get_or (cond t (set stack i x) stack) j nothing) nothing ≡ cond u (get_or stack j nothing) nothing
    go true true = get_or-set_other stack i j x nothing h
    go true false = refl
    go false u = refl

-- A table that has the same entries below holds the same.
held_kept : (n : ℕ) (stack other : List Waiting) (base : List ℤ) (gs : List Wait) → ((j : ℕ) → j < length gs → waiting_at other j ≡ waiting_at stack j) → Held n stack base gs → Held n other base gs
unfolding Held
held_kept n stack other base [] f h = tt
held_kept n stack other base (wait k c ws ∷ gs) f h =
    let a = f (length gs) (omega arith) in
    (ap (λ w. w.tight) a ∙ h.0, ap (λ w. w.start) a ∙ h.1, ap (λ w. w.parts) a ∙ h.2, h.3, held_kept n stack other base gs (λ j l. f j (omega arith)) h.4)

-- ---- One more waits.
abbrev pub waiting : (k start parts : ℕ) → Waiting
waiting k start parts = record { tight = k; start = start; parts = parts }

abbrev pub taller : List Waiting → (top k start : ℕ) → List Waiting
taller stack top k start = put_at stack top (waiting k start 0)

pub taller_size : (stack : List Waiting) (top k start : ℕ) → length stack ≡ 16384 → length (taller stack top k start) ≡ 16384
taller_size stack top k start e = put_size stack top (waiting k start 0) ∙ e

-- The last entry is changed.
module _ (n : ℕ) (stack : List Waiting) (size : length stack ≡ 16384) (base : List ℤ) (gs : List Wait) (deep : length gs < 16384) (held : Held n stack base gs) where
  pub held_put : (k c : ℕ) (ws : List ℤ) → c ≤ n → Held n (put_at stack (length gs) (waiting k (length (under base gs)) c)) base (wait k c ws ∷ gs)
  unfolding Held
  held_put k c ws l =
      let x : Waiting = waiting k (length (under base gs)) c in
      let e = put_same stack (length gs) x size deep in (
        ap (λ w. w.tight) e,
        ap (λ w. w.start) e,
        ap (λ w. w.parts) e,
        l,
        held_kept n stack (put_at stack (length gs) x) base gs (λ j i. put_other stack (length gs) x j (λ q. absurd (omega (arith, q)))) held,
      )

  pub held_taller : (k : ℕ) (ws : List ℤ) → Held n (taller stack (length gs) k (length (under base gs))) base (wait k 0 ws ∷ gs)
  held_taller k ws = held_put k 0 ws (omega arith)

-- ---- One part more of the last is read.
pub held_counted : (n : ℕ) (stack : List Waiting) (base : List ℤ) (gs : List Wait) (k c : ℕ) (ws us : List ℤ) → length stack ≡ 16384 → length gs < 16384 → Held n stack base (wait k c ws ∷ gs)
    → Held (suc n) (put_at stack (length gs) (waiting k (length (under base gs)) (c + 1))) base (wait k (c + 1) us ∷ gs)
unfolding Held
held_counted n stack base gs k c ws us e l h = let b = h.3 in held_put (suc n) stack e base gs l (held_more n (suc n) stack base gs (omega arith) h.4) k (c + 1) us (omega arith)
