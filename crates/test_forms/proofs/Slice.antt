-- A form that is to be the whole slice, by where it ends. Assumes nothing.
use mathlib.Core.Path.{◌≡◌, refl, sym, ◌∙◌, ap}
use mathlib.Core.Bool.{Bool, true, false}
use mathlib.Core.List.{List, [], ◌∷◌}
use Prim.Native.Nat.{ℕ, ◌<◌, ◌≤◌}
use native.Mathlib.Omega.{arith}
use borrow.Author.Tests.{le-leb, lt-leb, lt-ltb, le-ltb}
use lib.ListN.{length, drop, length-drop}
use lib.IntN.{ℤ}
use Rattle.std.specs.Prelude.{Result, Ok, Err}
use Rattle.rules.specs.Reading.{Verdict, ok, fault, ◌then◌, Got, Reader, ended, whole, limited}
use Rattle.test_forms.specs.Tests.{tested}
use Rattle.test_forms.specs.Ends.{end_of, whole_at}
use Rattle.test_forms.proofs.Rows.{Along}

-- A form whose next word has the index e.
ended_at : {A : Type 0} (s : List ℤ) (e : ℕ) (a : A) → tested (ended (record { it = a; next = e; rest = drop e s })) ≡ whole_at s (Ok e)
unfolding tested ended whole_at
ended_at {A} s e a = go (drop e s) refl
  where
    go : (us : List ℤ) → drop e s ≡ us → tested {A = A} (ended (record { it = a; next = e; rest = us })) ≡ whole_at s (Ok e)
    go [] p = let l : length s ≤ e = omega (arith, simp length-drop at (ap length p)) in rw (le-ltb e (length s) l)
    go (w ∷ ws) p = let l : e < length s = omega (arith, simp length-drop at (ap length p)) in rw (lt-ltb e (length s) l)

module _ {A : Type 0} (most : ℕ) (r : Reader A) (s : List ℤ) where
  pub too_long : most < length s → Err most ≡ tested (limited most (whole r) s)
  unfolding limited tested
  too_long h = ap (λ (b : Bool). tested {A = A} (elim b as (λ _. Verdict A) [ true ↦ whole r s | false ↦ fault most ])) (sym (lt-leb (length s) most h))

  pub in_time : Along s r → length s ≤ most → (e : Result ℕ ℕ) → e ≡ end_of (r 0 s) → (v : Result (Unit {0}) ℕ) → v ≡ whole_at s e → v ≡ tested (limited most (whole r) s)
  unfolding limited whole tested ◌then◌ whole_at end_of Along
  in_time a h e q v x = x ∙ rw q (sym
      (ap (λ (b : Bool). tested {A = A} (elim b as (λ _. Verdict A) [ true ↦ whole r s | false ↦ fault most ])) (le-leb (length s) most h) ∙ go (r 0 s) refl))
    where
      go : (x : Verdict (Got A)) → r 0 s ≡ x → tested (x then ended) ≡ whole_at s (end_of x)
      go (ok g) e = ap (λ (us : List ℤ). tested (ended (record { it = g.it; next = g.next; rest = us }))) (a 0 g e) ∙ ended_at s g.next g.it
      go (fault i) e = refl

-- ---- What the end of a form says.

module _ (s : List ℤ) (e : Result ℕ ℕ) where
  pub at_left_over : (at : ℕ) → e ≡ Ok at → at < length s → Err at ≡ whole_at s e
  unfolding whole_at
  at_left_over at q h = rw (q, lt-ltb at (length s) h)

  pub at_all : (at : ℕ) → e ≡ Ok at → length s ≤ at → Ok tt ≡ whole_at s e
  unfolding whole_at
  at_all at q h = rw (q, le-ltb at (length s) h)

  pub at_bad : (i : ℕ) → e ≡ Err i → Err i ≡ whole_at s e
  unfolding whole_at
  at_bad i q = rw q
