-- The calls on a lent run, by value, as the code asks for them. Assumes nothing.
use Prim.Native.Nat.{ℕ, ◌≤◌, ◌<◌}
use native.Mathlib.Omega.{arith}
use mathlib.Core.Path.{◌≡◌, refl, ◌∙◌}
use mathlib.Core.List.{List, [], ◌∷◌}
use lib.ListN.{length}
use lib.IntN.{ℤ}
use borrow.Author.Rules.{rules}
use Rattle.host_numbers.specs.Numbers.{bytes_of, over}
use Rattle.service_runs.specs.Kept.{Advances}
use Rattle.service_runs.specs.Opens.{Opens}
use Rattle.service_runs.specs.declared.run.Run.{Run}
use Rattle.service_runs.specs.declared.run.Out.{Out}
use Rattle.service_runs.specs.declared.opening.Start.{Start}
use Rattle.host_runs.specs.Runs.{start_numbers, OpenCalls, told_numbers, AdvanceCalls}

module _ (r : Run) (form dialect : ℕ) (ms ps ts : List ℤ) (size : ℕ) (numbers : List ℕ) where
  pub open_short : length numbers < 24 → OpenCalls r form dialect ms ps ts size numbers (record { run = r; answer = 24 }) numbers
  open_short h = record { short = λ k. (refl, refl); starts = λ k. absurd (omega arith) }

  pub open_told : 24 ≤ length numbers → (s : Start) → Opens form dialect ms ps ts size s → (a i c : ℕ) (numbers' : List ℕ) → a ≡ s.answer → i ≡ s.place → c ≡ s.cause
      → numbers' ≡ over (bytes_of (a ∷ i ∷ c ∷ [])) numbers → OpenCalls r form dialect ms ps ts size numbers (record { run = s.run; answer = s.answer }) numbers'
  unfolding start_numbers
  open_told h s o a i c numbers' p q e w = record {
    short = λ k. absurd (omega arith);
    starts = λ k. record { start = s; opens = o; is = refl; written = w ∙ rw (p, q, e) };
  }

pub ruleset open_rules = (open_short, open_told, rules)

module _ (r : Run) (n : ℕ) (room : List ℤ) (numbers : List ℕ) where
  pub advance_short : length numbers < 48 → AdvanceCalls r n room numbers (record { run = r; answer = 24 }) room numbers
  advance_short h = record { short = λ k. (refl, refl, refl); goes = λ k. absurd (omega arith) }

  pub advance_told : 48 ≤ length numbers → (o : Out) (room' : List ℤ) → Advances r n room o room' → (a i w c : ℕ) (numbers' : List ℕ) → a ≡ o.told.answer → i ≡ o.told.place
      → w ≡ o.told.words → c ≡ o.told.cause → numbers' ≡ over (bytes_of (a ∷ i ∷ o.told.rows ∷ o.told.steps ∷ w ∷ c ∷ [])) numbers
      → AdvanceCalls r n room numbers (record { run = o.run; answer = o.told.answer }) room' numbers'
  unfolding told_numbers
  advance_told h o room' s a i w c numbers' p q e f z = record {
    short = λ k. absurd (omega arith);
    goes = λ k. record { told = o.told; advances = s; answer = refl; written = z ∙ rw (p, q, e, f) };
  }

pub ruleset advance_rules = (advance_short, advance_told, rules)
