-- Document 01, section 3, answers 1 to 6, and document 02, No. 6: for every input exactly one of a refusal, by the first fault in the fixed order, or a run.
use Rattle.std.specs.Prelude.{ℕ, ◌≤◌, ◌<◌, ◌≡◌, ◌↔◌, List, length, ℤ}
use Rattle.rules.specs.Forms.{Value}
use Rattle.rules.specs.Reading.{ok, fault, read_target}
use Rattle.rules.specs.Causes.{Cause, cause_number, cause_of}
use Rattle.rules.specs.Services.{accepted, Rule, rule_of, cause_in, turned_away, match_in}
use Rattle.rules.specs.Rows.{Form}
use Rattle.forms.specs.Faults.{Fault, Judgement, Sane, match_turned, match_judged, refused_exactly, fault_once, not_both}
use Rattle.forms.specs.Wrong.{Wrong, Says}
use Rattle.forms.proofs.Wrong.{wrong_says}
use Rattle.promises.specs.Causes.{cause_none, cause_at_lem, cause_length, cause_5, cause_other, answer_5}

-- ---- Refusals: for every input exactly one of a refusal, by the first fault in the fixed order, or a run.

module _ (ms ps ts : List ℤ) where
  pub refused_or_run : (form : Form) (budget : ℕ) (room : List ℤ) → Judgement form ms ps ts budget room (match_in form ms ps ts budget room)
  refused_or_run form = match_judged form ms ps ts

  -- Answers 1 to 6 exactly with their fault and at its place; then nothing else is given, and the room is as it was.
  pub first_fault_exactly : (form : Form) (budget : ℕ) (room : List ℤ) (a i : ℕ)
      → Fault ms ps ts a i ↔ (1 ≤ a) × (a ≤ 6) × ((match_in form ms ps ts budget room).answer ≡ a) × ((match_in form ms ps ts budget room).place ≡ i)
  first_fault_exactly form = refused_exactly form ms ps ts

  pub room_as_it_was : (form : Form) (budget : ℕ) (room : List ℤ) (a i : ℕ) → Fault ms ps ts a i → match_in form ms ps ts budget room ≡ turned_away a i (cause_in a ts) room
  room_as_it_was form = match_turned form ms ps ts

  pub one_fault : (a i b j : ℕ) → Fault ms ps ts a i → Fault ms ps ts b j → (a ≡ b) × (i ≡ j)
  one_fault = fault_once ms ps ts

  pub fault_or_run : (a i : ℕ) (r : Rule) (v : Value) → Fault ms ps ts a i → Sane ms ps ts r v → ⊥
  fault_or_run = not_both ms ps ts

-- ---- The cause of a bad target. `Wrong` says, without the reader, where each of the seven stands; `Says` what that tells of the words there.

module _ (ts : List ℤ) where
  pub no_cause_exactly : cause_of ts ≡ 0 ↔ (v : Value) × (read_target ts ≡ ok v)
  no_cause_exactly = cause_none ts

  pub cause_exactly : (i : ℕ) (c : Cause) → (read_target ts ≡ fault i) × (cause_of ts ≡ cause_number c) ↔ Wrong ts i c
  cause_exactly = cause_at_lem ts

  pub over_length_exactly : cause_of ts ≡ 1 ↔ 1024 < length ts
  over_length_exactly = cause_length ts

  pub cause_says : (i : ℕ) (c : Cause) → read_target ts ≡ fault i → cause_of ts ≡ cause_number c → Says ts i c
  cause_says i c p q = wrong_says ((cause_at_lem ts i c).0 (p, q))

-- Match's sixth number is a cause exactly in answer 5, with its place, and else 0.
module _ (form : Form) (ms ps ts : List ℤ) (budget : ℕ) (room : List ℤ) where
  pub cause_told_exactly : (match_in form ms ps ts budget room).answer ≡ 5
      ↔ (1 ≤ (match_in form ms ps ts budget room).cause) × ((match_in form ms ps ts budget room).cause ≤ 7)
  cause_told_exactly = cause_5 form ms ps ts budget room

  pub no_cause_else : ((match_in form ms ps ts budget room).answer ≡ 5 → ⊥) → (match_in form ms ps ts budget room).cause ≡ 0
  no_cause_else = cause_other form ms ps ts budget room

  pub target_fault_exactly : (i : ℕ) (c : Cause) → ((r : Rule) × (rule_of ms ps ≡ accepted r)) × Wrong ts i c
      ↔ ((match_in form ms ps ts budget room).answer ≡ 5) × ((match_in form ms ps ts budget room).place ≡ i) × ((match_in form ms ps ts budget room).cause ≡ cause_number c)
  target_fault_exactly = answer_5 form ms ps ts budget room
