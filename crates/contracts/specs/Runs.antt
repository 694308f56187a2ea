-- The contracts of a run leave nothing open where it is lent as the last call left it: any two results that they allow agree, in every number and every word
-- of the room. What crosses the border then are the numbers of one match.
use Rattle.std.specs.Prelude.{ℕ, ◌+◌, ◌≤◌, ◌<◌, ◌≡◌, Bool, true, false, List, ◌++◌, length, take, drop, ltb, ℤ}
use Rattle.std.proofs.Common.{arith, sym, ◌∙◌, ltb-true, ltb-false}
use Rattle.std.proofs.Math.Path.{refl, ap}
use Rattle.rules.specs.Services.{Matched, match_picked}
use Rattle.run_rules.specs.Lent.{Numbers, Lent, cut, opened, advanced}
use Rattle.run_rules.specs.Calls.{Call, called, given}
use Rattle.run_rules.proofs.Matches.{numbers_of}
use Rattle.run_rules.proofs.Main.{portions_add_up, room_holds}
use Rattle.host_numbers.specs.Numbers.{bytes_of, over}
use Rattle.host.specs.Border.{match_numbers}
use Rattle.service_runs.specs.Kept.{told, Kept, Advances}
use Rattle.service_runs.specs.Opens.{Opens}
use Rattle.service_runs.specs.declared.run.Run.{Run}
use Rattle.service_runs.specs.declared.run.Out.{Out}
use Rattle.service_runs.specs.declared.opening.Start.{Start}
use Rattle.host_runs.specs.Runs.{both, start_numbers, OpenCalls, told_numbers, AdvanceCalls}
use Rattle.host_runs.specs.declared.Called.{Called}

-- ---- An opening: every field of the run, too, but where the call is refused as short; then the run is as it was.

pub opened_once : (form dialect : ℕ) (ms ps ts : List ℤ) (size : ℕ) (a b : Start) → Opens form dialect ms ps ts size a → Opens form dialect ms ps ts size b → a ≡ b
opened_once form dialect ms ps ts size a b p q = p.fixed ∙ sym q.fixed

pub open_called_once : (r : Run) (form dialect : ℕ) (ms ps ts : List ℤ) (size : ℕ) (numbers : List ℕ) (a b : Called) (m n : List ℕ)
    → OpenCalls r form dialect ms ps ts size numbers a m → OpenCalls r form dialect ms ps ts size numbers b n → (a ≡ b) × (m ≡ n)
open_called_once r form dialect ms ps ts size numbers a b m n p q = go (ltb (length numbers) 24) refl
  where
    go : (x : Bool) → ltb (length numbers) 24 ≡ x → (a ≡ b) × (m ≡ n)
    go true e = let s = p.short (ltb-true _ _ e) in let t = q.short (ltb-true _ _ e) in (s.0 ∙ sym t.0, s.1 ∙ sym t.1)
    go false e =
        let s = p.starts (ltb-false _ _ e) in
        let t = q.starts (ltb-false _ _ e) in
        let z : s.start ≡ t.start = s.opens.fixed ∙ sym t.opens.fixed in
        (s.is ∙ ap (λ (y : Start). both y.run y.answer) z ∙ sym t.is, s.written ∙ ap (λ (y : Start). over (bytes_of (start_numbers y)) numbers) z ∙ sym t.written)

-- ---- An advance of a run that is lent as the last call left it.

module _ (r : Run) (l : Lent) (k : Kept r l) (n : ℕ) (room : List ℤ) where
  pub advanced_once : (a b : Out) (x y : List ℤ) → Advances r n room a x → Advances r n room b y → (told a.told ≡ told b.told) × (x ≡ y)
  advanced_once a b x y p q = let s = p.as_held l k in let t = q.as_held l k in (s.0 ∙ sym t.0, s.1 ∙ sym t.1)

  -- The numbers as bytes.
  unfoldable listed : Numbers → List ℕ
  unfolding match_numbers
  listed z = match_numbers (record { answer = z.answer; place = z.place; rows = z.rows; steps = z.steps; words = z.words; cause = z.cause; room = room })

  as_listed : (t : _) → told_numbers t ≡ listed (told t)
  unfolding told_numbers told match_numbers listed
  as_listed t = refl

  advance_bytes : (numbers : List ℕ) → 48 ≤ length numbers → (o : Called) (x : List ℤ) (m : List ℕ) → AdvanceCalls r n room numbers o x m
      → (o.answer ≡ (advanced n room l).numbers.answer) × (x ≡ (advanced n room l).room) × (m ≡ over (bytes_of (listed (advanced n room l).numbers)) numbers)
  unfolding told
  advance_bytes numbers h o x m c =
      let g = c.goes h in
      let s = g.advances.as_held l k in
      (g.answer ∙ ap (λ (z : Numbers). z.answer) s.0, s.1, g.written ∙ ap (λ z. over (bytes_of z) numbers) (as_listed g.told ∙ ap listed s.0))

  pub advance_called_once : (numbers : List ℕ) (a b : Called) (x y : List ℤ) (m w : List ℕ) → AdvanceCalls r n room numbers a x m → AdvanceCalls r n room numbers b y w
      → (a.answer ≡ b.answer) × (x ≡ y) × (m ≡ w)
  advance_called_once numbers a b x y m w p q = go (ltb (length numbers) 48) refl
    where
      go : (z : Bool) → ltb (length numbers) 48 ≡ z → (a.answer ≡ b.answer) × (x ≡ y) × (m ≡ w)
      go true e =
          let s = p.short (ltb-true _ _ e) in
          let t = q.short (ltb-true _ _ e) in
          (ap (λ (c : Called). c.answer) (s.0 ∙ sym t.0), s.1 ∙ sym t.1, s.2 ∙ sym t.2)
      go false e =
          let s = advance_bytes numbers (ltb-false _ _ e) a x m p in
          let t = advance_bytes numbers (ltb-false _ _ e) b y w q in
          (s.0 ∙ sym t.0, s.1 ∙ sym t.1, s.2 ∙ sym t.2)

-- ---- After an opening and any calls: "the rows, steps and answer shall be those of one match with the portions' sum, cut at 4,294,967,295, as budget".

module _ (form dialect : ℕ) (ms ps ts : List ℤ) (size : ℕ) (calls : List Call) (r : Run) (k : Kept r (called calls (opened form dialect ms ps ts size).run)) (n : ℕ) (room : List ℤ)
    (like : length room ≡ size) (numbers : List ℕ) (long : 48 ≤ length numbers) (o : Called) (x : List ℤ) (m : List ℕ) (c : AdvanceCalls r n room numbers o x m) where
  abbrev before : Matched
  before = match_picked form dialect ms ps ts (cut (given size calls)) room

  abbrev now : Matched
  now = match_picked form dialect ms ps ts (cut (given size calls + n)) room

  pub numbers_of_one_match : (o.answer ≡ now.answer) × (m ≡ over (bytes_of (match_numbers now)) numbers)
  unfolding numbers_of match_numbers listed
  numbers_of_one_match =
      let b = advance_bytes r (called calls (opened form dialect ms ps ts size).run) k n room numbers long o x m c in
      let e = portions_add_up form dialect ms ps ts size calls n room like in (
        b.0 ∙ ap (λ (z : Numbers). z.answer) e,
        b.2 ∙ ap (λ z. over (bytes_of (listed r (called calls (opened form dialect ms ps ts size).run) k n room z)) numbers) e,
      )

  pub room_of_one_match : x ≡ take before.words room ++ drop before.words now.room
  room_of_one_match = (advance_bytes r (called calls (opened form dialect ms ps ts size).run) k n room numbers long o x m c).1 ∙ room_holds form dialect ms ps ts size calls n room like
