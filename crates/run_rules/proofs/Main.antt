-- What is promised of a run in portions, each in a few lines. The other modules hold the proofs. The words that the statements use are defined in Lent, in
-- Calls (called: after some calls; given: their portions' sum) and in Matches (numbers_of, refusal; portioned, sum: portions one after the other).
use Rattle.std.specs.Prelude.{ℕ, ◌+◌, min, ◌≡◌, refl, ◌≢◌, ◌↔◌, List, ◌++◌, length, take, drop, ℤ}
use Rattle.std.proofs.Common.{sym, ◌∙◌}
use Rattle.std.proofs.Math.Path.{ap}
use Rattle.std.proofs.Math.Option.{none, some}
use Rattle.rules.specs.Forms.{Value}
use Rattle.rules.specs.Dialects.{Dialect, every_place, dialect_of}
use Rattle.rules.specs.Rows.{Form, form_of}
use Rattle.rules.specs.Services.{Rule, accepted, refused, rule_in, target_of, Matched, cause_in, match_picked}
use Rattle.forms.specs.Faults.{Fault}
use Rattle.run_rules.specs.Lent.{cut, Numbers, Lent, turned_away, begun, opened, go_on, unlike, Advanced, advanced}
use Rattle.run_rules.specs.Calls.{Call, called, given}
use Rattle.run_rules.proofs.Calls.{like, other, held_zero, room_zero}
use Rattle.run_rules.proofs.Matches.{numbers_of, matched_by, portioned, sum, as_one, calls_told, calls_room, calls_size, again, zero_again, refusal, refused_ended}
use Rattle.run_rules.proofs.Matches.{opening_unknown, opening_unknown_dialect, opening_rule_refused, opening_target_refused, opening_refused, opening_begins, match_never_19}

-- ---- "Opening makes the checks 1 to 6; a run refused there has ended." 20 and, after it, 22 come before them.

module _ (form dialect : ℕ) (ms ps ts : List ℤ) (size : ℕ) where
  pub unknown_at_opening : form_of form ≡ none → opened form dialect ms ps ts size ≡ turned_away size 20 0 0
  unknown_at_opening = opening_unknown form dialect ms ps ts size

  pub unknown_dialect_at_opening : (f : Form) → form_of form ≡ some f → dialect_of dialect ≡ none → opened form dialect ms ps ts size ≡ turned_away size 22 0 0
  unknown_dialect_at_opening = opening_unknown_dialect form dialect ms ps ts size

  -- The tests 1 to 4 of the dialect, then 5 and 6.
  module _ (f : Form) (in_form : form_of form ≡ some f) (d : Dialect) (in-dialect : dialect_of dialect ≡ some d) where
    pub rule_refused_at_opening : (a i : ℕ) → rule_in d ms ps ≡ refused a i → opened form dialect ms ps ts size ≡ turned_away size a i 0
    rule_refused_at_opening = opening_rule_refused form dialect ms ps ts size f in_form d in-dialect

    pub target_refused_at_opening : (r : Rule) → rule_in d ms ps ≡ accepted r → (a i : ℕ) → target_of r.matcher ts ≡ refused a i
        → opened form dialect ms ps ts size ≡ turned_away size a i (cause_in a ts)
    target_refused_at_opening = opening_target_refused form dialect ms ps ts size f in_form d in-dialect

    pub begun_at_opening : (r : Rule) (v : Value) → rule_in d ms ps ≡ accepted r → target_of r.matcher ts ≡ accepted v
        → opened form dialect ms ps ts size ≡ begun (record { form = f; dialect = d }) size r v
    begun_at_opening = opening_begins form dialect ms ps ts size f in_form d in-dialect

  -- In dialect 1 by the first fault of the whole input.
  pub refused_at_opening : (f : Form) → form_of form ≡ some f → dialect_of dialect ≡ some every_place → (a i : ℕ) → Fault ms ps ts a i
      → opened form dialect ms ps ts size ≡ turned_away size a i (cause_in a ts)
  refused_at_opening = opening_refused form dialect ms ps ts size

  pub refused_has_ended : (opened form dialect ms ps ts size).answer ≢ 0 → (n : ℕ) (room : List ℤ) → length room ≡ size
      → advanced n room (opened form dialect ms ps ts size).run ≡ record { numbers = refusal (opened form dialect ms ps ts size); room = room; run = (opened form dialect ms ps ts size).run }
  refused_has_ended = refused_ended form dialect ms ps ts size

-- ---- "However the steps are portioned, the rows, steps and answer shall be those of one match with the portions' sum, cut at 4,294,967,295, as budget."

pub cut_is : (n : ℕ) → cut n ≡ min n 4294967295
unfolding cut
cut_is n = refl

-- Every number and every word of the room, where the game leaves the room as it is between the calls.
pub one_match : (form dialect : ℕ) (ms ps ts : List ℤ) (n : ℕ) (ns : List ℕ) (room : List ℤ)
    → matched_by (portioned n ns room (opened form dialect ms ps ts (length room)).run) ≡ match_picked form dialect ms ps ts (cut (n + sum ns)) room
one_match form dialect ms ps ts n ns room = as_one form dialect ms ps ts (length room) n ns room refl

-- Whatever the game writes in the room between the calls, and whatever else it calls for: the numbers are those of that match; from the end of the words
-- written before, the room holds what that match leaves there, and up to there what it held.
module _ (form dialect : ℕ) (ms ps ts : List ℤ) (size : ℕ) (calls : List Call) where
  abbrev lent : Lent
  lent = called calls (opened form dialect ms ps ts size).run

  abbrev before : (room : List ℤ) → Matched
  before room = match_picked form dialect ms ps ts (cut (given size calls)) room

  abbrev now : (n : ℕ) (room : List ℤ) → Matched
  now n room = match_picked form dialect ms ps ts (cut (given size calls + n)) room

  pub portions_add_up : (n : ℕ) (room : List ℤ) → length room ≡ size → (advanced n room lent).numbers ≡ numbers_of (now n room)
  portions_add_up = calls_told form dialect ms ps ts size calls

  pub room_holds : (n : ℕ) (room : List ℤ) → length room ≡ size
      → (advanced n room lent).room ≡ take (before room).words room ++ drop (before room).words (now n room).room
  room_holds = calls_room form dialect ms ps ts size calls

  -- "19, a result room unlike the size given at opening": exactly then.
  pub unlike_exactly : (n : ℕ) (room : List ℤ) → (advanced n room lent).numbers.answer ≡ 19 ↔ length room ≢ size
  unfolding numbers_of unlike
  unlike_exactly n room = (
    λ a e. let k = ap (λ (x : Numbers). x.answer) (calls_told form dialect ms ps ts size calls n room e) in
        match_never_19 form dialect ms ps ts (cut (given size calls + n)) room (sym k ∙ a),
    λ h. ap (λ (x : Advanced). x.numbers.answer) (other n room lent (λ e. h (e ∙ calls_size form dialect ms ps ts size calls))),
  )

-- ---- Any run, however lent: "19 .. before anything else, the run unchanged"; "a portion of 0 changes nothing"; "a run that has ended gives its answer again
-- and touches nothing".

module _ (l : Lent) where
  pub unlike_first : (n : ℕ) (room : List ℤ) → length room ≢ l.size → advanced n room l ≡ unlike room l
  unlike_first n room h = other n room l h

  pub zero_changes_nothing : (room : List ℤ) → length room ≡ l.size → ((advanced 0 room l).run ≡ l) × ((advanced 0 room l).room ≡ room)
  unfolding go_on
  zero_changes_nothing room e =
      let q = like 0 room l e in (
        ap (λ (a : Advanced). a.run) q ∙ ap {B = Lent} (λ h. record { size = l.size; held = h }) (held_zero l.size l.held),
        ap (λ (a : Advanced). a.room) q ∙ room_zero l.size l.held room,
      )

  module _ (n : ℕ) (x : List ℤ) (e : length x ≡ l.size) (y : List ℤ) (f : length y ≡ l.size) where
    pub zero_tells_again : (advanced 0 y (advanced n x l).run).numbers ≡ (advanced n x l).numbers
    zero_tells_again = zero_again n x l e y f

    pub ended_again : (advanced n x l).numbers.answer ≢ 7 → (m : ℕ)
        → advanced m y (advanced n x l).run ≡ record { numbers = (advanced n x l).numbers; room = y; run = (advanced n x l).run }
    ended_again h m = again n x l e m y f h
