-- A run that was opened and called: what it tells and writes is what one match does.
use Rattle.std.specs.Prelude.{ℕ, zero, suc, ◌+◌, ◌-◌, ◌≤◌, ◌≡◌, ◌≢◌, Bool, true, false, leb, ℤ}
use Rattle.std.proofs.Common.{zero-add, add-zero, add_assoc, ◌∙◌, drop-drop}
use Rattle.std.proofs.Math.Nat.{sub-zero}
use native.Mathlib.Omega.{arith}
use Rattle.std.proofs.Math.Path.{refl, sym, ap, ap₂, subst}
use Rattle.std.proofs.Math.Option.{Option, none, some}
use mathlib.Core.List.{List, [], ◌∷◌, ◌++◌, append-nil, append_assoc}
use Rattle.std.proofs.Math.ListN.{length, length-append, take, drop, length-drop}
use Rattle.std.proofs.Math.Seq.{take-append_seam, drop-append_seam, drop-append-add}
use Rattle.rules.specs.Forms.{Matcher, Value}
use Rattle.rules.specs.Reading.{Verdict, ok, fault, read_matcher, read_pattern, read_target}
use Rattle.rules.specs.Variables.{variables}
use Rattle.rules.specs.Fit.{fits_in, fits_value}
use Rattle.rules.specs.Dialects.{Dialect, every_place, dialect_of}
use Rattle.rules.specs.Rows.{Form, form_of, row}
use Rattle.rules.specs.Search.{atom, end_of_not, State, state, after_in, leave_not, start, Run, stopped, row_step, run_in}
use Rattle.rules.specs.Services.{Rule, Judged, accepted, refused, test, rule_in, target_of, Matched, carried_out, cause_in, match_of, match_picked, match_rule_in, match_target_in}
use Rattle.rules.specs.Services
use Rattle.forms.specs.Faults.{RuleFault, not_matcher, not_pattern, misnumbered, misfit, rule_accepted, rule_refused, target_refused, Fault, of_rule, of_target}
use Rattle.run_rules.specs.Lent.{Terms, run, cut, Numbers, Held, ended, going, Lent, Opened, turned_away, begun, open_target, open_rule, opened_in, opened, allowed}
use Rattle.run_rules.specs.Lent.{since, written_at, told, held_after, room_after, Advanced, go_on, advanced}
use Rattle.run_rules.proofs.Splits.{behind, Split, over, further, split, written_fits}
use Rattle.run_rules.specs.Calls.{none_written}
use Rattle.run_rules.proofs.Calls.{like, same_numbers, held_add, told_add, held_zero, held_ended, over_held, further_held, second_steps}
use Rattle.run_rules.specs.Calls.{Call, called, given}
use Rattle.run_rules.proofs.Calls.{second_free, allowed_add, called_held}

-- The numbers of a match; and a call's numbers with its room, as match gives them.
unfoldable pub numbers_of : Matched → Numbers
numbers_of m = record { answer = m.answer; place = m.place; rows = m.rows; steps = m.steps; words = m.words; cause = m.cause }

unfoldable pub matched : Numbers → List ℤ → Matched
matched k room =
    record { answer = k.answer; place = k.place; rows = k.rows; steps = k.steps; words = k.words; cause = k.cause; room = room }

unfoldable pub matched_by : Advanced → Matched
unfolding matched
matched_by a = matched a.numbers a.room

-- ---- An opened run beside the match of the same words: both are turned away alike, or both take up the same first state.

pub data Beside (size : ℕ) (o : Opened) (m : ℕ → List ℤ → Matched) : Type 0 where
  away : (a i c : ℕ) → o ≡ turned_away size a i c → ((budget : ℕ) (room : List ℤ) → m budget room ≡ Services.turned_away a i c room) → Beside size o m
  fresh : (terms : Terms) (r : Rule) (v : Value) → o ≡ begun terms size r v
      → ((budget : ℕ) (room : List ℤ) → m budget room ≡ carried_out (run terms budget (start r.matcher r.pattern v ∷ []) (length room)) room)
      → Beside size o m

beside_target : (terms : Terms) (size : ℕ) (ts : List ℤ) (r : Rule) (x : Judged Value)
    → Beside size (open_target terms size ts r x) (λ budget room. match_target_in terms.dialect terms.form budget room ts r x)
unfolding open_target match_target_in
beside_target terms size ts r (refused a i) = away a i (cause_in a ts) refl (λ budget room. refl)
beside_target terms size ts r (accepted v) = fresh terms r v refl (λ budget room. refl)

beside_rule : (terms : Terms) (size : ℕ) (ts : List ℤ) (x : Judged Rule) → Beside size (open_rule terms size ts x) (λ budget room. match_rule_in terms.dialect terms.form budget room ts x)
unfolding open_rule match_rule_in
beside_rule terms size ts (refused a i) = away a i 0 refl (λ budget room. refl)
beside_rule terms size ts (accepted r) = beside_target terms size ts r (target_of r.matcher ts)

pub beside : (form dialect : ℕ) (ms ps ts : List ℤ) (size : ℕ) → Beside size (opened form dialect ms ps ts size) (match_picked form dialect ms ps ts)
unfolding opened opened_in match_picked match_of
beside form dialect ms ps ts size = go (form_of form) (dialect_of dialect)
  where
    go : (x : Option Form) (y : Option Dialect)
        → Beside size (elim x as (λ _. Opened) [
          | none ↦ turned_away size 20 0 0
          | some f ↦ elim y as (λ _. Opened) [ none ↦ turned_away size 22 0 0 | some d ↦ opened_in (record { form = f; dialect = d }) ms ps ts size ]
        ])
        (λ budget room. elim x as (λ _. Matched) [
          | none ↦ Services.turned_away 20 0 0 room
          | some f ↦ elim y as (λ _. Matched) [ none ↦ Services.turned_away 22 0 0 room | some d ↦ match_of d f ms ps ts budget room ]
        ])
    go none y = away 20 0 0 refl (λ budget room. refl)
    go (some f) none = away 22 0 0 refl (λ budget room. refl)
    go (some f) (some d) = beside_rule (record { form = f; dialect = d }) size ts (rule_in d ms ps)

-- ---- What is written in the room.

-- New words behind old ones.
behind_old : (old new room : List ℤ)
    → written_at (length old) new room ≡ take (length old) room ++ drop (length old) ((old ++ new) ++ drop (length (old ++ new)) room)
unfolding written_at
behind_old old new room = ap (λ l. take (length old) room ++ l) (sym (ap (drop (length old)) (append_assoc old new (drop (length (old ++ new)) room))
    ∙ drop-append_seam old (new ++ drop (length (old ++ new)) room) ∙ ap (λ i. new ++ drop i room) (length-append old new)))

onto_old : (old new room : List ℤ) → written_at (length old) new (old ++ drop (length old) room) ≡ (old ++ new) ++ drop (length (old ++ new)) room
unfolding written_at
onto_old old new room =
    ap₂ {C = List ℤ} (λ x y. x ++ (new ++ y)) (take-append_seam old (drop (length old) room))
    (drop-append-add old (drop (length old) room) (length new) ∙ drop-drop (length new) (length old) room ∙ ap (λ i. drop i room) (sym (length-append old new)))
    ∙ sym (append_assoc old new (drop (length (old ++ new)) room))

module _ (terms : Terms) (size : ℕ) (s : State) where
  abbrev begin : Held
  begin = going terms s [] 0 0 0

  -- What a run from the beginning writes with a sum of portions.
  unfoldable words_by : ℕ → List ℤ
  unfolding allowed run_in
  words_by n = (run terms (allowed n 0) (s ∷ []) (size - 0)).written

  -- A further portion adds some words, and writes these.
  record Adds (a b : ℕ) : Type 0 where
    new : List ℤ
    is : words_by (a + b) ≡ words_by a ++ new
    leaves : (room : List ℤ) → room_after b size (held_after a size begin) room ≡ written_at (length (words_by a)) new room

  both_words_lem : (a b : ℕ) → words_by (a + b) ≡ (run terms (allowed a 0 + allowed b (0 + allowed a 0)) (s ∷ []) (size - 0)).written
  unfolding words_by
  both_words_lem a b = ap (λ i. (run terms i (s ∷ []) (size - 0)).written) (allowed_add a b 0)

  adds_by : (a b : ℕ) → Split terms (allowed a 0) (allowed b (0 + allowed a 0)) (s ∷ []) (size - 0) → Adds a b
  unfolding words_by room_after behind
  adds_by a b (over e n f r) = record {
    new = [];
    is = both_words_lem a b ∙ ap (λ (x : Run). x.written) r ∙ sym (append-nil (words_by a));
    leaves = λ room. ap (λ h. room_after b size h room) (over_held terms a b size s [] 0 0 0 e) ∙ sym (none_written (length (words_by a)) room);
  }
  adds_by a b (further t ts e n i f r) = record {
    new = (run terms (allowed b (0 + allowed a 0)) (t ∷ ts) (size - 0 - length (words_by a))).written;
    is = both_words_lem a b ∙ ap (λ (x : Run). x.written) r;
    leaves = λ room. ap (λ h. room_after b size h room) (further_held terms a b size s [] 0 0 0 t ts e)
        ∙ ap₂ (λ x y. written_at (0 + length (words_by a)) (run terms x (t ∷ ts) y).written room) (second_steps terms a b size s [] 0 0 0 i) (second_free terms a b size s [] 0 0 0)
        ∙ ap (λ x. written_at x (run terms (allowed b (0 + allowed a 0)) (t ∷ ts) (size - 0 - length (words_by a))).written room) (zero-add (length (words_by a)));
  }

  adds : (a b : ℕ) → Adds a b
  adds a b = adds_by a b (split terms (allowed a 0) (allowed b (0 + allowed a 0)) (s ∷ []) (size - 0))

  -- The whole room after a sum of portions, where the game leaves it as it is.
  unfoldable room_by : ℕ → List ℤ → List ℤ
  unfolding words_by
  room_by n room = words_by n ++ drop (length (words_by n)) room

  room_behind : (a b : ℕ) (room : List ℤ)
      → room_after b size (held_after a size begin) room ≡ take (length (words_by a)) room ++ drop (length (words_by a)) (room_by (a + b) room)
  unfolding room_by
  room_behind a b room = let x = adds a b in x.leaves room ∙ behind_old (words_by a) x.new room
      ∙ ap (λ l. take (length (words_by a)) room ++ drop (length (words_by a)) (l ++ drop (length l) room)) (sym x.is)

  room_onto : (a b : ℕ) (room : List ℤ) → room_after b size (held_after a size begin) (room_by a room) ≡ room_by (a + b) room
  unfolding room_by
  room_onto a b room = let x = adds a b in x.leaves (room_by a room) ∙ onto_old (words_by a) x.new room ∙ ap (λ l. l ++ drop (length l) room) (sym x.is)

  room_long : (n : ℕ) (room : List ℤ) → length room ≡ size → length (room_by n room) ≡ size
  unfolding room_by words_by
  room_long n room e =
      let k = written_fits terms (allowed n 0) (s ∷ []) (size - 0) in
      let a = length-append (words_by n) (drop (length (words_by n)) room) in let b = length-drop (length (words_by n)) room in
      omega arith

-- ---- The portions one after the other, where the game leaves the room as it is; what the last call gives.

unfoldable pub portioned : (portion : ℕ) (more : List ℕ) (room : List ℤ) → Lent → Advanced
unfolding advanced
portioned n [] room l = advanced n room l
portioned n (m ∷ ms) room l = let a = advanced n room l in portioned m ms a.room a.run

unfoldable pub sum : List ℕ → ℕ
sum [] = 0
sum (n ∷ ns) = n + sum ns

module _ (terms : Terms) (size : ℕ) (s : State) where
  portioned_fresh : (g n : ℕ) (ns : List ℕ) (room : List ℤ) → length room ≡ size
      → matched_by (portioned n ns (room_by terms size s g room) (record { size = size; held = held_after g size (going terms s [] 0 0 0) }))
      ≡ matched (told (g + (n + sum ns)) size (going terms s [] 0 0 0)) (room_by terms size s (g + (n + sum ns)) room)
  unfolding portioned sum matched_by go_on
  portioned_fresh g n [] room e = ap matched_by (like n (room_by terms size s g room) (record { size = size; held = held_after g size (going terms s [] 0 0 0) }) (room_long terms size s g room e))
      ∙ ap₂ matched (told_add g n size (going terms s [] 0 0 0)) (room_onto terms size s g n room)
      ∙ ap (λ i. matched (told i size (going terms s [] 0 0 0)) (room_by terms size s i room)) (ap (λ (i : ℕ). g + i) (sym (add-zero n)))
  portioned_fresh g n (m ∷ ns) room e =
      ap (λ (a : Advanced). matched_by (portioned m ns a.room a.run))
      (like n (room_by terms size s g room) (record { size = size; held = held_after g size (going terms s [] 0 0 0) }) (room_long terms size s g room e))
      ∙ ap₂ (λ x h. matched_by (portioned m ns x (record { size = size; held = h }))) (room_onto terms size s g n room) (held_add g n size (going terms s [] 0 0 0))
      ∙ portioned_fresh (g + n) m ns room e
      ∙ ap (λ i. matched (told i size (going terms s [] 0 0 0)) (room_by terms size s i room)) (add_assoc g n (m + sum ns))

portioned_away : (size : ℕ) (k : Numbers) (n : ℕ) (ns : List ℕ) (room : List ℤ) → length room ≡ size
    → matched_by (portioned n ns room (record { size = size; held = ended k })) ≡ matched k room
unfolding portioned matched_by go_on told held_after room_after
portioned_away size k n [] room e = ap matched_by (like n room (record { size = size; held = ended k }) e)
portioned_away size k n (m ∷ ns) room e =
    ap (λ (a : Advanced). matched_by (portioned m ns a.room a.run)) (like n room (record { size = size; held = ended k }) e) ∙ portioned_away size k m ns room e

-- ---- As one match.

-- From the beginning with one portion.
fresh_run : (terms : Terms) (n size : ℕ) (s : State) (room : List ℤ) → length room ≡ size
    → run terms (allowed n 0) (s ∷ []) (size - 0) ≡ run terms (cut n) (s ∷ []) (length room)
unfolding allowed cut
fresh_run terms n size s room e = ap (λ i. run terms (cut n) (s ∷ []) i) (sub-zero size ∙ sym e)

fresh_told : (terms : Terms) (n size : ℕ) (s : State) (room : List ℤ) → length room ≡ size
    → told n size (going terms s [] 0 0 0) ≡ numbers_of (carried_out (run terms (cut n) (s ∷ []) (length room)) room)
unfolding told since numbers_of carried_out
fresh_told terms n size s room e = ap (since 0 0 0) (fresh_run terms n size s room e)
    ∙ same_numbers (run terms (cut n) (s ∷ []) (length room)).answer (zero-add _) (zero-add _) (zero-add _)

fresh_room : (terms : Terms) (n size : ℕ) (s : State) (room : List ℤ) → length room ≡ size
    → room_by terms size s n room ≡ (carried_out (run terms (cut n) (s ∷ []) (length room)) room).room
unfolding room_by words_by carried_out
fresh_room terms n size s room e = ap (λ (r : Run). r.written ++ drop (length r.written) room) (fresh_run terms n size s room e)

fresh_words : (terms : Terms) (n size : ℕ) (s : State) (room : List ℤ) → length room ≡ size
    → length (words_by terms size s n) ≡ (carried_out (run terms (cut n) (s ∷ []) (length room)) room).words
unfolding words_by carried_out
fresh_words terms n size s room e = ap (λ (r : Run). length r.written) (fresh_run terms n size s room e)

module _ (form dialect : ℕ) (ms ps ts : List ℤ) (size : ℕ) where
  abbrev it : Lent
  it = (opened form dialect ms ps ts size).run

  pub opened_size : it ≡ record { size = size; held = it.held }
  unfolding turned_away begun
  opened_size = go (beside form dialect ms ps ts size)
    where
      go : Beside size (opened form dialect ms ps ts size) (match_picked form dialect ms ps ts) → it ≡ record { size = size; held = it.held }
      go (away a i c e f) = subst (λ (o : Opened). o.run ≡ record { size = size; held = o.run.held }) (sym e) refl
      go (fresh g r v e f) = subst (λ (o : Opened). o.run ≡ record { size = size; held = o.run.held }) (sym e) refl

  -- One portion tells what the match tells.
  one_told : (n : ℕ) (room : List ℤ) → length room ≡ size → told n size it.held ≡ numbers_of (match_picked form dialect ms ps ts (cut n) room)
  unfolding turned_away begun told numbers_of Services.turned_away
  one_told n room z = go (beside form dialect ms ps ts size)
    where
      go : Beside size (opened form dialect ms ps ts size) (match_picked form dialect ms ps ts) → told n size it.held ≡ numbers_of (match_picked form dialect ms ps ts (cut n) room)
      go (away a i c e f) = ap (λ (o : Opened). told n size o.run.held) e ∙ sym (ap numbers_of (f (cut n) room))
      go (fresh g r v e f) = ap (λ (o : Opened). told n size o.run.held) e ∙ fresh_told g n size (start r.matcher r.pattern v) room z
          ∙ sym (ap numbers_of (f (cut n) room))

  -- A portion leaves in the room what the match leaves, behind the words of the portions before.
  one_room : (a b : ℕ) (room : List ℤ) → length room ≡ size
      → room_after b size (held_after a size it.held) room
      ≡ take (match_picked form dialect ms ps ts (cut a) room).words room ++ drop (match_picked form dialect ms ps ts (cut a) room).words (match_picked form dialect ms ps ts (cut (a + b)) room).room
  unfolding turned_away begun held_after room_after Services.turned_away
  one_room a b room z = go (beside form dialect ms ps ts size)
    where
      go : Beside size (opened form dialect ms ps ts size) (match_picked form dialect ms ps ts) → room_after b size (held_after a size it.held) room
          ≡ take (match_picked form dialect ms ps ts (cut a) room).words room ++ drop (match_picked form dialect ms ps ts (cut a) room).words (match_picked form dialect ms ps ts (cut (a + b)) room).room
      go (away x i c e f) = ap (λ (o : Opened). room_after b size (held_after a size o.run.held) room) e
          ∙ sym (ap₂ (λ (k m : Matched). take k.words room ++ drop k.words m.room) (f (cut a) room) (f (cut (a + b)) room))
      go (fresh g r v e f) =
          let s = start r.matcher r.pattern v in
          ap (λ (o : Opened). room_after b size (held_after a size o.run.held) room) e ∙ room_behind g size s a b room
          ∙ ap₂ (λ (i : ℕ) (l : List ℤ). take i room ++ drop i l) (fresh_words g a size s room z) (fresh_room g (a + b) size s room z)
          ∙ sym (ap₂ (λ (k m : Matched). take k.words room ++ drop k.words m.room) (f (cut a) room) (f (cut (a + b)) room))

  -- The portions one after the other.
  pub as_one : (n : ℕ) (ns : List ℕ) (room : List ℤ) → length room ≡ size → matched_by (portioned n ns room it) ≡ match_picked form dialect ms ps ts (cut (n + sum ns)) room
  unfolding turned_away begun numbers_of matched Services.turned_away room_by words_by
  as_one n ns room z = go (beside form dialect ms ps ts size)
    where
      go : Beside size (opened form dialect ms ps ts size) (match_picked form dialect ms ps ts) → matched_by (portioned n ns room it) ≡ match_picked form dialect ms ps ts (cut (n + sum ns)) room
      go (away a i c e f) = ap (λ (o : Opened). matched_by (portioned n ns room o.run)) e
          ∙ portioned_away size (record { answer = a; place = i; rows = 0; steps = 0; words = 0; cause = c }) n ns room z ∙ sym (f (cut (n + sum ns)) room)
      go (fresh g r v e f) =
          let s = start r.matcher r.pattern v in
          ap (λ (o : Opened). matched_by (portioned n ns room o.run)) e
          ∙ ap (λ h. matched_by (portioned n ns room (record { size = size; held = h }))) (sym (held_zero size (going g s [] 0 0 0)))
          ∙ portioned_fresh g size s 0 n ns room z
          ∙ ap (λ i. matched (told i size (going g s [] 0 0 0)) (room_by g size s i room)) (zero-add (n + sum ns))
          ∙ ap₂ matched (fresh_told g (n + sum ns) size s room z) (fresh_room g (n + sum ns) size s room z)
          ∙ sym (f (cut (n + sum ns)) room)

  module _ (calls : List Call) where
    abbrev lent : Lent
    lent = called calls it

    lent_is : lent ≡ record { size = size; held = held_after (given size calls) size it.held }
    lent_is = ap (called calls) opened_size ∙ called_held calls size it.held

    pub calls_told : (n : ℕ) (room : List ℤ) → length room ≡ size → (advanced n room lent).numbers ≡ numbers_of (match_picked form dialect ms ps ts (cut (given size calls + n)) room)
    unfolding go_on
    calls_told n room z = ap (λ l. (advanced n room l).numbers) lent_is
        ∙ ap (λ (a : Advanced). a.numbers) (like n room (record { size = size; held = held_after (given size calls) size it.held }) z)
        ∙ told_add (given size calls) n size it.held ∙ one_told (given size calls + n) room z

    pub calls_room : (n : ℕ) (room : List ℤ) → length room ≡ size → (advanced n room lent).room
        ≡ take (match_picked form dialect ms ps ts (cut (given size calls)) room).words room
        ++ drop (match_picked form dialect ms ps ts (cut (given size calls)) room).words (match_picked form dialect ms ps ts (cut (given size calls + n)) room).room
    unfolding go_on
    calls_room n room z = ap (λ l. (advanced n room l).room) lent_is
        ∙ ap (λ (a : Advanced). a.room) (like n room (record { size = size; held = held_after (given size calls) size it.held }) z)
        ∙ one_room (given size calls) n room z

    pub calls_size : lent.size ≡ size
    calls_size = ap (λ (l : Lent). l.size) lent_is

-- ---- An ended run.

module _ (n : ℕ) (x : List ℤ) (l : Lent) (like-x : length x ≡ l.size) (m : ℕ) (y : List ℤ) (like-y : length y ≡ l.size) where
  pub again : (advanced n x l).numbers.answer ≢ 7
      → advanced m y (advanced n x l).run ≡ record { numbers = (advanced n x l).numbers; room = y; run = (advanced n x l).run }
  unfolding go_on told held_after room_after
  again h =
      let a = like n x l like-x in
      let e = held_ended n l.size l.held (λ b. h (ap (λ (z : Advanced). z.numbers.answer) a ∙ b)) in
      let r : (advanced n x l).run ≡ record { size = l.size; held = ended (told n l.size l.held) } =
      ap (λ (z : Advanced). z.run) a ∙ ap {B = Lent} (λ k. record { size = l.size; held = k }) e in
      ap (advanced m y) r ∙ like m y (record { size = l.size; held = ended (told n l.size l.held) }) like-y
      ∙ ap₂ {C = Advanced} (λ k z. record { numbers = k; room = y; run = z }) (sym (ap (λ (z : Advanced). z.numbers) a)) (sym r)

pub zero_again : (n : ℕ) (x : List ℤ) (l : Lent) → length x ≡ l.size → (y : List ℤ) → length y ≡ l.size
    → (advanced 0 y (advanced n x l).run).numbers ≡ (advanced n x l).numbers
unfolding go_on
zero_again n x l hx y hy = ap (λ (a : Advanced). (advanced 0 y a.run).numbers) (like n x l hx)
    ∙ ap (λ (a : Advanced). a.numbers) (like 0 y (record { size = l.size; held = held_after n l.size l.held }) hy)
    ∙ told_add n 0 l.size l.held ∙ ap (λ i. told i l.size l.held) (add-zero n)
    ∙ sym (ap (λ (a : Advanced). a.numbers) (like n x l hx))

-- ---- The opening.

-- The numbers of a run that was refused.
unfoldable pub refusal : Opened → Numbers
refusal o = record { answer = o.answer; place = o.place; rows = 0; steps = 0; words = 0; cause = o.cause }

module _ (form dialect : ℕ) (ms ps ts : List ℤ) (size : ℕ) where
  pub refused_ended : (opened form dialect ms ps ts size).answer ≢ 0 → (n : ℕ) (room : List ℤ) → length room ≡ size
      → advanced n room (opened form dialect ms ps ts size).run ≡ record { numbers = refusal (opened form dialect ms ps ts size); room = room; run = (opened form dialect ms ps ts size).run }
  unfolding turned_away begun go_on told held_after room_after refusal
  refused_ended h n room z = go (beside form dialect ms ps ts size)
    where
      go : Beside size (opened form dialect ms ps ts size) (match_picked form dialect ms ps ts) → advanced n room (opened form dialect ms ps ts size).run
          ≡ record { numbers = refusal (opened form dialect ms ps ts size); room = room; run = (opened form dialect ms ps ts size).run }
      go (away a i c e f) = subst (λ (o : Opened). advanced n room o.run ≡ record { numbers = refusal o; room = room; run = o.run })
          (sym e) (like n room (turned_away size a i c).run z)
      go (fresh g r v e f) = absurd (h (ap (λ (o : Opened). o.answer) e))

  abbrev picked : Option Form → Option Dialect → Opened
  picked x y = elim x as (λ _. Opened) [
    | none ↦ turned_away size 20 0 0
    | some f ↦ elim y as (λ _. Opened) [ none ↦ turned_away size 22 0 0 | some d ↦ opened_in (record { form = f; dialect = d }) ms ps ts size ]
  ]

  -- "20, unknown row form, before 1"; "22, unknown dialect, before 1 and after 20".
  pub opening_unknown : form_of form ≡ none → opened form dialect ms ps ts size ≡ turned_away size 20 0 0
  unfolding opened
  opening_unknown e = ap (λ x. picked x (dialect_of dialect)) e

  pub opening_unknown_dialect : (f : Form) → form_of form ≡ some f → dialect_of dialect ≡ none → opened form dialect ms ps ts size ≡ turned_away size 22 0 0
  unfolding opened
  opening_unknown_dialect f e k = ap (λ x. picked x (dialect_of dialect)) e ∙ ap (picked (some f)) k

  module _ (f : Form) (in_form : form_of form ≡ some f) (d : Dialect) (in-dialect : dialect_of dialect ≡ some d) where
    abbrev terms : Terms
    terms = record { form = f; dialect = d }

    opened_in_lem : opened form dialect ms ps ts size ≡ opened_in terms ms ps ts size
    unfolding opened
    opened_in_lem = ap (λ x. picked x (dialect_of dialect)) in_form ∙ ap (picked (some f)) in-dialect

    -- "The checks 1 to 6."
    pub opening_rule_refused : (a i : ℕ) → rule_in d ms ps ≡ refused a i → opened form dialect ms ps ts size ≡ turned_away size a i 0
    unfolding opened_in open_rule
    opening_rule_refused a i e = opened_in_lem ∙ ap (open_rule terms size ts) e

    pub opening_target_refused : (r : Rule) → rule_in d ms ps ≡ accepted r → (a i : ℕ) → target_of r.matcher ts ≡ refused a i
        → opened form dialect ms ps ts size ≡ turned_away size a i (cause_in a ts)
    unfolding opened_in open_rule open_target
    opening_target_refused r e a i q = opened_in_lem ∙ ap (open_rule terms size ts) e ∙ ap (open_target terms size ts r) q

    pub opening_begins : (r : Rule) (v : Value) → rule_in d ms ps ≡ accepted r → target_of r.matcher ts ≡ accepted v
        → opened form dialect ms ps ts size ≡ begun terms size r v
    unfolding opened_in open_rule open_target
    opening_begins r v e q = opened_in_lem ∙ ap (open_rule terms size ts) e ∙ ap (open_target terms size ts r) q

  -- By the first fault of the whole input, in dialect 1.
  pub opening_refused : (f : Form) → form_of form ≡ some f → dialect_of dialect ≡ some every_place → (a i : ℕ) → Fault ms ps ts a i
      → opened form dialect ms ps ts size ≡ turned_away size a i (cause_in a ts)
  opening_refused f e k a i (of_rule w) = opening_rule_refused f e every_place k a i ((rule_refused ms ps a i).1 w) ∙ ap (turned_away size a i) (no_cause w)
    where
      no_cause : {a i : ℕ} → RuleFault ms ps a i → 0 ≡ cause_in a ts
      no_cause (not_matcher z) = unfold cause_in in refl
      no_cause (not_pattern y z) = unfold cause_in in refl
      no_cause (misnumbered x y z) = unfold cause_in in refl
      no_cause (misfit w x y z) = unfold cause_in in refl
  opening_refused f e k a i (of_target r w t) =
      opening_target_refused f e every_place k r ((rule_accepted ms ps r).1 w) a i ((target_refused r.matcher ts a i).1 t)

-- ---- 19 is no answer of a match.

run_most : (terms : Terms) (n : ℕ) (ss : List State) (free : ℕ) → (run terms n ss free).answer ≤ 8
unfolding run_in
run_most terms zero [] free = omega arith
run_most terms zero (s ∷ ss) free = omega arith
run_most terms (suc n) [] free = omega arith
run_most terms (suc n) (state g [] e ∷ ss) free = go (leb (length (row terms.form e)) free) (run_most terms n ss (free - length (row terms.form e)))
  where
    go : (b : Bool) → (run terms n ss (free - length (row terms.form e))).answer ≤ 8
        → (elim b as (λ _. Run) [ true ↦ row_step (row terms.form e) (run terms n ss (free - length (row terms.form e))) | false ↦ stopped 8 1 ]).answer ≤ 8
    go true h = h
    go false h = omega arith
run_most terms (suc n) (state g (end_of_not ∷ older) e ∷ ss) free = run_most terms n (leave_not ss) free
run_most terms (suc n) (state g (atom p m v ∷ older) e ∷ ss) free = run_most terms n (after_in terms.dialect p m v older e ++ ss) free

-- A refusal of the tests has an answer from 1 to 6.
unfoldable Tested : {A : Type 0} → Judged A → Type 0
Tested (accepted a) = 0 ≤ 6
Tested (refused a i) = (1 ≤ a) × (a ≤ 6)

tested : {A B : Type 0} (number : ℕ) → (1 ≤ number) × (number ≤ 6) → (x : Verdict A) (next : A → Judged B) → ((a : A) → Tested (next a)) → Tested (test number x next)
unfolding test Tested
tested number h (ok a) next f = f a
tested number h (fault i) next f = h

rule_tested : (d : Dialect) (ms ps : List ℤ) → Tested (rule_in d ms ps)
unfolding rule_in Tested
rule_tested d ms ps =
    tested 1 (omega arith) (read_matcher ms) _ λ m. tested 2 (omega arith) (read_pattern ps) _ λ p.
    tested 3 (omega arith) (variables p true 0 0) _ λ n. tested 4 (omega arith) (fits_in d p m 0 []) _ λ ks. omega arith

target_tested : (m : Matcher) (ts : List ℤ) → Tested (target_of m ts)
unfolding target_of Tested
target_tested m ts = tested 5 (omega arith) (read_target ts) _ λ v. tested 6 (omega arith) (fits_value m v 0) _ λ z. omega arith

pub rule_refusal : (d : Dialect) (ms ps : List ℤ) (a i : ℕ) → rule_in d ms ps ≡ refused a i → (1 ≤ a) × (a ≤ 6)
unfolding Tested
rule_refusal d ms ps a i e = subst Tested e (rule_tested d ms ps)

pub target_refusal : (m : Matcher) (ts : List ℤ) (a i : ℕ) → target_of m ts ≡ refused a i → (1 ≤ a) × (a ≤ 6)
unfolding Tested
target_refusal m ts a i e = subst Tested e (target_tested m ts)

module _ (t : Terms) (budget : ℕ) (room ts : List ℤ) where
  target_most : (r : Rule) (x : Judged Value) → Tested x → (match_target_in t.dialect t.form budget room ts r x).answer ≤ 8
  unfolding match_target_in Tested Services.turned_away carried_out
  target_most r (accepted v) h = run_most t budget (start r.matcher r.pattern v ∷ []) (length room)
  target_most r (refused a i) h = let k = h.1 in omega arith

  rule_most : (x : Judged Rule) → Tested x → (match_rule_in t.dialect t.form budget room ts x).answer ≤ 8
  unfolding match_rule_in Tested Services.turned_away
  rule_most (accepted r) h = target_most r (target_of r.matcher ts) (target_tested r.matcher ts)
  rule_most (refused a i) h = let k = h.1 in omega arith

pub match_never_19 : (form dialect : ℕ) (ms ps ts : List ℤ) (budget : ℕ) (room : List ℤ) → (match_picked form dialect ms ps ts budget room).answer ≢ 19
unfolding match_picked match_of Services.turned_away
match_never_19 form dialect ms ps ts budget room = go (form_of form) (dialect_of dialect)
  where
    go : (x : Option Form) (y : Option Dialect) → (elim x as (λ _. Matched) [
      | none ↦ Services.turned_away 20 0 0 room
      | some f ↦ elim y as (λ _. Matched) [ none ↦ Services.turned_away 22 0 0 room | some d ↦ match_of d f ms ps ts budget room ]
    ]).answer ≢ 19
    go none y h = omega arith
    go (some f) none h = omega arith
    go (some f) (some d) h = let k = rule_most (record { form = f; dialect = d }) budget room ts (rule_in d ms ps) (rule_tested d ms ps) in omega arith
