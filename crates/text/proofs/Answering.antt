-- From the input to what is printed, as the code asks. Assumes nothing.
use mathlib.Core.Bool.{true}
use mathlib.Core.Path.{◌≡◌, refl, sym, ◌∙◌, ap}
use Rattle.std.specs.Prelude.{Some, None}
use mathlib.Core.List.{List, [], ◌∷◌, ◌++◌}
use Prim.Native.Nat.{ℕ, zero, suc, ◌+◌, ◌-◌, ◌*◌, ◌<◌, ◌≤◌}
use native.Mathlib.Omega.{arith}
use borrow.Author.Rules.{rules}
use lib.IntN.{ℤ, pos}
use lib.ListN.{length, take, drop, replicate, length-append, length-drop, length-replicate}
use Rattle.rules.specs.Search.{run, start}
use lib.Seq.{length-take-le}
use Rattle.rules.specs.Forms.{Value}
use Rattle.rules.specs.Reading.{Verdict, ok, fault, ◌then◌, read_pattern}
use Rattle.rules.specs.Variables.{variables}
use Rattle.room_rules.specs.Rooms.{or_none, variables_in}
use Rattle.rules.specs.Services.{Judged, accepted, refused, Rule, turned_away, carried_out, target_of, rule_of, match_target, match_rule, match_in, match, match_of, match_rule_in, match_target_in}
use Rattle.rules.specs.Rows.{as_words}
use Rattle.rules.specs.Services as paper
use Rattle.services.specs.Matches.{told}
use Rattle.services.specs.declared.matching.Matched.{Matched}
use Rattle.text_print.specs.Decimal.{line_of}
use Rattle.text_print.specs.Rows.{cut_rows, empty_rows, lines}
use Rattle.text_ask.specs.Question.{asked}
use Rattle.text.specs.Printed.{or_zero, variables_of, first_line, report, matched, answer_to, printed, empty_report, empty_to, empty_lines}
use Rattle.text_print.specs.Meaning.{unreadable, Text, six_line}
use Rattle.text.specs.Meaning.{Answer}
use Rattle.text_print.specs.declared.rows.Rest.{Rest}

-- No more words are written than the room has: what was written and what is left of the room are as long as the room.
WordsIn : List ℤ → paper.Matched → Type 0
WordsIn room m = length m.room ≡ length room → m.words ≤ length room

words_target : (budget : ℕ) (room ts : List ℤ) (r : Rule) (v : Judged Value) → WordsIn room (match_target as_words budget room ts r v)
unfolding WordsIn match_target_in turned_away carried_out
words_target budget room ts r (refused a i) e = omega arith
words_target budget room ts r (accepted v) e =
    let ws = (run as_words budget (start r.matcher r.pattern v ∷ []) (length room)).written in
    let a = length-append ws (drop (length ws) room) in
    let b = length-drop (length ws) room in
    omega arith

words_rule : (budget : ℕ) (room ts : List ℤ) (r : Judged Rule) → WordsIn room (match_rule as_words budget room ts r)
unfolding WordsIn match_rule_in turned_away
words_rule budget room ts (refused a i) e = omega arith
words_rule budget room ts (accepted r) e = words_target budget room ts r (target_of r.matcher ts) e

words_in : (ms ps ts : List ℤ) (budget : ℕ) (room : List ℤ) → WordsIn room (match ms ps ts budget room)
unfolding match match_of
words_in ms ps ts budget room = words_rule budget room ts (rule_of ms ps)

-- The rooms' word for a pattern's variables and the text's say the same.
same_count : (v : Verdict ℕ) → or_none v ≡ or_zero v
unfolding or_none or_zero
same_count (ok n) = refl
same_count (fault i) = refl

same_variables : (ps : List ℤ) → variables_in ps ≡ variables_of ps
unfolding variables_in variables_of
same_variables ps = same_count (read_pattern ps then λ p. variables p true 0 0)

empty_is : (r : Matched) (new : List ℤ) (values : ℕ) → empty_report values (told r new) ≡ empty_rows values r.rows (take r.words new)
unfolding empty_report told
empty_is r new values = refl

report_is : (r : Matched) (new : List ℤ) (values : ℕ)
    → report values (told r new) ≡ six_line r.answer r.place r.rows r.steps r.words r.cause ++ lines (cut_rows values r.rows (take r.words new))
unfolding report first_line six_line told
report_is r new values = refl

module _ (ms ps ts : List ℤ) (budget : ℕ) (room new : List ℤ) (r : Matched) (q : told r new ≡ match ms ps ts budget room) where
  pub so_many : length new ≡ length room → r.words ≤ length new
  unfolding told WordsIn
  so_many e =
      let a : new ≡ (match ms ps ts budget room).room = ap (λ (m : paper.Matched). m.room) q in
      let b : r.words ≡ (match ms ps ts budget room).words = ap (λ (m : paper.Matched). m.words) q in
      let c = words_in ms ps ts budget room (ap length (sym a) ∙ e) in
      omega arith

  pub counted : length new ≡ length room → r.words ≡ length (take r.words new)
  counted e = sym (length-take-le r.words new (so_many e))

  pub few_words : length new ≡ length room → length room ≤ 4096 → length (take r.words new) ≤ 4096
  few_words e h = let a = so_many e in let b = counted e in omega arith

  pub as_report : (old out : List ℕ) (rest : Rest) (values a b c d e f : ℕ) → a ≡ r.answer → b ≡ r.place → c ≡ r.rows → d ≡ r.steps → e ≡ r.words → f ≡ r.cause
      → values ≡ variables_in ps → Text old out rest (six_line a b c d e f ++ lines (cut_rows values c (take r.words new)))
      → Text old out rest (report (variables_of ps) (match ms ps ts budget room))
  as_report old out rest values a b c d e f ha hb hc hd he hf hv t =
      let v = hv ∙ same_variables ps in
      rw (← q, report_is r new (variables_of ps)) (rw (ha, hb, hc, hd, he, hf, v) at t)

  pub as_empty : (values n : ℕ) → values ≡ variables_in ps → n ≡ empty_rows values r.rows (take r.words new)
      → n ≡ empty_report (variables_of ps) (match ms ps ts budget room)
  as_empty values n hv h =
      let v = hv ∙ same_variables ps in
      rw (← q, empty_is r new (variables_of ps)) (rw v at h)

pub ruleset answered_rules = (so_many, counted, few_words, as_report, as_empty, rules)

-- ---- The whole way.

pub zeros_taken : (n k : ℕ) → n ≤ k → take n (replicate k (pos 0)) ≡ replicate n (pos 0)
zeros_taken zero k h = refl
zeros_taken (suc n) zero h = absurd (omega arith)
zeros_taken (suc n) (suc k) h = ap (λ (l : List ℤ). pos 0 ∷ l) (zeros_taken n k (omega arith))

module _ (input old new : List ℕ) (r : Rest) (h : 98304 ≤ length old) where
  pub not_read : None ≡ asked input → r.lines ≡ 0 → Text old new r unreadable → Answer input old new (Some r)
  unfolding Answer printed answer_to empty_lines empty_to
  not_read e l t = (h, rw (← e) l, rw (← e) t)

  pub was_read : (ms ps ts : List ℤ) (budget room : ℕ) (ws : List ℤ) → Some (record { matcher = ms; pattern = ps; target = ts; limits = record { budget = budget; room = room } }) ≡ asked input
      → ws ≡ replicate room (pos 0) → r.lines ≡ empty_report (variables_of ps) (match ms ps ts budget ws) → Text old new r (report (variables_of ps) (match ms ps ts budget ws))
      → Answer input old new (Some r)
  unfolding Answer printed answer_to empty_lines empty_to matched
  was_read ms ps ts budget room ws e z l t = (h, rw (← e, ← z) l, rw (← e, ← z) t)
