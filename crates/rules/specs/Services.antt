-- Document 01, sections 1 and 3: the two services as functions of their whole input, the answers and their order.
use Rattle.std.specs.Prelude.{ℕ, true, false, cond, List, [], ◌∷◌, ◌++◌, length, drop, leb, ltb, eqb, ℤ, pos, negsuc}
use Rattle.std.proofs.Math.Option.{none, some}
use Rattle.rules.specs.Limits.{cap_limit, too_big}
use Rattle.rules.specs.Forms.{Matcher, Pattern, Value}
use Rattle.rules.specs.Reading.{Verdict, ok, fault, read_matcher, read_pattern, read_target}
use Rattle.rules.specs.Causes.{cause_of}
use Rattle.rules.specs.Variables.{variables}
use Rattle.rules.specs.Fit.{fits_in, fits_value}
use Rattle.rules.specs.Dialects.{Dialect, every_place, dialect_of}
use Rattle.rules.specs.Rows.{Form, as_words, as_origins, form_of}
use Rattle.rules.specs.Search.{Run, run_in, start}
use Rattle.rules.specs.Review.{formula}
use Rattle.rules.specs.Always.{always_true}

-- Accepted, with what was found; or refused, with the answer and the place.
pub data Judged (A : Type 0) : Type 0 where
  accepted : A → Judged A
  refused : (answer place : ℕ) → Judged A

-- One test: a fault is refused with the test's number, and nothing after it is looked at.
unfoldable pub test : {A B : Type 0} → ℕ → Verdict A → (A → Judged B) → Judged B
test number (ok x) next = next x
test number (fault i) next = refused number i

pub record Rule : Type 0 where
  pub matcher : Matcher
  pub pattern : Pattern

-- 1 matcher, 2 pattern, 3 variable, 4 misfit: in that order, each over its whole slice.
unfoldable pub rule_in : Dialect → (ms ps : List ℤ) → Judged Rule
unfolding test read_matcher read_pattern variables fits_in
rule_in dialect ms ps =
    test 1 (read_matcher ms) λ m.
    test 2 (read_pattern ps) λ p.
    test 3 (variables p true 0 0) λ _.
    test 4 (fits_in dialect p m 0 []) λ _.
    accepted (record { matcher = m; pattern = p })

-- Dialect 1.
abbrev pub rule_of : (ms ps : List ℤ) → Judged Rule
rule_of ms ps = rule_in every_place ms ps

-- 5 target, 6 unfit.
unfoldable pub target_of : Matcher → (ts : List ℤ) → Judged Value
unfolding test read_target fits_value
target_of m ts =
    test 5 (read_target ts) λ v.
    test 6 (fits_value m v 0) λ _.
    accepted v

-- ---- Match: six numbers, and what the room holds after.

pub record Matched : Type 0 where
  pub answer : ℕ
  pub place : ℕ
  pub rows : ℕ
  pub steps : ℕ
  pub words : ℕ
  pub cause : ℕ
  pub room : List ℤ

-- "Match passes the cause up as a sixth number, 0 in every other answer" than 5.
unfoldable pub cause_in : (answer : ℕ) → (ts : List ℤ) → ℕ
unfolding cause_of
cause_in a ts = cond (eqb a 5) (cause_of ts) 0

-- "Answers 1 to 6 have 0 rows, 0 steps, 0 words and the result room holds what it held."
unfoldable pub turned_away : (answer place cause : ℕ) → List ℤ → Matched
turned_away a i c room = record { answer = a; place = i; rows = 0; steps = 0; words = 0; cause = c; room = room }

-- "In 0, 7 and 8 the rows counted stand whole from the start of the room, and each word after the words written is untouched."
unfoldable pub carried_out : Run → List ℤ → Matched
carried_out r room = record {
  answer = r.answer;
  place = 0;
  rows = r.rows;
  steps = r.steps;
  words = length r.written;
  cause = 0;
  room = r.written ++ drop (length r.written) room;
}

unfoldable pub match_target_in : Dialect → Form → (budget : ℕ) (room : List ℤ) (ts : List ℤ) → Rule → Judged Value → Matched
unfolding turned_away carried_out cause_in run_in start
match_target_in dialect f budget room ts r (refused a i) = turned_away a i (cause_in a ts) room
match_target_in dialect f budget room ts r (accepted v) =
    carried_out (run_in dialect f budget (start r.matcher r.pattern v ∷ []) (length room)) room

unfoldable pub match_rule_in : Dialect → Form → (budget : ℕ) (room : List ℤ) (ts : List ℤ) → Judged Rule → Matched
unfolding turned_away match_target_in target_of
match_rule_in dialect f budget room ts (refused a i) = turned_away a i 0 room
match_rule_in dialect f budget room ts (accepted r) = match_target_in dialect f budget room ts r (target_of r.matcher ts)

-- A match in one of the dialects, whose rows are in one of the two forms.
unfoldable pub match_of : Dialect → Form → (ms ps ts : List ℤ) (budget : ℕ) (room : List ℤ) → Matched
unfolding match_rule_in rule_in
match_of dialect f ms ps ts budget room = match_rule_in dialect f budget room ts (rule_in dialect ms ps)

-- "20, unknown row form, before 1"; "22, unknown dialect, before 1 and after 20": with 0 in every further number, and the room as it was.
unfoldable pub match_picked : (form dialect : ℕ) (ms ps ts : List ℤ) (budget : ℕ) (room : List ℤ) → Matched
unfolding form_of dialect_of turned_away match_of
match_picked form dialect ms ps ts budget room = elim (form_of form) [
  | none ↦ turned_away 20 0 0 room
  | some f ↦ elim (dialect_of dialect) [ none ↦ turned_away 22 0 0 room | some d ↦ match_of d f ms ps ts budget room ]
]

-- Dialect 1.
abbrev pub match_target : Form → (budget : ℕ) (room : List ℤ) (ts : List ℤ) → Rule → Judged Value → Matched
match_target f budget room ts r x = match_target_in every_place f budget room ts r x

abbrev pub match_rule : Form → (budget : ℕ) (room : List ℤ) (ts : List ℤ) → Judged Rule → Matched
match_rule f budget room ts x = match_rule_in every_place f budget room ts x

abbrev pub match_in : Form → (ms ps ts : List ℤ) (budget : ℕ) (room : List ℤ) → Matched
match_in f ms ps ts budget room = match_of every_place f ms ps ts budget room

-- Rows in form 1, as document 01 has them.
unfoldable pub match : (ms ps ts : List ℤ) (budget : ℕ) (room : List ℤ) → Matched
unfolding match_of
match ms ps ts budget room = match_in as_words ms ps ts budget room

-- "20, unknown row form, before 1": with 0 in every further number, and the room as it was.
unfoldable pub match_with : (form : ℕ) (ms ps ts : List ℤ) (budget : ℕ) (room : List ℤ) → Matched
unfolding form_of turned_away match_of
match_with n ms ps ts budget room = elim (form_of n) [ none ↦ turned_away 20 0 0 room | some f ↦ match_in f ms ps ts budget room ]

-- ---- Review: three numbers.

pub record Reviewed : Type 0 where
  pub answer : ℕ
  pub place : ℕ
  pub count : ℕ

unfoldable pub declined : (answer place : ℕ) → Reviewed
declined a i = record { answer = a; place = i; count = 0 }

-- 10 too big: the formula passes 4,294,967,295.
unfoldable pub counted : ℕ → Reviewed
unfolding declined
counted n = elim (ltb n too_big) [ true ↦ record { answer = 0; place = 0; count = n } | false ↦ declined 10 0 ]

-- 9 cap: outside 0 to 64.
unfoldable pub capped : ℤ → Rule → Reviewed
unfolding declined counted formula
capped (pos cap) r = elim (leb cap cap_limit) [ true ↦ counted (formula cap r.pattern r.matcher) | false ↦ declined 9 0 ]
capped (negsuc n) r = declined 9 0

-- 11 always true: "in review only, after 4 and before 9, place 0".
unfoldable pub unless_always_true : ℤ → Rule → Reviewed
unfolding declined capped always_true
unless_always_true cap r = elim (always_true r.pattern) [ true ↦ declined 11 0 | false ↦ capped cap r ]

unfoldable pub review_rule : ℤ → Judged Rule → Reviewed
unfolding declined unless_always_true
review_rule cap (refused a i) = declined a i
review_rule cap (accepted r) = unless_always_true cap r

unfoldable pub review : (ms ps : List ℤ) (cap : ℤ) → Reviewed
unfolding review_rule rule_in
review ms ps cap = review_rule cap (rule_of ms ps)

-- Review is told the dialect; its figure is the same in either.
unfoldable pub review_of : Dialect → (ms ps : List ℤ) (cap : ℤ) → Reviewed
unfolding review_rule rule_in
review_of dialect ms ps cap = review_rule cap (rule_in dialect ms ps)

unfoldable pub review_picked : (dialect : ℕ) (ms ps : List ℤ) (cap : ℤ) → Reviewed
unfolding dialect_of declined review_of
review_picked dialect ms ps cap = elim (dialect_of dialect) [ none ↦ declined 22 0 | some d ↦ review_of d ms ps cap ]
