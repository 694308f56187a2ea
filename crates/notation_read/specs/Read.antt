-- What the code of the reader computes, token by token.
use Rattle.std.specs.Prelude.{ℕ, zero, suc, ◌+◌, Bool, true, false, cond, List, [], ◌∷◌, length, get_or, set, replicate, eqb, ltb, ℤ, pos, Option, None, Some, Result, Ok, Err}
use Rattle.std.proofs.Math.Seq.{slice}
use Rattle.notation_rules.specs.Letters.{same_word}
use Rattle.notation_rules.specs.Places.{line, column}
use Rattle.notation_scan.specs.Scanned.{scanned}
use Rattle.notation_scan.specs.declared.Token.{Token}
use Rattle.notation_step.specs.Stepped.{nothing, first, View, view, stepped, end_of}
use Rattle.notation_step.specs.declared.Stand.{Stand}
use Rattle.notation_read.specs.declared.Span.{Span}
use Rattle.notation_read.specs.declared.Names.{Names}
use Rattle.notation_read.specs.declared.Named.{Named}
use Rattle.notation_read.specs.declared.Parts.{Parts}
use Rattle.notation_read.specs.declared.Fault.{Fault}
use Rattle.notation_read.specs.declared.Cause.{Cause}
use Rattle.notation_read.specs.declared.Cause.TheVariants.{UnknownSign, Misplaced, CutShort, BracketOpen, UnknownName, BoundTwice, UsedBefore, OutOfRange, OverLimit}
use Rattle.notation_read.specs.declared.Refusal.{Refusal}
use Rattle.notation_read.specs.declared.Refusal.TheVariants.{TooLong, Unreadable}

-- ---- Names: where each stands, and how many there are.
abbrev pub nowhere : Span
nowhere = record { from = 0; to = 0 }

unfoldable pub no_names : Names
no_names = record { spans = replicate 16 nowhere; count = 0 }

unfoldable pub span_of : List Span → (k : ℕ) → Span
span_of spans k = cond (ltb k 16) (get_or spans k nowhere) nowhere

unfoldable pub name_of : List ℕ → List Span → (k : ℕ) → List ℕ
unfolding span_of
name_of text spans k = slice (span_of spans k).from (span_of spans k).to text

-- The variable of a name among so many.
unfoldable pub found : List ℕ → List Span → (count : ℕ) → List ℕ → Option ℕ
unfolding name_of same_word
found text spans zero w = None
found text spans (suc k) w = cond (same_word (name_of text spans k) w) (Some k) (found text spans k w)

unfoldable pub bound_by : List ℕ → List ℕ → Token → Bool
unfolding same_word
bound_by text w t = cond (eqb t.kind 21) (same_word (slice t.name t.to text) w) false

unfoldable pub bound_later : List ℕ → List ℕ → (left at : ℕ) → Bool
unfolding bound_by scanned
bound_later text w zero at = false
bound_later text w (suc left) at = cond (eqb (scanned text at).kind 24) false (cond (bound_by text w (scanned text at)) true (bound_later text w left (scanned text at).to))

abbrev pub plain : (kind value : ℕ) → Named
plain k v = record { kind = k; value = v }

-- `$` and a name, by the variable that has it.
unfoldable pub binding_by : (count : ℕ) → Option ℕ → Named
binding_by count (Some k) = plain 30 0
binding_by count None = cond (ltb count 16) (plain 21 count) (plain 33 0)

unfoldable pub binding_of : List ℕ → Token → Names → Named
unfolding found binding_by
binding_of text t ns = binding_by ns.count (found text ns.spans ns.count (slice t.name t.to text))

-- A name by itself, by the variable that has it, and whether one has it later.
unfoldable pub using_by : (later : Bool) → Option ℕ → Named
using_by later (Some k) = plain 22 k
using_by later None = cond later (plain 31 0) (plain 29 0)

unfoldable pub using_of : List ℕ → Token → Names → Named
unfolding found bound_later using_by
using_of text t ns = using_by (bound_later text (slice t.from t.to text) (length text) t.to) (found text ns.spans ns.count (slice t.from t.to text))

unfoldable pub resolved : List ℕ → Token → Names → Named
unfolding binding_of using_of
resolved text t ns = cond (eqb t.kind 21) (binding_of text t ns) (cond (eqb t.kind 22) (using_of text t ns) (plain t.kind t.value))

unfoldable pub adding : Names → (kind : ℕ) → Token → Names
adding ns kind t = cond (eqb kind 21) (cond (ltb ns.count 16) (record { spans = set ns.spans ns.count (record { from = t.name; to = t.to }); count = ns.count + 1 }) ns) ns

-- ---- Token by token.
-- A cause's number in the tables.
unfoldable pub number_of : Cause → ℕ
number_of UnknownSign = 1
number_of Misplaced = 2
number_of CutShort = 3
number_of BracketOpen = 4
number_of UnknownName = 5
number_of BoundTwice = 6
number_of UsedBefore = 7
number_of OutOfRange = 8
number_of OverLimit = 9

-- The cause of a number.
unfoldable pub numbered : ℕ → Cause
numbered n = cond (eqb n 1) UnknownSign (cond (eqb n 2) Misplaced (cond (eqb n 3) CutShort (cond (eqb n 4) BracketOpen (cond (eqb n 5) UnknownName (cond (eqb n 6) BoundTwice (cond (eqb n 7) UsedBefore (cond (eqb n 8) OutOfRange OverLimit)))))))

unfoldable pub ran_to : Stand → (cause at : ℕ) → Result Parts Fault
unfolding numbered
ran_to s cause at = cond (eqb cause 0) (Ok (record { matcher = s.matcher; pattern = s.pattern; end = s.len })) (Err (record { cause = numbered cause; at = at }))

pub record Stopped : Type 0 where
  pub ran : Result Parts Fault
  pub words : List ℤ

unfoldable pub stopped : Result Parts Fault → List ℤ → Stopped
stopped r ws = record { ran = r; words = ws }

-- The text ends here.
unfoldable pub ended : List ℕ → View → Stopped
unfolding stopped ran_to end_of
ended text v = stopped (ran_to v.stand (end_of v.stack v.stand) (length text)) v.words

-- A token is refused, or the next one is read.
unfoldable pub going : (Names → View → Stopped) → Token → Names → View → Stopped
unfolding stopped numbered
going k t ns v = cond (eqb v.stand.cause 0) (k ns v) (stopped (Err (record { cause = numbered v.stand.cause; at = t.from })) v.words)

unfoldable pub taken : List ℕ → Token → Names → View → View
unfolding resolved stepped
taken text t ns v = stepped v.stack v.words v.stand (resolved text t ns).kind (resolved text t ns).value

unfoldable pub added : List ℕ → Token → Names → Names
unfolding resolved adding
added text t ns = adding ns (resolved text t ns).kind t

unfoldable pub ran_from : List ℕ → (left at : ℕ) → Names → View → Stopped
unfolding ended going taken added scanned
ran_from text zero at ns v = ended text v
ran_from text (suc left) at ns v = cond (eqb (scanned text at).kind 24) (ended text v)
    (going (ran_from text left (scanned text at).to) (scanned text at) (added text (scanned text at) ns) (taken text (scanned text at) ns v))

unfoldable pub ran : List ℕ → List ℤ → Stopped
unfolding ran_from no_names view first
ran text words = ran_from text (length text) 0 no_names (view first (replicate 16384 nothing) words)

-- ---- A rule, or a refusal.
pub record Answered : Type 0 where
  pub told : Result Parts Refusal
  pub words : List ℤ

unfoldable pub told : Result Parts Refusal → List ℤ → Answered
told r ws = record { told = r; words = ws }

unfoldable pub unreadable : List ℕ → Fault → Refusal
unfolding line column
unreadable text f = Unreadable f.cause (line text f.at) (column text f.at)

-- The first run shows whether the text is a rule; the second writes its words.
unfoldable pub judged : List ℕ → List ℤ → Result Parts Fault → Stopped → Answered
unfolding told unreadable
judged text words (Ok p) s = told (Ok p) s.words
judged text words (Err f) s = told (Err (unreadable text f)) words

unfoldable pub reading : List ℕ → List ℤ → Answered
unfolding told judged ran
reading text words = cond (ltb 16384 (length text)) (told (Err TooLong) words) (judged text words (ran text (pos 0 ∷ [])).ran (ran text words))
