-- Test 5 from a place on, and its cause.
use Rattle.std.specs.Prelude.{ℕ, zero, suc, ◌+◌, Bool, false, cond, List, length, drop, eqb, leb, ltb, ℤ, Result, Ok, Err}
use Rattle.rules.specs.Forms.{Value}
use Rattle.rules.specs.Reading.{Verdict, ok, fault, Got, target}
use Rattle.rules.specs.Causes.{bad_count, cut_short, left_over, bad_width, cause_number, Look, value}
use Rattle.rules.specs.Causes.{told as looked}
use Rattle.words.specs.Words.{tag_at}
use Rattle.test_forms.specs.Ends.{end_of, within}
use Rattle.test_target.specs.declared.Cause.{Cause}
use Rattle.test_target.specs.declared.Cause.TheVariants.{OverLength, UnknownTag, BadCount, TooDeep, CutShort, LeftOver, BadWidth}
use Rattle.test_target.specs.declared.Fault.{Fault}

abbrev pub number_of : Cause → ℕ
number_of OverLength = 1
number_of UnknownTag = 2
number_of BadCount = 3
number_of TooDeep = 4
number_of CutShort = 5
number_of LeftOver = 6
number_of BadWidth = 7

-- A fault in numbers.
pub record Numbers : Type 0 where
  pub place : ℕ
  pub cause : ℕ

abbrev pub numbers_of : Fault → Numbers
numbers_of f = record { place = f.place; cause = number_of f.cause }

-- The code's answer in numbers.
abbrev pub told : {A : Type 0} → Result A Fault → Result A Numbers
told (Ok a) = Ok a
told (Err f) = Err (numbers_of f)

-- What test 5 finds: a verdict of the rules, with the cause.
unfoldable pub found : Verdict Value → ℕ → Result (Unit {0}) Numbers
found (ok v) c = Ok tt
found (fault i) c = Err (record { place = i; cause = c })

-- How many elements a collection may have, and parts a tuple; and the causes where it has not so many.
unfoldable pub count_fits : ℕ → ℕ → Bool
unfolding within
count_fits t n = cond (eqb t 1) (leb n 64) (within 2 n 4)

unfoldable pub count_cause : ℕ → ℕ
unfolding cause_number
count_cause t = cond (eqb t 1) (cause_number bad_count) (cause_number bad_width)

-- The cause at an index: where no word is, the words are cut short.
unfoldable pub cause_at : List ℤ → (at wrong : ℕ) → ℕ
unfolding cause_number
cause_at s at wrong = cond (ltb at (length s)) wrong (cause_number cut_short)

unfoldable pub fault_at : List ℤ → (at wrong : ℕ) → Numbers
unfolding cause_at
fault_at s at wrong = record { place = at; cause = cause_at s at wrong }

-- Whether an integer stands whole at an index.
unfoldable pub plain_at : List ℤ → ℕ → Bool
unfolding tag_at
plain_at s at = cond (eqb (tag_at s at) 0) (ltb (at + 1) (length s)) false

-- Of how many values from an index on f holds, one after the other, each of so many words; at most n.
unfoldable pub run_of : (ℕ → Bool) → (each n at : ℕ) → ℕ
run_of f each zero at = 0
run_of f each (suc n) at = cond (f at) (suc (run_of f each n (at + each))) 0

-- How many integers stand whole from an index on, at most n.
unfoldable pub plain_run : List ℤ → (n at : ℕ) → ℕ
unfolding run_of plain_at
plain_run s n at = run_of (plain_at s) 2 n at

-- The value at an index, in which `depth` collections or tuples may stand one inside the other.
unfoldable pub value_from : List ℤ → (depth at : ℕ) → Result ℕ ℕ
unfolding end_of target
value_from s depth at = end_of (target depth at (drop at s))

-- Where it ends, with the cause beside the place of a fault.
unfoldable pub valued : Verdict (Got Value) → Look → Result ℕ Numbers
unfolding looked
valued (ok g) l = Ok g.next
valued (fault i) l = Err (record { place = i; cause = looked l })

unfoldable pub valued_from : List ℤ → (depth at : ℕ) → Result ℕ Numbers
unfolding valued target value
valued_from s depth at = valued (target depth at (drop at s)) (value depth (drop at s))

-- n values, one after the other.
unfoldable pub further : Result ℕ Numbers → (ℕ → Result ℕ Numbers) → Result ℕ Numbers
further (Ok e) k = k e
further (Err f) k = Err f

unfoldable pub in_line : (ℕ → Result ℕ Numbers) → (n at : ℕ) → Result ℕ Numbers
unfolding further
in_line f zero at = Ok at
in_line f (suc n) at = further (f at) (in_line f n)

-- The end of a value that is to be the whole slice.
unfoldable pub whole_value : List ℤ → Result ℕ Numbers → Result (Unit {0}) Numbers
unfolding cause_number
whole_value s (Ok e) = cond (ltb e (length s)) (Err (record { place = e; cause = cause_number left_over })) (Ok tt)
whole_value s (Err f) = Err f
