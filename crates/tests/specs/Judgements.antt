-- What the code's answers stand for, in document 01's numbers.
use Rattle.std.specs.Prelude.{ℕ, ◌≡◌, Bool, false, cond, List, eqb, ltb, length, ℤ}
use Rattle.std.specs.Prelude.{Result, Ok, Err}
use Rattle.rules.specs.Forms.{Matcher, Value}
use Rattle.rules.specs.Reading.{ok, read_matcher}
use Rattle.rules.specs.Services.{Judged, accepted, refused, test, target_of, cause_in}
use Rattle.test_target.specs.Targets.{number_of}
use Rattle.test_unfit.specs.Unfit.{fit_from}
use Rattle.tests.specs.declared.Refusal.{Refusal}
use Rattle.tests.specs.declared.Refusal.TheVariants.{Matcher as Not_matcher, Pattern, Variable, Misfit, Target, Unfit}

-- The answer, the place, and the cause: 0 in every answer but 5.
pub record Numbers : Type 0 where
  pub answer : ℕ
  pub place : ℕ
  pub cause : ℕ

abbrev pub numbers_of : Refusal → Numbers
numbers_of (Not_matcher i) = record { answer = 1; place = i; cause = 0 }
numbers_of (Pattern i) = record { answer = 2; place = i; cause = 0 }
numbers_of (Variable i) = record { answer = 3; place = i; cause = 0 }
numbers_of (Misfit i) = record { answer = 4; place = i; cause = 0 }
numbers_of (Target f) = record { answer = 5; place = f.place; cause = number_of f.cause }
numbers_of (Unfit i) = record { answer = 6; place = i; cause = 0 }

-- The code's answer in these numbers.
abbrev pub told : Result (Unit {0}) Refusal → Result (Unit {0}) Numbers
told (Ok u) = Ok u
told (Err r) = Err (numbers_of r)

-- What the rules judge, in these numbers: no rule has a cause.
unfoldable pub judgement : {A : Type 0} → Judged A → Result (Unit {0}) Numbers
judgement (accepted a) = Ok tt
judgement (refused answer place) = Err (record { answer = answer; place = place; cause = 0 })

-- The same with the cause that the target's words ts have in that answer.
unfoldable pub target_judgement : {A : Type 0} → (ts : List ℤ) → Judged A → Result (Unit {0}) Numbers
unfolding cause_in
target_judgement ts (accepted a) = Ok tt
target_judgement ts (refused answer place) = Err (record { answer = answer; place = place; cause = cause_in answer ts })

-- Tests 5 and 6 under the matcher that the words ms are; test 1 where they are none.
unfoldable pub target_under : (ms ts : List ℤ) → Judged Value
unfolding test read_matcher target_of
target_under ms ts = test 1 (read_matcher ms) λ m. target_of m ts

-- Whether the target's words ts are not too many and end under the matcher's words ms.
unfoldable pub ends_at : ℕ → Result ℕ ℕ → Bool
ends_at n (Ok e) = eqb e n
ends_at n (Err i) = false

unfoldable pub fits_all : (ms ts : List ℤ) → Bool
unfolding fit_from ends_at
fits_all ms ts = cond (ltb 1024 (length ts)) false (ends_at (length ts) (fit_from ts ms 8 0 0))

-- Words that test 1 has passed.
pub record Whole (ms : List ℤ) : Type 0 where
  pub matcher : Matcher
  pub is : read_matcher ms ≡ ok matcher
