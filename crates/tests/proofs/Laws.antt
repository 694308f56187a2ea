-- The ordered tests as the code asks them: each test that passed has read something, and the first that did not gives the answer. Assumes nothing.
use mathlib.Core.Path.{◌≡◌, refl, sym, ◌∙◌, ap}
use mathlib.Core.Bool.{Bool, true, false, cond}
use mathlib.Core.List.{List, []}
use Prim.Native.Nat.{ℕ, ◌+◌, ◌<◌, ◌≤◌}
use native.Mathlib.Omega.{arith}
use borrow.Author.Tests.{lt-ltb, le-ltb, ltb-false, eqb-true}
use lib.Dec.{eqb, ltb}
use lib.ListN.{length}
use lib.IntN.{ℤ}
use Rattle.std.specs.Prelude.{Result, Ok, Err}
use Rattle.std.specs.Result.{MatchResult, IsErrAnd, result_eq, result_map_both}
use Rattle.rules.specs.Forms.{Matcher, Pattern, Value, size}
use Rattle.rules.specs.Reading.{Verdict, ok, fault, read_matcher, read_pattern, read_target}
use Rattle.rules.specs.Variables.{variables}
use Rattle.rules.specs.Fit.{fits_in, fits_value}
use Rattle.rules.specs.Causes.{cause_of}
use Rattle.rules.specs.Services.{test, rule_of, target_of, cause_in, rule_in}
use Rattle.words.specs.Dialects.{dialect_by}
use Rattle.test_forms.specs.Tests.{tested}
use Rattle.test_target.specs.Targets.{found}
use Rattle.test_target.specs.Targets as faults
use Rattle.test_target.specs.declared.Fault.{Fault}
use Rattle.test_variables.specs.Variables.{counted, vars_of}
use Rattle.test_fit.specs.Fitting.{fit_of}
use Rattle.test_unfit.specs.Unfit.{fit_from}
use Rattle.tests.specs.Judgements.{Numbers, numbers_of, told, judgement, target_judgement, target_under, ends_at, fits_all, Whole}
use Rattle.tests.specs.declared.Refusal.{Refusal}
use Rattle.tests.specs.declared.Refusal.TheVariants as refusals
use Rattle.test_forms.proofs.After.{after}
use Rattle.test_variables.proofs.Walked as walked
use Rattle.test_fit.proofs.Walked as fitted
use Rattle.test_unfit.proofs.Fitted as unfit
use Rattle.test_unfit.proofs.Values.{fit_reads}
use Rattle.test_target.proofs.Looks.{valued_end}
use Rattle.test_target.proofs.Steps.{ret_all}

-- ---- A verdict from what the code found.

passed : {A : Type 0} (x : Verdict A) (u : Unit {0}) → Ok u ≡ tested x → (a : A) × (x ≡ ok a)
unfolding tested
passed (ok a) u e = (a, refl)
passed (fault i) u e = let z : ◌≡◌ {A = ℕ} 0 1 = cc in absurd (omega arith)

failed : {A : Type 0} (x : Verdict A) (i : ℕ) → Err i ≡ tested x → x ≡ fault i
unfolding tested
failed (ok a) i e = let z : ◌≡◌ {A = ℕ} 0 1 = cc in absurd (omega arith)
failed (fault j) i e = let q : j ≡ i = cc in ap fault q

number : (x : Verdict ℕ) (n : ℕ) → Ok n ≡ counted x → x ≡ ok n
unfolding counted
number (ok k) n e = let q : k ≡ n = cc in ap ok q
number (fault j) n e = let z : ◌≡◌ {A = ℕ} 0 1 = cc in absurd (omega arith)

uncounted : (x : Verdict ℕ) (i : ℕ) → Err i ≡ counted x → x ≡ fault i
unfolding counted
uncounted (ok k) i e = let z : ◌≡◌ {A = ℕ} 0 1 = cc in absurd (omega arith)
uncounted (fault j) i e = let q : j ≡ i = cc in ap fault q

ended : {A : Type 0} (x : Verdict A) (e y : ℕ) → Ok y ≡ after Err x (λ _. Ok e) → (a : A) × (x ≡ ok a)
unfolding after
ended (ok a) e y q = (a, refl)
ended (fault i) e y q = let z : ◌≡◌ {A = ℕ} 0 1 = cc in absurd (omega arith)

unended : {A : Type 0} (x : Verdict A) (e i : ℕ) → Err i ≡ after Err x (λ _. Ok e) → x ≡ fault i
unfolding after
unended (ok a) e i q = let z : ◌≡◌ {A = ℕ} 0 1 = cc in absurd (omega arith)
unended (fault j) e i q = let r : j ≡ i = cc in ap fault r

-- What `map_err` gives, where its function makes a refusal by f.
pub is_mapped : {A E : Type 0} (f : E → Refusal) (x : Result A E) (y : Result A Refusal) (P : E → Refusal → Type 0)
    → MatchResult x (λ a. y ≡ Ok a) (λ e. IsErrAnd y (λ r. P e r)) → ((e : E) (r : Refusal) → P e r → r ≡ f e) → y ≡ result_map_both (λ (a : A). a) f x
is_mapped f (Ok a) y P h k = h
is_mapped f (Err e) (Ok a) P h k = elim h [ ]
is_mapped f (Err e) (Err r) P h k = ap Err (k e r h)

pub went_on : {A E : Type 0} (f : E → Refusal) (x : Result A E) (y : Result A Refusal) → y ≡ result_map_both (λ (a : A). a) f x → (a : A) → y ≡ Ok a → x ≡ Ok a
went_on f (Ok b) y h a q = let p : b ≡ a = cc in ap Ok p
went_on f (Err e) y h a q = let z : ◌≡◌ {A = ℕ} 0 1 = cc in absurd (omega arith)

-- A refusal, z, that `?` hands on; and the last test.
pub refused_by : {A E : Type 0} (f : E → Refusal) (x : Result A E) (y : Result A Refusal) → y ≡ result_map_both (λ (a : A). a) f x → (j : Result (Unit {0}) Numbers)
    → ((e : E) → x ≡ Err e → Err (numbers_of (f e)) ≡ j) → (r : Refusal) → y ≡ Err r → (z : Result (Unit {0}) Refusal) → z ≡ Err r → told z ≡ j
refused_by f (Ok a) y h j g r q z w = let n : ◌≡◌ {A = ℕ} 0 1 = cc in absurd (omega arith)
refused_by f (Err e) y h j g r q z w = let p : r ≡ f e = cc in rw (w, p) (g e refl)

pub judged_by : {E : Type 0} (f : E → Refusal) (x : Result (Unit {0}) E) (y : Result (Unit {0}) Refusal) → y ≡ result_map_both (λ (a : Unit {0}). a) f x
    → (j : Result (Unit {0}) Numbers) → ((e : E) → x ≡ Err e → Err (numbers_of (f e)) ≡ j) → ((u : Unit {0}) → x ≡ Ok u → Ok tt ≡ j) → told y ≡ j
judged_by f (Ok u) y h j g o = rw h (o u refl)
judged_by f (Err e) y h j g o = rw h (g e refl)

-- ---- Tests 1 to 4.

module _ (firsts : Bool) (ms ps : List ℤ) (a : Result (Unit {0}) ℕ) (ea : a ≡ tested (read_matcher ms)) where
  pub ret_matcher : (i : ℕ) → a ≡ Err i → Err (numbers_of (refusals.Matcher i)) ≡ judgement (rule_in (dialect_by firsts) ms ps)
  unfolding rule_in test judgement
  ret_matcher i f = rw (failed (read_matcher ms) i (sym f ∙ ea))

  module _ (u : Unit {0}) (fa : a ≡ Ok u) (b : Result (Unit {0}) ℕ) (eb : b ≡ tested (read_pattern ps)) where
    pub ret_pattern : (i : ℕ) → b ≡ Err i → Err (numbers_of (refusals.Pattern i)) ≡ judgement (rule_in (dialect_by firsts) ms ps)
    unfolding rule_in test judgement
    ret_pattern i f = rw ((passed (read_matcher ms) u (sym fa ∙ ea)).1, failed (read_pattern ps) i (sym f ∙ eb))

    module _ (v : Unit {0}) (fb : b ≡ Ok v) (c : Result ℕ ℕ) (ec : c ≡ vars_of ps) where
      m : (k : Matcher) × (read_matcher ms ≡ ok k)
      m = passed (read_matcher ms) u (sym fa ∙ ea)

      p : (k : Pattern) × (read_pattern ps ≡ ok k)
      p = passed (read_pattern ps) v (sym fb ∙ eb)

      pub ret_variable : (i : ℕ) → c ≡ Err i → Err (numbers_of (refusals.Variable i)) ≡ judgement (rule_in (dialect_by firsts) ms ps)
      unfolding rule_in test judgement
      ret_variable i f = rw (m.1, p.1, uncounted (variables p.0 true 0 0) i (sym f ∙ ec ∙ walked.of_pattern ps p.0 p.1))

      module _ (n : ℕ) (fc : c ≡ Ok n) (d : Result (Unit {0}) ℕ) (ed : d ≡ fit_of firsts ms ps) where
        vs : variables p.0 true 0 0 ≡ ok n
        vs = number (variables p.0 true 0 0) n (sym fc ∙ ec ∙ walked.of_pattern ps p.0 p.1)

        pub ret_misfit : (i : ℕ) → d ≡ Err i → Err (numbers_of (refusals.Misfit i)) ≡ judgement (rule_in (dialect_by firsts) ms ps)
        unfolding rule_in test judgement
        ret_misfit i f = rw (m.1, p.1, vs, failed (fits_in (dialect_by firsts) p.0 m.0 0 []) i (sym f ∙ ed ∙ fitted.of_rule_lem firsts ms ps m.0 p.0 m.1 p.1))

        pub ret_rule : (w : Unit {0}) → d ≡ Ok w → Ok tt ≡ judgement (rule_in (dialect_by firsts) ms ps)
        unfolding rule_in test judgement
        ret_rule w f = rw (m.1, p.1, vs, (passed (fits_in (dialect_by firsts) p.0 m.0 0 []) w (sym f ∙ ed ∙ fitted.of_rule_lem firsts ms ps m.0 p.0 m.1 p.1)).1)

-- Dialect 1.
pub in_every : (ms ps : List ℤ) (b : Bool) (r : Result (Unit {0}) Refusal) → told r ≡ judgement (rule_in (dialect_by b) ms ps) → b ≡ false → told r ≡ judgement (rule_of ms ps)
unfolding dialect_by
in_every ms ps b r e h = e ∙ rw h

-- ---- Tests 5 and 6.

found_all : (x : Verdict Value) (n : ℕ) (u : Unit {0}) → Ok u ≡ found x n → (v : Value) × (x ≡ ok v)
unfolding found
found_all (ok v) n u e = (v, refl)
found_all (fault i) n u e = let z : ◌≡◌ {A = ℕ} 0 1 = cc in absurd (omega arith)

found_fault : (x : Verdict Value) (n : ℕ) (f : faults.Numbers) → Err f ≡ found x n → (x ≡ fault f.place) × (f.cause ≡ n)
unfolding found
found_fault (ok v) n f e = let z : ◌≡◌ {A = ℕ} 0 1 = cc in absurd (omega arith)
found_fault (fault j) n f e = let q : f ≡ record { place = j; cause = n } = cc in rw q (refl, refl)

module _ (ms ts : List ℤ) where
  pub all_long : 1024 < length ts → false ≡ fits_all ms ts
  unfolding fits_all
  all_long h = rw (lt-ltb 1024 (length ts) h)

  module _ (h : length ts ≤ 1024) (c : Result ℕ ℕ) (q : c ≡ fit_from ts ms 8 0 0) where
    pub all_equal : result_eq eqb eqb c (Ok (length ts)) ≡ fits_all ms ts
    unfolding fits_all ends_at
    all_equal = rw (le-ltb 1024 (length ts) h, ← q) (go c)
      where
        go : (r : Result ℕ ℕ) → result_eq eqb eqb r (Ok (length ts)) ≡ ends_at (length ts) r
        go (Ok e) = refl
        go (Err i) = refl

-- Words that fit up to the last are a target.
fitted_read : (ms ts : List ℤ) → length ts ≤ 1024 → fit_from ts ms 8 0 0 ≡ Ok (length ts) → Ok tt ≡ found (read_target ts) (cause_of ts)
fitted_read ms ts l q =
    ret_all ts l (Ok (length ts)) (sym (valued_end ts 8 0 (length ts) (fit_reads ts ms 8 0 0 (length ts) q))) (length ts) refl (omega arith)

all_fits : (ms ts : List ℤ) → fits_all ms ts ≡ true → (length ts ≤ 1024) × (fit_from ts ms 8 0 0 ≡ Ok (length ts))
unfolding fits_all ends_at
all_fits ms ts = go (ltb 1024 (length ts)) refl
  where
    at_end : (c : Result ℕ ℕ) → ends_at (length ts) c ≡ true → c ≡ Ok (length ts)
    at_end (Ok e) q = ap Ok (eqb-true e (length ts) q)
    at_end (Err i) q = let z : ◌≡◌ {A = ℕ} 0 1 = cc in absurd (omega arith)

    go : (x : Bool) → ltb 1024 (length ts) ≡ x → cond x false (ends_at (length ts) (fit_from ts ms 8 0 0)) ≡ true → (length ts ≤ 1024) × (fit_from ts ms 8 0 0 ≡ Ok (length ts))
    go true p q = let z : ◌≡◌ {A = ℕ} 0 1 = cc in absurd (omega arith)
    go false p q = (ltb-false 1024 (length ts) p, at_end (fit_from ts ms 8 0 0) q)

module _ (ms ts : List ℤ) (w : Whole ms) (b : Result (Unit {0}) Fault) (eb : faults.told b ≡ found (read_target ts) (cause_of ts)) where
  pub ret_target : (f : Fault) → b ≡ Err f → Err (numbers_of (refusals.Target f)) ≡ target_judgement ts (target_under ms ts)
  unfolding target_under target_of test target_judgement cause_in
  ret_target f q =
      let t = found_fault (read_target ts) (cause_of ts) (faults.numbers_of f) (rw q at eb) in
      rw (w.is, t.0, ← t.1)

  module _ (u : Unit {0}) (fb : b ≡ Ok u) (c : Result ℕ ℕ) (ec : c ≡ fit_from ts ms 8 0 0) where
    t : (v : Value) × (read_target ts ≡ ok v)
    t = found_all (read_target ts) (cause_of ts) u (rw fb at eb)

    pub ret_unfit : (i : ℕ) → c ≡ Err i → Err (numbers_of (refusals.Unfit i)) ≡ target_judgement ts (target_under ms ts)
    unfolding target_under target_of test target_judgement cause_in
    ret_unfit i f = rw (w.is, t.1, unended (fits_value w.matcher t.0 0) (0 + size t.0) i (sym f ∙ ec ∙ unfit.of_target_lem ms ts w.matcher t.0 w.is t.1))

    pub ret_fit : (e : ℕ) → c ≡ Ok e → Ok tt ≡ target_judgement ts (target_under ms ts)
    unfolding target_under target_of test target_judgement
    ret_fit e f = rw (w.is, t.1, (ended (fits_value w.matcher t.0 0) (0 + size t.0) e (sym f ∙ ec ∙ unfit.of_target_lem ms ts w.matcher t.0 w.is t.1)).1)

pub ret_at_once : (ms ts : List ℤ) → Whole ms → (x : Bool) → x ≡ fits_all ms ts → x ≡ true → Ok tt ≡ target_judgement ts (target_under ms ts)
ret_at_once ms ts w x e h =
    let a = all_fits ms ts (sym e ∙ h) in
    ret_fit ms ts w (Ok tt) (fitted_read ms ts a.0 a.1) tt refl (fit_from ts ms 8 0 0) refl (length ts) a.1
