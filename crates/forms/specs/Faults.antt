-- For every input exactly one of: a refusal, by the first fault in the fixed order, or a run. In a refusal the room is as it was, and in all but answer 5
-- no cause is told.
use Rattle.std.specs.Prelude.{ℕ, zero, suc, ◌-◌, ◌≤◌, ◌≡◌, refl, ◌↔◌, Bool, true, false, List, [], ◌∷◌, ◌++◌, length, leb, ℤ}
use Rattle.std.proofs.Common.{arith, ◌∙◌, subst}
use Rattle.std.proofs.Math.Path.{sym, ap, subst₂}
use Rattle.rules.specs.Forms.{Matcher, Pattern, Value}
use Rattle.rules.specs.Reading.{Verdict, ok, fault, read_matcher, read_pattern, read_target}
use Rattle.rules.specs.Variables.{variables}
use Rattle.rules.specs.Fit.{fits, fits_value}
use Rattle.rules.specs.Search.{atom, end_of_not, State, state, after, leave_not, start, Run, stopped, row_step, run, run_in}
use Rattle.rules.specs.Rows.{Form, as_words, row}
use Rattle.rules.specs.Services.{Judged, accepted, refused, test, Rule, rule_in, rule_of, target_of, Matched, cause_in, turned_away, carried_out, match_target, match_rule, match_of, match_in}

-- ---- The tests, in their order: what each answer means.

-- Answers 1 to 4, with their places.
pub data RuleFault (ms ps : List ℤ) : (answer place : ℕ) → Type 0 where
  not_matcher : {i : ℕ} → read_matcher ms ≡ fault i → RuleFault ms ps 1 i
  not_pattern : {m : Matcher} {i : ℕ} → read_matcher ms ≡ ok m → read_pattern ps ≡ fault i → RuleFault ms ps 2 i
  misnumbered : {m : Matcher} {p : Pattern} {i : ℕ} → read_matcher ms ≡ ok m → read_pattern ps ≡ ok p → variables p true 0 0 ≡ fault i → RuleFault ms ps 3 i
  misfit : {m : Matcher} {p : Pattern} {n i : ℕ} → read_matcher ms ≡ ok m → read_pattern ps ≡ ok p → variables p true 0 0 ≡ ok n → fits p m 0 [] ≡ fault i
      → RuleFault ms ps 4 i

-- None of them.
pub record WellFormed (ms ps : List ℤ) (r : Rule) : Type 0 where
  pub matcher : read_matcher ms ≡ ok r.matcher
  pub pattern : read_pattern ps ≡ ok r.pattern
  pub numbered : (n : ℕ) × (variables r.pattern true 0 0 ≡ ok n)
  pub fitting : (ks : List Matcher) × (fits r.pattern r.matcher 0 [] ≡ ok ks)

-- Answers 5 and 6 to a target under m.
pub data TargetFault (m : Matcher) (ts : List ℤ) : (answer place : ℕ) → Type 0 where
  not_target : {i : ℕ} → read_target ts ≡ fault i → TargetFault m ts 5 i
  unfit : {v : Value} {i : ℕ} → read_target ts ≡ ok v → fits_value m v 0 ≡ fault i → TargetFault m ts 6 i

pub record Fitting (m : Matcher) (ts : List ℤ) (v : Value) : Type 0 where
  pub target : read_target ts ≡ ok v
  pub fit : fits_value m v 0 ≡ ok tt

-- ---- The tests find it.

test_cases : {A B : Type 0} (C : Judged B → Type 0) (number : ℕ) (x : Verdict A) (next : A → Judged B)
    → ((i : ℕ) → x ≡ fault i → C (refused number i)) → ((a : A) → x ≡ ok a → C (next a)) → C (test number x next)
unfolding test
test_cases C number (ok a) next f g = g a refl
test_cases C number (fault i) next f g = f i refl

unfoldable RuleIs : (ms ps : List ℤ) → Judged Rule → Type 0
RuleIs ms ps (accepted r) = WellFormed ms ps r
RuleIs ms ps (refused a i) = RuleFault ms ps a i

rule_is : (ms ps : List ℤ) → RuleIs ms ps (rule_of ms ps)
unfolding RuleIs rule_in
rule_is ms ps =
    test_cases (RuleIs ms ps) 1 (read_matcher ms) _ (λ i e. not_matcher e) λ m a.
    test_cases (RuleIs ms ps) 2 (read_pattern ps) _ (λ i e. not_pattern a e) λ p b.
    test_cases (RuleIs ms ps) 3 (variables p true 0 0) _ (λ i e. misnumbered a b e) λ n c.
    test_cases (RuleIs ms ps) 4 (fits p m 0 []) _ (λ i e. misfit a b c e) λ ks d.
    record { matcher = a; pattern = b; numbered = (n, c); fitting = (ks, d) }

unfoldable TargetIs : (m : Matcher) (ts : List ℤ) → Judged Value → Type 0
TargetIs m ts (accepted v) = Fitting m ts v
TargetIs m ts (refused a i) = TargetFault m ts a i

target_is : (m : Matcher) (ts : List ℤ) → TargetIs m ts (target_of m ts)
unfolding TargetIs target_of
target_is m ts =
    test_cases (TargetIs m ts) 5 (read_target ts) _ (λ i e. not_target e) λ v a.
    test_cases (TargetIs m ts) 6 (fits_value m v 0) _ (λ i e. unfit a e) λ _ b.
    record { target = a; fit = b }

rule_fault : (ms ps : List ℤ) (a i : ℕ) → RuleFault ms ps a i → rule_of ms ps ≡ refused a i
unfolding rule_in
rule_fault ms ps a i (not_matcher e) = rw e
rule_fault ms ps a i (not_pattern x e) = rw (x, e)
rule_fault ms ps a i (misnumbered x y e) = rw (x, y, e)
rule_fault ms ps a i (misfit x y z e) = rw (x, y, z, e)

pub rule_accepted : (ms ps : List ℤ) (r : Rule) → rule_of ms ps ≡ accepted r ↔ WellFormed ms ps r
unfolding RuleIs rule_in
rule_accepted ms ps r = ((λ e. subst (RuleIs ms ps) e (rule_is ms ps)), λ w. rw (w.matcher, w.pattern, w.numbered.1, w.fitting.1))

pub rule_refused : (ms ps : List ℤ) (a i : ℕ) → rule_of ms ps ≡ refused a i ↔ RuleFault ms ps a i
unfolding RuleIs
rule_refused ms ps a i = ((λ e. subst (RuleIs ms ps) e (rule_is ms ps)), rule_fault ms ps a i)

target_fault : (m : Matcher) (ts : List ℤ) (a i : ℕ) → TargetFault m ts a i → target_of m ts ≡ refused a i
unfolding target_of
target_fault m ts a i (not_target e) = rw e
target_fault m ts a i (unfit x e) = rw (x, e)

pub target_accepted : (m : Matcher) (ts : List ℤ) (v : Value) → target_of m ts ≡ accepted v ↔ Fitting m ts v
unfolding TargetIs target_of
target_accepted m ts v = ((λ e. subst (TargetIs m ts) e (target_is m ts)), λ f. rw (f.target, f.fit))

pub target_refused : (m : Matcher) (ts : List ℤ) (a i : ℕ) → target_of m ts ≡ refused a i ↔ TargetFault m ts a i
unfolding TargetIs
target_refused m ts a i = ((λ e. subst (TargetIs m ts) e (target_is m ts)), target_fault m ts a i)

-- ---- Match.

-- The first fault of a whole input.
pub data Fault (ms ps ts : List ℤ) (answer place : ℕ) : Type 0 where
  of_rule : RuleFault ms ps answer place → Fault ms ps ts answer place
  of_target : (r : Rule) → WellFormed ms ps r → TargetFault r.matcher ts answer place → Fault ms ps ts answer place

-- No fault: what is read.
pub record Sane (ms ps ts : List ℤ) (r : Rule) (v : Value) : Type 0 where
  pub rule : WellFormed ms ps r
  pub target : Fitting r.matcher ts v

pub sane_exactly : (ms ps ts : List ℤ) (r : Rule) (v : Value) → (rule_of ms ps ≡ accepted r) × (target_of r.matcher ts ≡ accepted v) ↔ Sane ms ps ts r v
sane_exactly ms ps ts r v = (
  λ h. record { rule = (rule_accepted ms ps r).0 h.0; target = (target_accepted r.matcher ts v).0 h.1 },
  λ s. ((rule_accepted ms ps r).1 s.rule, (target_accepted r.matcher ts v).1 s.target),
)

-- What match gives, by the first fault or by the run.
pub data Judgement (form : Form) (ms ps ts : List ℤ) (budget : ℕ) (room : List ℤ) (x : Matched) : Type 0 where
  turned : (a i : ℕ) → Fault ms ps ts a i → x ≡ turned_away a i (cause_in a ts) room → Judgement form ms ps ts budget room x
  ran : (r : Rule) (v : Value) → Sane ms ps ts r v → x ≡ carried_out (run form budget (start r.matcher r.pattern v ∷ []) (length room)) room
      → Judgement form ms ps ts budget room x

rule_causeless : {ms ps : List ℤ} {a i : ℕ} (ts : List ℤ) → RuleFault ms ps a i → 0 ≡ cause_in a ts
unfolding cause_in
rule_causeless ts (not_matcher e) = refl
rule_causeless ts (not_pattern x e) = refl
rule_causeless ts (misnumbered x y e) = refl
rule_causeless ts (misfit x y z e) = refl

module _ (form : Form) (ms ps ts : List ℤ) (budget : ℕ) (room : List ℤ) where
  pub match_turned : (a i : ℕ) → Fault ms ps ts a i → match_in form ms ps ts budget room ≡ turned_away a i (cause_in a ts) room
  unfolding match_of
  match_turned a i (of_rule f) = ap (match_rule form budget room ts) (rule_fault ms ps a i f) ∙ ap (λ c. turned_away a i c room) (rule_causeless ts f)
  match_turned a i (of_target r w f) =
      ap (match_rule form budget room ts) ((rule_accepted ms ps r).1 w) ∙ ap (match_target form budget room ts r) (target_fault r.matcher ts a i f)

  pub match_ran : (r : Rule) (v : Value) → Sane ms ps ts r v
      → match_in form ms ps ts budget room ≡ carried_out (run form budget (start r.matcher r.pattern v ∷ []) (length room)) room
  unfolding match_of
  match_ran r v s =
      ap (match_rule form budget room ts) ((rule_accepted ms ps r).1 s.rule) ∙ ap (match_target form budget room ts r) ((target_accepted r.matcher ts v).1 s.target)

  judge_target : (r : Rule) → WellFormed ms ps r → (y : Judged Value) → TargetIs r.matcher ts y
      → Judgement form ms ps ts budget room (match_in form ms ps ts budget room)
  unfolding TargetIs
  judge_target r w (accepted v) f = let s : Sane ms ps ts r v = record { rule = w; target = f } in ran r v s (match_ran r v s)
  judge_target r w (refused a i) f = turned a i (of_target r w f) (match_turned a i (of_target r w f))

  judge_rule : (x : Judged Rule) → RuleIs ms ps x → Judgement form ms ps ts budget room (match_in form ms ps ts budget room)
  unfolding RuleIs
  judge_rule (accepted r) w = judge_target r w (target_of r.matcher ts) (target_is r.matcher ts)
  judge_rule (refused a i) f = turned a i (of_rule f) (match_turned a i (of_rule f))

  -- One of the two.
  pub match_judged : Judgement form ms ps ts budget room (match_in form ms ps ts budget room)
  match_judged = judge_rule (rule_of ms ps) (rule_is ms ps)

-- ---- And not both: a fault has an answer from 1 to 6, a run has not.

pub rule_range : {ms ps : List ℤ} {a i : ℕ} → RuleFault ms ps a i → (1 ≤ a) × (a ≤ 4)
rule_range (not_matcher e) = omega arith
rule_range (not_pattern x e) = omega arith
rule_range (misnumbered x y e) = omega arith
rule_range (misfit x y z e) = omega arith

target_range : {m : Matcher} {ts : List ℤ} {a i : ℕ} → TargetFault m ts a i → (1 ≤ a) × (a ≤ 6)
target_range (not_target e) = omega arith
target_range (unfit x e) = omega arith

fault_range : {ms ps ts : List ℤ} {a i : ℕ} → Fault ms ps ts a i → (1 ≤ a) × (a ≤ 6)
fault_range (of_rule f) = let h = rule_range f in omega arith
fault_range (of_target r w f) = target_range f

-- A run that goes on answers as what follows; one that ends answers 0, 7 or 8.
row_answer : (t : Bool) (ws : List ℤ) (r : Run) → (1 ≤ r.answer → r.answer ≤ 6 → ⊥)
    → 1 ≤ (elim t as (λ _. Run) [ true ↦ row_step ws r | false ↦ stopped 8 1 ]).answer
    → (elim t as (λ _. Run) [ true ↦ row_step ws r | false ↦ stopped 8 1 ]).answer ≤ 6 → ⊥
unfolding row_step stopped
row_answer true ws r h a b = h a b
row_answer false ws r h a b = omega (arith, b)

run_answer : (form : Form) (n free : ℕ) (ss : List State) → 1 ≤ (run form n ss free).answer → (run form n ss free).answer ≤ 6 → ⊥
unfolding run_in
run_answer form zero free [] a b = omega (arith, a)
run_answer form zero free (s ∷ ss) a b = omega (arith, b)
run_answer form (suc n) free [] a b = omega (arith, a)
run_answer form (suc n) free (state g [] e ∷ ss) a b = row_answer (leb (length (row form e)) free) (row form e) _ (run_answer form n (free - length (row form e)) ss) a b
run_answer form (suc n) free (state g (end_of_not ∷ older) e ∷ ss) a b = run_answer form n free (leave_not ss) a b
run_answer form (suc n) free (state g (atom p m v ∷ older) e ∷ ss) a b = run_answer form n free (after p m v older e ++ ss) a b

module _ (form : Form) (ms ps ts : List ℤ) (budget : ℕ) (room : List ℤ) where
  -- An answer from 1 to 6 is given exactly when that is the first fault, and with its place.
  pub refused_exactly : (a i : ℕ)
      → Fault ms ps ts a i ↔ (1 ≤ a) × (a ≤ 6) × ((match_in form ms ps ts budget room).answer ≡ a) × ((match_in form ms ps ts budget room).place ≡ i)
  unfolding turned_away carried_out
  refused_exactly a i = (
    λ f. let q = match_turned form ms ps ts budget room a i f in
        ((fault_range f).0, (fault_range f).1, ap (λ (x : Matched). x.answer) q, ap (λ (x : Matched). x.place) q),
    λ h. go h (match_judged form ms ps ts budget room),
  )
    where
      go : (1 ≤ a) × (a ≤ 6) × ((match_in form ms ps ts budget room).answer ≡ a) × ((match_in form ms ps ts budget room).place ≡ i)
          → Judgement form ms ps ts budget room (match_in form ms ps ts budget room) → Fault ms ps ts a i
      go h (turned b j f q) = subst₂ (Fault ms ps ts) (sym (ap (λ (x : Matched). x.answer) q) ∙ h.2) (sym (ap (λ (x : Matched). x.place) q) ∙ h.3) f
      go h (ran r v s q) =
          let k : (run form budget (start r.matcher r.pattern v ∷ []) (length room)).answer ≡ a = sym (ap (λ (x : Matched). x.answer) q) ∙ h.2 in
          absurd (run_answer form budget (length room) (start r.matcher r.pattern v ∷ []) (omega (arith, k, h.0)) (omega (arith, k, h.1)))

-- Two faults are one, and none goes with a run.
pub fault_once : (ms ps ts : List ℤ) (a i b j : ℕ) → Fault ms ps ts a i → Fault ms ps ts b j → (a ≡ b) × (i ≡ j)
unfolding turned_away
fault_once ms ps ts a i b j f g =
    let q = sym (match_turned as_words ms ps ts 0 [] a i f) ∙ match_turned as_words ms ps ts 0 [] b j g in
    (ap (λ (x : Matched). x.answer) q, ap (λ (x : Matched). x.place) q)

pub not_both : (ms ps ts : List ℤ) (a i : ℕ) (r : Rule) (v : Value) → Fault ms ps ts a i → Sane ms ps ts r v → ⊥
unfolding turned_away carried_out
not_both ms ps ts a i r v f s =
    let k : (run as_words 0 (start r.matcher r.pattern v ∷ []) 0).answer ≡ a =
    ap (λ (x : Matched). x.answer) (sym (match_ran as_words ms ps ts 0 [] r v s) ∙ match_turned as_words ms ps ts 0 [] a i f) in
    let h = fault_range f in
    run_answer as_words 0 0 (start r.matcher r.pattern v ∷ []) (omega (arith, k, h)) (omega (arith, k, h))
