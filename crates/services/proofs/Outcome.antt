-- The tests 1 to 6, as the code asks for them and as a service has their outcome. Assumes nothing.
use Prim.Native.Nat.{ℕ}
use mathlib.Core.Path.{◌≡◌, refl, sym, ap, ◌∙◌}
use mathlib.Core.Logic.{◌⊎◌, inl, inr}
use mathlib.Core.List.{List}
use lib.IntN.{ℤ}
use Rattle.std.specs.Prelude.{Result, Ok, Err}
use Rattle.rules.specs.Forms.{Value}
use Rattle.rules.specs.Services.{Judged, accepted, refused, test, Rule, rule_in, rule_of, target_of, cause_in}
use Rattle.rules.specs.Dialects.{Dialect}
use Rattle.forms.specs.Faults.{rule_accepted}
use Rattle.forms.specs.Also.{rule_also, well_formed_also}
use Rattle.tests.specs.Judgements.{Numbers, numbers_of, told, judgement, target_judgement, target_under, Whole}
use Rattle.tests.specs.declared.Refusal.{Refusal}
use Rattle.tests.proofs.Told.{was_accepted, was_refused, target_was_accepted, target_was_refused}
use Rattle.services.specs.Matches.{Ready, Admitted}
use Rattle.services.specs.Testing.{target_tested, tested_in}

-- The tests 5 and 6 are those under the rule's matcher.
pub under : (ms ps ts : List ℤ) (r : Rule) → rule_of ms ps ≡ accepted r → target_under ms ts ≡ target_of r.matcher ts
unfolding target_under test
under ms ps ts r e = let m = ((rule_accepted ms ps r).0 e).matcher in rw m

-- ---- As the code asks for them.

module _ (dialect : Dialect) (ms ps : List ℤ) (x : Result (Unit {0}) Refusal) (p : told x ≡ judgement (rule_in dialect ms ps)) where
  -- Test 1 has passed.
  pub rule_whole : (u : Unit {0}) → x ≡ Ok u → Whole ms
  rule_whole u q =
      let r = was_accepted (rule_in dialect ms ps) x p u q in
      record { matcher = r.0.matcher; is = (well_formed_also dialect ms ps r.0 r.1).matcher }

  pub rule_failed : (ts : List ℤ) (r : Refusal) → x ≡ Err r → told (Err r) ≡ tested_in dialect ms ps ts
  unfolding tested_in target_tested
  rule_failed ts r q =
      let w = was_refused (rule_in dialect ms ps) x p r q in
      ap (λ n. Err (record { answer = (numbers_of r).answer; place = (numbers_of r).place; cause = n })) w.1 ∙ sym (ap (target_tested ts) w.0)

  pub target_told : (ts : List ℤ) (u : Unit {0}) → x ≡ Ok u → (y : Result (Unit {0}) Refusal) → told y ≡ target_judgement ts (target_under ms ts) → told y ≡ tested_in dialect ms ps ts
  unfolding tested_in target_tested
  target_told ts u q y k =
      let r = was_accepted (rule_in dialect ms ps) x p u q in
      k ∙ ap (target_judgement ts) (under ms ps ts r.0 (rule_also dialect ms ps r.0 r.1)) ∙ sym (ap (target_tested ts) r.1)

-- ---- Their outcome.

-- Which test refused, with these numbers.
pub data Failed (dialect : Dialect) (ms ps ts : List ℤ) (n : Numbers) : Type 0 where
  rule_fails : rule_in dialect ms ps ≡ refused n.answer n.place → n.cause ≡ 0 → Failed dialect ms ps ts n
  target_fails : (r : Rule) → rule_in dialect ms ps ≡ accepted r → target_of r.matcher ts ≡ refused n.answer n.place → n.cause ≡ cause_in n.answer ts → Failed dialect ms ps ts n

module _ (dialect : Dialect) (ms ps ts : List ℤ) (x : Result (Unit {0}) Refusal) (p : told x ≡ tested_in dialect ms ps ts) where
  pub passed : (u : Unit {0}) → x ≡ Ok u → Admitted dialect ms ps ts
  unfolding tested_in target_tested
  passed u q = go (rule_in dialect ms ps) refl
    where
      go : (j : Judged Rule) → rule_in dialect ms ps ≡ j → Admitted dialect ms ps ts
      go (accepted r) e =
          let v = target_was_accepted ts (target_of r.matcher ts) x (p ∙ ap (target_tested ts) e) u q in
          record { ready = record { rule = r; value = v.0; rule_is = rule_also dialect ms ps r e; value_is = v.1 }; rule_is_in = e }
      go (refused a i) e = let z : told (Ok u) ≡ Err (record { answer = a; place = i; cause = 0 }) = ap told (sym q) ∙ p ∙ ap (target_tested ts) e in absurd (cc)

  pub failed : (r : Refusal) → x ≡ Err r → Failed dialect ms ps ts (numbers_of r)
  unfolding tested_in target_tested
  failed r q = go (rule_in dialect ms ps) refl
    where
      go : (j : Judged Rule) → rule_in dialect ms ps ≡ j → Failed dialect ms ps ts (numbers_of r)
      go (accepted a) e =
          let v = target_was_refused ts (target_of a.matcher ts) x (p ∙ ap (target_tested ts) e) r q in
          target_fails a e v.0 v.1
      go (refused a i) e =
          let z : told (Err r) ≡ Err (record { answer = a; place = i; cause = 0 }) = ap told (sym q) ∙ p ∙ ap (target_tested ts) e in
          let n : numbers_of r ≡ record { answer = a; place = i; cause = 0 } = cc in
          rule_fails (e ∙ ap (λ (k : Numbers). refused k.answer k.place) (sym n)) (ap (λ (k : Numbers). k.cause) n)
