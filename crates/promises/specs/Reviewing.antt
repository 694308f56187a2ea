-- What review gives: the first fault of the rule, always true, a cap outside 0 to 64, too big, or the count.
use Rattle.std.specs.Prelude.{ℕ, ◌≤◌, ◌<◌, ◌≡◌, List, ℤ, pos}
use Rattle.std.proofs.Math.Bool.{true, false}
use Rattle.rules.specs.Review.{formula}
use Rattle.rules.specs.Always.{always_true}
use Rattle.rules.specs.Services.{Rule, Reviewed, declined}
use Rattle.forms.specs.Faults.{RuleFault, WellFormed}

-- Review's formula for a rule.
unfoldable pub count_of : ℕ → Rule → ℕ
unfolding formula
count_of cap r = formula cap r.pattern r.matcher

-- A rule with none of the faults 1 to 4 that can fail: not always true.
pub record Telling (ms ps : List ℤ) (r : Rule) : Type 0 where
  pub well_formed : WellFormed ms ps r
  pub can_fail : always_true r.pattern ≡ false

pub data Review (ms ps : List ℤ) (cap : ℤ) (x : Reviewed) : Type 0 where
  turned : (a i : ℕ) → RuleFault ms ps a i → x ≡ declined a i → Review ms ps cap x
  always : (r : Rule) → WellFormed ms ps r → always_true r.pattern ≡ true → x ≡ declined 11 0 → Review ms ps cap x
  outside : (r : Rule) → Telling ms ps r → ((c : ℕ) → cap ≡ pos c → c ≤ 64 → ⊥) → x ≡ declined 9 0 → Review ms ps cap x
  too_big : (r : Rule) (c : ℕ) → Telling ms ps r → cap ≡ pos c → c ≤ 64 → 4294967295 < count_of c r → x ≡ declined 10 0 → Review ms ps cap x
  counts : (r : Rule) (c : ℕ) → Telling ms ps r → cap ≡ pos c → c ≤ 64 → count_of c r ≤ 4294967295
      → x ≡ record { answer = 0; place = 0; count = count_of c r } → Review ms ps cap x

-- ---- And only that one: the answers differ.

pub record TooBig (ms ps : List ℤ) (cap : ℤ) : Type 0 where
  pub rule : Rule
  pub telling : Telling ms ps rule
  pub limit : ℕ
  pub is : cap ≡ pos limit
  pub inside : limit ≤ 64
  pub passes : 4294967295 < count_of limit rule

-- 11 exactly when the rule, with none of the faults 1 to 4, is always true.
pub record AlwaysTrue (ms ps : List ℤ) : Type 0 where
  pub rule : Rule
  pub well_formed : WellFormed ms ps rule
  pub always : always_true rule.pattern ≡ true

-- 9 exactly when the cap is outside 0 to 64, for a rule that 11 does not turn away.
pub record Outside (ms ps : List ℤ) (cap : ℤ) : Type 0 where
  pub rule : Rule
  pub telling : Telling ms ps rule
  pub beyond : (c : ℕ) → cap ≡ pos c → c ≤ 64 → ⊥
