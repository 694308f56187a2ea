-- Laws of what specs/Places.antt defines.
use Rattle.std.specs.Prelude.{ℕ, ◌-◌, ◌≤◌, ◌≡◌, List, [], length}
use Rattle.std.proofs.Common.{arith}
use Rattle.notation_rules.specs.Tokens.{Cause, Outcome, done, refused, Token}
use Rattle.notation_rules.specs.Letters.{full}
use Rattle.notation_rules.specs.Names.{resolve}
use Rattle.notation_rules.specs.Places.{bare, column, faulty, from_spots, from_text, left, line, spots, told}

-- A refusal is at a character of the text, or at its end.
pub text_faulty : {A : Type 0} (read : List Token → Outcome A) (cs : List ℕ) (c : Cause) (l k : ℕ) → from_text read cs ≡ faulty c l k
    → (i : ℕ) × i ≤ length cs × l ≡ line cs i × k ≡ column cs i
unfolding from_text from_spots told
text_faulty {A} read cs c l k h = go (read (resolve [] (bare (spots (full []) (length cs) cs)))) h
  where
    go : (o : Outcome A) → told cs (spots (full []) (length cs) cs) o ≡ faulty c l k → (i : ℕ) × i ≤ length cs × l ≡ line cs i × k ≡ column cs i
    go (done b) e = let z : ◌≡◌ {A = ℕ} 0 1 = cc in absurd (omega arith)
    go (refused d r) e = (length cs - left r (spots (full []) (length cs) cs), omega arith, cc, cc)
