-- Document 01, section 2, Variables. The walk goes from left to right and knows the index of the tag where it stands: that is the place of a fault.
use Rattle.std.specs.Prelude.{ℕ, suc, ◌+◌, Bool, true, false, ◌&&◌, ltb, ℤ, pos, negsuc}
use Rattle.rules.specs.Limits.{variables_limit}
use Rattle.rules.specs.Numbers.{same}
use Rattle.rules.specs.Forms.{Pattern, wildcard, variable, constant, value, nil, cons, join, tuple, both, either, never, Patterns, no_patterns, ◌▸ᵖ◌, span}
use Rattle.rules.specs.Reading.{Verdict, ok, fault, ◌then◌}

-- What is demanded of the tag at an index.
unfoldable pub demand : {A : Type 0} → Bool → ℕ → A → Verdict A
demand true at a = ok a
demand false at a = fault at

-- "At most 16 variables, numbered 0 to 15. The first variable tag .. has number 0, the next 1, and so on": n stand to the left of this one.
unfoldable pub is_next : ℤ → ℕ → Bool
unfolding same
is_next v n = same v (pos n) && ltb n variables_limit

-- "A tag 3 names a variable that stands to its left."
unfoldable pub is_left : ℤ → ℕ → Bool
is_left (pos v) n = ltb v n
is_left (negsuc v) n = false

-- n variables stand to the left of the pattern, whose tag is at the index; found is how many stand to the left of what follows it. "A variable tag
-- inside an or or a not is 3, at that tag": `may_bind` tells whether one may stand here.
unfoldable mutual
  unfolding ◌then◌ demand is_next is_left span

  pub variables : Pattern → (may_bind : Bool) → (at n : ℕ) → Verdict ℕ
  variables wildcard may_bind at n = ok n
  variables (variable v) may_bind at n = demand (may_bind && is_next v n) at (suc n)
  variables (constant c) may_bind at n = ok n
  variables (value v c) may_bind at n = demand (is_left v n) at n
  variables nil may_bind at n = ok n
  variables (cons p q) may_bind at n = variables p may_bind (at + 1) n then λ k. variables q may_bind (at + 1 + span p) k
  variables (join p q) may_bind at n = variables p may_bind (at + 1) n then λ k. variables q may_bind (at + 1 + span p) k
  variables (tuple ps) may_bind at n = variables_all ps may_bind (at + 2) n
  variables (both p q) may_bind at n = variables p may_bind (at + 1) n then λ k. variables q may_bind (at + 1 + span p) k
  variables (either p q) may_bind at n = variables p false (at + 1) n then λ k. variables q false (at + 1 + span p) k
  variables (never p) may_bind at n = variables p false (at + 1) n

  pub variables_all : Patterns → (may_bind : Bool) → (at n : ℕ) → Verdict ℕ
  variables_all no_patterns may_bind at n = ok n
  variables_all (p ▸ᵖ ps) may_bind at n = variables p may_bind at n then λ k. variables_all ps may_bind (at + span p) k
