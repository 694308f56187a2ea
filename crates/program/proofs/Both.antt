-- The passes together. Assumes nothing.
use Prim.Native.Nat.{ℕ, suc, ◌<◌, ◌≤◌}
use native.Mathlib.Omega.{arith}
use mathlib.Core.Path.{◌≡◌, sym, ap, ◌∙◌}
use mathlib.Core.List.{List}
use borrow.Author.Rules.{rules}
use lib.ListN.{length}
use lib.IntN.{ℤ}
use Rattle.words.specs.Words.{entries}
use Rattle.tables.specs.declared.line.Line.{Line}
use Rattle.tables.specs.Line.{Columns, aimed}
use Rattle.program_rules.specs.Lines.{lines_of, laid}
use Rattle.program_rules.specs.Slots.{numbered}
use Rattle.program_rules.specs.Link.{ops_in, bindings_in, linked_in}
use Rattle.program_rules.specs.Bounds.{lines_few}

-- The lines of 256 words fit.
pub both_low : (m p : List ℤ) (last : ℕ) → length p ≤ 256 → suc last ≡ length (lines_of m p) → last < entries
both_low m p last l e = let a = lines_few m p l in omega arith

pub both_vars : (t₀ t₁ t₂ t : Columns) (last n r : ℕ) → suc last ≡ n → t₂ ≡ numbered (suc last) t₁ → r ≡ bindings_in (ops_in t₂.op 0 (suc last)) → t ≡ linked_in (suc last) t₂
    → r ≡ bindings_in (ops_in t.op 0 n)
unfolding linked_in aimed
both_vars t₀ t₁ t₂ t last n r e g h k = h ∙ ap (λ q. bindings_in (ops_in t₂.op 0 q)) e ∙ ap (λ (u : Columns). bindings_in (ops_in u.op 0 n)) (sym k)

pub both_lines : (t₀ t₁ t₂ t : Columns) (ls : List Line) (last n : ℕ) → suc last ≡ n → t₁ ≡ laid 0 ls t₀ → t₂ ≡ numbered (suc last) t₁ → t ≡ linked_in (suc last) t₂
    → t ≡ linked_in n (numbered n (laid 0 ls t₀))
both_lines t₀ t₁ t₂ t ls last n e a b c = c ∙ rw (e) (ap (linked_in n) (rw e at b ∙ ap (numbered n) a))

pub ruleset both_rules = (both_low, both_vars, both_lines, rules)
