-- What the leaves on the table of lines are to show. Assumes nothing.
use Prim.Native.Nat.{ℕ, ◌+◌, ◌*◌, ◌<◌, ◌%◌, ◌/◌}
use mathlib.Core.Path.{◌≡◌, ap, ◌∙◌}
use mathlib.Core.List.{List}
use borrow.Author.Rules.{rules}
use lib.ListN.{length, get_or}
use lib.IntN.{ℤ, pos}
use mir.Syntax.{w32}
use mir.Val.{to_z, of_z, Fits, SFits}
use Rattle.words.specs.Words.{entries}
use Rattle.tables.specs.declared.line.Line.{Line}
use Rattle.tables.specs.Line.{columns_of, halves, written}
use Rattle.tables.specs.LineLaws.{op_at, arg_at, mat_at, from_at, to_at, con_at, to_put, arg_named, numbers_put, constant_put, halves_of, line_put}

pub arg_read : (t : List ℕ) (pc r : ℕ) → pc < entries → r ≡ get_or t (entries + pc) 0 → r ≡ get_or (columns_of t).arg pc 0
arg_read t pc r h e = e ∙ arg_at t pc h

pub mat_read : (t : List ℕ) (pc r : ℕ) → pc < entries → r ≡ get_or t (2 * entries + pc) 0 → r ≡ get_or (columns_of t).mat pc 0
mat_read t pc r h e = e ∙ mat_at t pc h

pub from_read : (t : List ℕ) (pc r : ℕ) → pc < entries → r ≡ get_or t (3 * entries + pc) 0 → r ≡ get_or (columns_of t).from pc 0
from_read t pc r h e = e ∙ from_at t pc h

pub to_read : (t : List ℕ) (pc r : ℕ) → pc < entries → r ≡ get_or t (4 * entries + pc) 0 → r ≡ get_or (columns_of t).to pc 0
to_read t pc r h e = e ∙ to_at t pc h

pub con_read : (t : List ℕ) (pc b : ℕ) (r : ℤ) → pc < length (columns_of t).con
    → b ≡ halves (get_or t (5 * entries + 2 * pc) 0) (get_or t (5 * entries + 2 * pc + 1) 0) → r ≡ to_z w32 b → r ≡ get_or (columns_of t).con pc (pos 0)
con_read t pc b r h e g = g ∙ ap (to_z w32) e ∙ con_at t pc h

pub line_is_put : (t : List ℕ) (pc b : ℕ) (x : Line) → pc < entries → SFits w32 x.con → Fits w32 b → b ≡ of_z w32 x.con
    → columns_of (constant_put (numbers_put t pc x.op x.arg x.mat x.from) pc (b % 65536) (b / 65536 % 65536)) ≡ written pc x (columns_of t)
line_is_put t pc b x h f g e = line_put t pc (b % 65536) (b / 65536 % 65536) x h (halves_of x.con b f g e)

pub ruleset read_rules = (op_at, arg_read, mat_read, from_read, to_read, con_read, to_put, arg_named, line_is_put, rules)
