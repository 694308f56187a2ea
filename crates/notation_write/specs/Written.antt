-- What the code writes of a matcher, a pattern or a target, from its words.
use Rattle.std.specs.Prelude.{ℕ, zero, suc, ◌+◌, ◌*◌, ◌/◌, ◌%◌, ◌-◌, ◌≡◌, Option, Some, None, cond, List, [], ◌∷◌, ◌++◌, length, get_or, eqb, ltb, ℤ, pos}
use Rattle.std.specs.Int.{w32}
use Rattle.std.proofs.Common.{of_z}
use Rattle.words.specs.Words.{tag_at}
use Rattle.notation_print.specs.Inks.{Sheet, draw}
use Rattle.notation_print.specs.Pens.{sheet_of, Stays}
use Rattle.notation_print.specs.Kinds.{number_of}
use Rattle.notation_print.specs.declared.Kind.{Kind}
use Rattle.notation_print.specs.declared.Kind.TheVariants.{Underscore, Hash, Bang, Comma, Opening, Closing, Left, Right, Something, Integer, List as List', Multiset, Cons, Join, And, Or}
use Rattle.notation_print.specs.declared.Pen.{Pen}
use Rattle.notation_write.specs.declared.Node.{Node}
use Rattle.notation_write.specs.declared.Operands.{Operands}
use Rattle.notation_write.specs.declared.Operands.TheVariants.{Nothing, OneNumber, OneVariable, VariableAndNumber}

-- A tag that there is not: the table's other rows differ from it.
abbrev pub no_tag : Node
no_tag = record { level = 7; begins = None; operands = Nothing; parts = Some 0; first = 0; others = 0; between = None; ends = None }

-- What each tag is written as: the code's table, eleven rows for a pattern, for a matcher and for a target.
abbrev pub nodes : List Node
nodes =
    record no_tag { begins = Some Underscore } ∷ record no_tag { operands = OneVariable } ∷ record no_tag { begins = Some Hash; operands = OneNumber }
    ∷ record no_tag { begins = Some Hash; operands = VariableAndNumber } ∷ record no_tag { begins = Some Left; ends = Some Right }
    ∷ record no_tag { level = 3; parts = Some 2; first = 4; others = 3; between = Some Cons } ∷ record no_tag { level = 3; parts = Some 2; first = 4; others = 3; between = Some Join }
    ∷ record no_tag { begins = Some Opening; parts = None; first = 1; others = 1; between = Some Comma; ends = Some Closing }
    ∷ record no_tag { level = 2; parts = Some 2; first = 3; others = 2; between = Some And } ∷ record no_tag { level = 1; parts = Some 2; first = 2; others = 1; between = Some Or }
    ∷ record no_tag { begins = Some Bang; parts = Some 1; first = 4; others = 4 }
    ∷ record no_tag { begins = Some Something } ∷ record no_tag { begins = Some Integer } ∷ record no_tag { level = 1; begins = Some List'; parts = Some 1; first = 10; others = 10 }
    ∷ record no_tag { level = 1; begins = Some Multiset; parts = Some 1; first = 10; others = 10 }
    ∷ record no_tag { begins = Some Opening; parts = None; first = 9; others = 9; between = Some Comma; ends = Some Closing } ∷ no_tag ∷ no_tag ∷ no_tag ∷ no_tag ∷ no_tag ∷ no_tag
    ∷ record no_tag { operands = OneNumber } ∷ record no_tag { begins = Some Left; parts = None; first = 17; others = 17; between = Some Comma; ends = Some Right }
    ∷ record no_tag { begins = Some Opening; parts = None; first = 17; others = 17; between = Some Comma; ends = Some Closing }
    ∷ no_tag ∷ no_tag ∷ no_tag ∷ no_tag ∷ no_tag ∷ no_tag ∷ no_tag ∷ no_tag ∷ []

unfoldable pub node_of : (what tag : ℕ) → Node
node_of what tag = get_or nodes ((what % 24 / 8 * 11 + tag % 11) % 33) no_tag

unfoldable pub ahead : List ℤ → (at n : ℕ) → ℕ
ahead ws at n = cond (ltb at (length ws)) (at + n) at

unfoldable pub bits_at : List ℤ → (at n : ℕ) → ℕ
unfolding ahead
bits_at ws at n = cond (ltb (ahead ws at n) (length ws)) (of_z w32 (get_or ws (ahead ws at n) (pos 0))) 0

-- The words in front of the parts.
unfoldable pub head_of : Operands → (parts : Option ℕ) → ℕ
head_of Nothing None = 2
head_of Nothing (Some n) = 1
head_of OneNumber parts = 2
head_of OneVariable parts = 2
head_of VariableAndNumber None = 2
head_of VariableAndNumber (Some n) = 3

unfoldable pub count_of : List ℤ → (at : ℕ) → (parts : Option ℕ) → ℕ
unfolding bits_at
count_of ws at None = bits_at ws at 1 % 256
count_of ws at (Some n) = n

-- ---- Tokens, put one behind the other.
pub data Ink : Type 0 where
  ink : (kind value : ℕ) → Ink

unfoldable pub draws : Sheet → List Ink → Sheet
unfolding draw
draws s [] = s
draws s (ink k v ∷ is) = draws (draw s k v) is

-- A pen puts them behind what stands on its page.
abbrev pub Puts : (old new : Pen) → List Ink → Type 0
Puts old new is = Stays old new × (sheet_of new ≡ draws (sheet_of old) is)

unfoldable pub optional : Option Kind → List Ink
unfolding number_of
optional None = []
optional (Some kind) = ink (number_of kind) 0 ∷ []

unfoldable pub signed : ℕ → List Ink
signed u = cond (ltb u 2147483648) (ink 23 u ∷ []) (ink 4 0 ∷ ink 23 (4294967295 - u + 1) ∷ [])

unfoldable pub plus : ℕ → List Ink
plus u = cond (ltb u 2147483648) (ink 3 0 ∷ []) []

unfoldable pub valued : (v u : ℕ) → List Ink
unfolding plus signed
valued v u = cond (eqb u 0) (ink 22 v ∷ []) (ink 6 0 ∷ ink 22 v ∷ (plus u ++ (signed u ++ (ink 7 0 ∷ []))))

unfoldable pub leaf : List ℤ → (at : ℕ) → Operands → List Ink
unfolding bits_at signed valued
leaf ws at Nothing = []
leaf ws at OneNumber = signed (bits_at ws at 1)
leaf ws at OneVariable = ink 21 (bits_at ws at 1) ∷ []
leaf ws at VariableAndNumber = valued (bits_at ws at 1) (bits_at ws at 2)

unfoldable pub bracket : (own what kind : ℕ) → List Ink
bracket own what kind = cond (ltb own (what % 8)) (ink kind 0 ∷ []) []

unfoldable pub front : List ℤ → (at what : ℕ) → Node → List Ink
unfolding bracket optional leaf
front ws at what node = bracket node.level what 6 ++ (optional node.begins ++ leaf ws at node.operands)

unfoldable pub behind : (what : ℕ) → Node → List Ink
unfolding bracket optional
behind what node = optional node.ends ++ bracket node.level what 7

-- ---- What stands at an index, and where it ends.
pub record Written : Type 0 where
  pub inks : List Ink
  pub end : ℕ

-- n parts from an index on, the first written as `part` behind the token `first`, the others as `rest` behind `between`.
unfoldable pub parts : ((at what : ℕ) → Written) → (rest : ℕ) → (between : Option Kind) → (n at part : ℕ) → (first : Option Kind) → Written
unfolding optional
parts f rest between zero at part first = record { inks = []; end = at }
parts f rest between (suc n) at part first = record {
  inks = optional first ++ ((f at part).inks ++ (parts f rest between n (f at part).end rest between).inks);
  end = (parts f rest between n (f at part).end rest between).end;
}

unfoldable pub within : List ℤ → ((at what : ℕ) → Written) → (at what : ℕ) → Node → Written
unfolding front behind parts count_of ahead head_of
within ws f at what node =
    let p : Written = parts f node.others node.between (count_of ws at node.parts) (ahead ws at (head_of node.operands node.parts)) node.first None in
    record { inks = front ws at what node ++ (p.inks ++ behind what node); end = p.end }

unfoldable pub written : List ℤ → (depth at what : ℕ) → Written
unfolding within node_of tag_at
written ws zero at what = record { inks = []; end = at }
written ws (suc depth) at what = within ws (written ws depth) at what (node_of what (tag_at ws at))

-- ---- A rule: `matchAll` and the units where there are any, `as` and the matcher, `with` and the pattern.
unfoldable pub units_inks : List ℤ → List Ink
unfolding written
units_inks ts = cond (eqb (length ts) 0) [] (ink 14 0 ∷ (written ts 9 0 17).inks)

unfoldable pub rule_inks : (ms ps ts : List ℤ) → List Ink
unfolding units_inks written
rule_inks ms ps ts = units_inks ts ++ (ink 15 0 ∷ ((written ms 5 0 9).inks ++ (ink 16 0 ∷ (written ps 256 0 1).inks)))
