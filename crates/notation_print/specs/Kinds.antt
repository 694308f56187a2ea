-- The numbers of the tokens and of what a token asks of the next, by which the tables and the definitions count.
use Rattle.std.specs.Prelude.{ℕ}
use Rattle.notation_print.specs.declared.Kind.{Kind}
use Rattle.notation_print.specs.declared.Kind.TheVariants.{Underscore, Hash, Bang, Plus, Minus, Comma, Opening, Closing, Left, Right, Something, Integer, List, Multiset, MatchAll, As, With, Cons, Join, And, Or, Binds, Uses, Number}
use Rattle.notation_print.specs.declared.Asks.{Asks}
use Rattle.notation_print.specs.declared.Asks.TheVariants.{AtOnce, Apart, Named, Negative}

unfoldable pub number_of : Kind → ℕ
number_of Underscore = 0
number_of Hash = 1
number_of Bang = 2
number_of Plus = 3
number_of Minus = 4
number_of Comma = 5
number_of Opening = 6
number_of Closing = 7
number_of Left = 8
number_of Right = 9
number_of Something = 10
number_of Integer = 11
number_of List = 12
number_of Multiset = 13
number_of MatchAll = 14
number_of As = 15
number_of With = 16
number_of Cons = 17
number_of Join = 18
number_of And = 19
number_of Or = 20
number_of Binds = 21
number_of Uses = 22
number_of Number = 23

unfoldable pub asked : Asks → ℕ
asked AtOnce = 0
asked Apart = 1
asked Named = 2
asked Negative = 3
