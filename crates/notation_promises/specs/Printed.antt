-- The tokens that the code puts on a page are printed as the notation has them.
use Rattle.std.specs.Prelude.{ℕ, true, false, List, [], ◌∷◌, T, pos, negsuc}
use Rattle.std.proofs.Common.{of_z}
use Rattle.std.specs.Int.{w32}
use Rattle.notation_rules.specs.Tokens.{Sign, consing, joining, anding, oring}
use Rattle.notation_rules.specs.Tokens.{Token, mark, sign, binds, uses, number, wrong, code}
use Rattle.notation_write.specs.Written.{Ink, ink}

-- ---- A token's number, and what it comes with.
unfoldable pub sign_code : Sign → ℕ
sign_code consing = 17
sign_code joining = 18
sign_code anding = 19
sign_code oring = 20

unfoldable pub ink_of : Token → Ink
unfolding code sign_code
ink_of (mark m) = ink (code m) 0
ink_of (sign s) = ink (sign_code s) 0
ink_of (binds v) = ink 21 (of_z w32 v)
ink_of (uses v) = ink 22 (of_z w32 v)
ink_of (number n) = ink 23 n
ink_of (wrong c) = ink 0 0

unfoldable pub inks_of : List Token → List Ink
unfolding ink_of
inks_of [] = []
inks_of (t ∷ ts) = ink_of t ∷ inks_of ts

-- Names that are variables of a rule: what can be spelled.
unfoldable pub Named : Token → Type 0
Named (mark m) = T true
Named (sign s) = T true
Named (binds (pos v)) = T true
Named (binds (negsuc v)) = T false
Named (uses (pos v)) = T true
Named (uses (negsuc v)) = T false
Named (number n) = T true
Named (wrong c) = T false

unfoldable pub NamedAll : List Token → Type 0
unfolding Named
NamedAll [] = T true
NamedAll (t ∷ ts) = Named t × NamedAll ts
