-- The tokens of the notation, and the one machine that reads them: a fold of a step, which ends at the first token that has none.
use Rattle.std.specs.Prelude.{ℕ, zero, suc, ◌≡◌, refl, Bool, true, false, length, eqb, T, ℤ, pos, negsuc}
use Rattle.std.proofs.Math.Path.{ap}
use mathlib.Core.List.{List, [], ◌∷◌}
use Rattle.rules.specs.Numbers.{in_range}

-- ---- Why a text is refused.
-- A character or a word that the notation does not have; a token that cannot stand here; a text that ends too early, with no bracket open or
-- with one; a name that is bound nowhere, bound a second time, used to the left of its `$`; a number outside the signed 32-bit range; a tuple of
-- more than four parts or more than sixteen variables.
pub data Cause : Type 0 where
  unknown_sign misplaced cut_short bracket_open unknown_name bound_twice used_before out_of_range over_limit : Cause

-- What was read; or the cause, and how much was left where the fault is, the part at fault among it.
pub data Outcome (A : Type 0) : Type 0 where
  done : A → Outcome A
  refused : Cause → ℕ → Outcome A

-- ---- Tokens.
-- The four signs between two patterns: `::`, `++`, `&` and `|`.
pub data Sign : Type 0 where
  consing joining anding oring : Sign

-- `_ # ! + - , ( ) [ ]` and the words `something integer list multiset matchAll as with`.
pub data Mark : Type 0 where
  underscore hash bang plus minus comma opening closing left right : Mark
  anything integers list_of multiset_of matching by with' : Mark

-- `binds x` is `$x`, `uses x` is `x`; `wrong` stands where the text has no token, or a name that cannot be, and is refused by every reader.
pub data TokenOf (Name : Type 0) : Type 0 where
  mark : Mark → TokenOf Name
  sign : Sign → TokenOf Name
  binds uses : Name → TokenOf Name
  number : ℕ → TokenOf Name
  wrong : Cause → TokenOf Name

-- With a name as its letters, and as its variable's number.
abbrev pub Raw : Type 0
Raw = TokenOf (List ℕ)

abbrev pub Token : Type 0
Token = TokenOf ℤ

unfoldable pub code : Mark → ℕ
code underscore = 0
code hash = 1
code bang = 2
code plus = 3
code minus = 4
code comma = 5
code opening = 6
code closing = 7
code left = 8
code right = 9
code anything = 10
code integers = 11
code list_of = 12
code multiset_of = 13
code matching = 14
code by = 15
code with' = 16

-- ---- What a place allows is a table of marks; a mark that is not in it cannot stand there.
pub data Step (A : Type 0) : Type 0 where
  next : A → Step A
  no : Step A
  bad : Cause → Step A

pub data Entry (A : Type 0) : Type 0 where
  ◌⇒◌ : Mark → A → Entry A
  ◌refuses◌ : Mark → Cause → Entry A

infix 68 ◌⇒◌
infix 68 ◌refuses◌
unfoldable pub look : {A : Type 0} → List (Entry A) → Mark → Step A
unfolding code
look [] m = no
look ((k ⇒ a) ∷ es) m = elim (eqb (code k) (code m)) [ true ↦ next a | false ↦ look es m ]
look ((k refuses c) ∷ es) m = elim (eqb (code k) (code m)) [ true ↦ bad c | false ↦ look es m ]

-- ---- Numbers: n and -n, in the range of a word.
unfoldable pub minus' : ℕ → ℤ
minus' zero = pos 0
minus' (suc n) = negsuc n

unfoldable pub numeral : (negative : Bool) → ℕ → ℤ
unfolding minus'
numeral false n = pos n
numeral true n = minus' n

unfoldable pub ranged : {A : Type 0} → ℤ → A → Step A
unfolding in_range
ranged c a = elim (in_range c) [ true ↦ next a | false ↦ bad out_of_range ]

pub ranged_in : {A : Type 0} (c : ℤ) (a : A) → T (in_range c) → ranged c a ≡ next a
unfolding ranged
ranged_in {A} c a h = go (in_range c) h
  where
    go : (b : Bool) → T b → ◌≡◌ {A = Step A} (elim b as (λ _. Step A) [ true ↦ next a | false ↦ bad out_of_range ]) (next a)
    go true h = refl
    go false h = absurd h

-- ---- The machine. `step` takes a token up; `end` says what was read up to here, or why the text may not end here.
pub data Ended (A : Type 0) : Type 0 where
  is : A → Ended A
  lacks : Cause → Ended A

pub record Machine (Mode A : Type 0) : Type 0 where
  pub step : Mode → Token → Step Mode
  pub end : Mode → Ended A

unfoldable pub blame : Token → Cause
blame (mark m) = misplaced
blame (sign s) = misplaced
blame (binds v) = misplaced
blame (uses v) = misplaced
blame (number n) = misplaced
blame (wrong c) = c

-- What was read goes on with the rest.
unfoldable pub stopped : {A B : Type 0} → (A → List Token → Outcome B) → Ended A → List Token → Outcome B
unfolding blame
stopped k (is a) ts = k a ts
stopped k (lacks c) [] = refused c 0
stopped k (lacks c) (t ∷ ts) = refused (blame t) (suc (length ts))

-- The rest is empty.
unfoldable pub whole : {A : Type 0} → A → List Token → Outcome A
unfolding blame
whole a [] = done a
whole a (t ∷ ts) = refused (blame t) (suc (length ts))

module _ {Mode A B : Type 0} (M : Machine Mode A) (k : A → List Token → Outcome B) where
  -- As far as there is a step; k has the rest.
  unfoldable pub run : Mode → List Token → Outcome B
  unfolding stopped
  run m [] = stopped k (M.end m) []
  run m (t ∷ ts) = elim (M.step m t) [ next m' ↦ run m' ts | no ↦ stopped k (M.end m) (t ∷ ts) | bad c ↦ refused c (suc (length ts)) ]

  pub run_next : (m m' : Mode) (t : Token) (ts : List Token) → M.step m t ≡ next m' → run m (t ∷ ts) ≡ run m' ts
  unfolding run
  run_next m m' t ts h = ap (λ o. elim o as (λ _. Outcome B) [ next m' ↦ run m' ts | no ↦ stopped k (M.end m) (t ∷ ts) | bad c ↦ refused c (suc (length ts)) ]) h
