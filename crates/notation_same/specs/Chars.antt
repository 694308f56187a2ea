-- What a character is by the code's table is what the notation says it is.
use Rattle.std.specs.Prelude.{ℕ, zero, suc, ◌+◌, ◌/◌, ◌%◌, ◌≤◌, ◌<◌, ◌≡◌, refl, Bool, true, false, cond, List, [], ◌∷◌, get_or, eqb, ltb, T}
use Rattle.std.proofs.Common.{arith, subst, eqb-true}
use Rattle.std.proofs.lemmas.Bool.{eqb-false}
use Rattle.notation_rules.specs.Tokens.{unknown_sign, misplaced, cut_short, bracket_open, unknown_name, bound_twice, used_before, out_of_range, over_limit, consing, joining, anding, oring}
use Rattle.notation_rules.specs.Tokens.{underscore, hash, bang, plus, minus, comma, opening, closing, left, right, anything, integers, list_of, multiset_of, matching, by, with'}
use Rattle.notation_rules.specs.Tokens.{TokenOf, mark, sign, binds, uses, number, wrong}
use Rattle.notation_rules.specs.Letters.{pluses, colons, dashes, Kind, gap, dollar, low, digit, letter, twin, symbol, kind, find, symbols, is_letter, is_digit}
use Rattle.notation_scan.specs.Scanned.{char_of}

-- A token by the code's number, with its value, and its name where it binds one or uses one.
unfoldable pub token_of : {Name : Type 0} → (k value : ℕ) → (b u : Name) → TokenOf Name
token_of k value b u = get_or (mark underscore ∷ mark hash ∷ mark bang ∷ mark plus ∷ mark minus ∷ mark comma ∷ mark opening ∷ mark closing ∷ mark left ∷ mark right
    ∷ mark anything ∷ mark integers ∷ mark list_of ∷ mark multiset_of ∷ mark matching ∷ mark by ∷ mark with'
    ∷ sign consing ∷ sign joining ∷ sign anding ∷ sign oring ∷ binds b ∷ uses u ∷ number value
    ∷ wrong cut_short ∷ wrong unknown_sign ∷ wrong misplaced ∷ wrong cut_short ∷ wrong bracket_open ∷ wrong unknown_name ∷ wrong bound_twice ∷ wrong used_before ∷ wrong out_of_range ∷ wrong over_limit ∷ [])
    k (wrong unknown_sign)

-- A character by its entry v of the table.
unfoldable pub kind_by : (m x c : ℕ) → Kind
unfolding token_of
kind_by m x c = get_or (gap ∷ gap ∷ dollar ∷ low ∷ digit (c % 48) ∷ letter c ∷ twin pluses ∷ twin colons ∷ twin dashes ∷ symbol (token_of x 0 [] []) ∷ []) m gap

-- The token that `_`, `+` and `:` make.
unfoldable pub made : (m x : ℕ) → ℕ
made m x = get_or (x ∷ x ∷ x ∷ 0 ∷ x ∷ x ∷ 18 ∷ 17 ∷ x ∷ x ∷ []) m 0

-- A token that has neither value nor name.
abbrev pub Plain : ℕ → Type 0
Plain k = (value : ℕ) (b u : List ℕ) → token_of k 0 [] [] ≡ token_of k value b u

-- What the table says of the character c, by its class m and the token x that it makes.
pub record Told (c m x : ℕ) : Type 0 where
  pub is : kind c ≡ kind_by m x c
  pub ends : eqb c 10 ≡ eqb m 1
  pub makes : x ≡ made m x
  pub digits : cond (eqb m 4) (48 + c % 48) c ≡ c
  pub lows : cond (eqb m 3) 95 c ≡ c
  pub plain : Plain x
  pub real : eqb x 24 ≡ false
  pub class : T (ltb m 10)

abbrev pub Says : ℕ → Type 0
Says c = Told c (char_of c % 16) (char_of c / 16)

unfoldable pub All : (ℕ → Type 0) → (from n : ℕ) → Type 0
All P s zero = T true
All P s (suc n) = P s × All P (suc s) n

pub pick : (P : ℕ → Type 0) (n s k : ℕ) → All P s n → s ≤ k → k < s + n → P k
unfolding All
pick P zero s k a l h = absurd (omega arith)
pick P (suc n) s k a l h = go (eqb s k) refl (λ m. pick P n (suc s) k a.1 m (omega arith))
  where
    go : (t : Bool) → eqb s k ≡ t → (suc s ≤ k → P k) → P k
    go true e i = subst P (eqb-true s k e) a.0
    go false e i = let d : s ≡ k → ⊥ = eqb-false s k e in i (omega (arith, d))

every : All Says 0 256
unfolding All kind find symbols is_letter is_digit char_of kind_by made token_of
every = (record { is = refl; ends = refl; makes = refl; digits = refl; lows = refl; plain = λ value b u. refl; real = refl; class = tt }, (record { is = refl; ends = refl; makes = refl; digits = refl; lows = refl; plain = λ value b u. refl; real = refl; class = tt }, (record { is = refl; ends = refl; makes = refl; digits = refl; lows = refl; plain = λ value b u. refl; real = refl; class = tt }, (record { is = refl; ends = refl; makes = refl; digits = refl; lows = refl; plain = λ value b u. refl; real = refl; class = tt }, (record { is = refl; ends = refl; makes = refl; digits = refl; lows = refl; plain = λ value b u. refl; real = refl; class = tt }, (record { is = refl; ends = refl; makes = refl; digits = refl; lows = refl; plain = λ value b u. refl; real = refl; class = tt }, (record { is = refl; ends = refl; makes = refl; digits = refl; lows = refl; plain = λ value b u. refl; real = refl; class = tt }, (record { is = refl; ends = refl; makes = refl; digits = refl; lows = refl; plain = λ value b u. refl; real = refl; class = tt }, (record { is = refl; ends = refl; makes = refl; digits = refl; lows = refl; plain = λ value b u. refl; real = refl; class = tt }, (record { is = refl; ends = refl; makes = refl; digits = refl; lows = refl; plain = λ value b u. refl; real = refl; class = tt }, (record { is = refl; ends = refl; makes = refl; digits = refl; lows = refl; plain = λ value b u. refl; real = refl; class = tt }, (record { is = refl; ends = refl; makes = refl; digits = refl; lows = refl; plain = λ value b u. refl; real = refl; class = tt }, (record { is = refl; ends = refl; makes = refl; digits = refl; lows = refl; plain = λ value b u. refl; real = refl; class = tt }, (record { is = refl; ends = refl; makes = refl; digits = refl; lows = refl; plain = λ value b u. refl; real = refl; class = tt }, (record { is = refl; ends = refl; makes = refl; digits = refl; lows = refl; plain = λ value b u. refl; real = refl; class = tt }, (record { is = refl; ends = refl; makes = refl; digits = refl; lows = refl; plain = λ value b u. refl; real = refl; class = tt }, (record { is = refl; ends = refl; makes = refl; digits = refl; lows = refl; plain = λ value b u. refl; real = refl; class = tt }, (record { is = refl; ends = refl; makes = refl; digits = refl; lows = refl; plain = λ value b u. refl; real = refl; class = tt }, (record { is = refl; ends = refl; makes = refl; digits = refl; lows = refl; plain = λ value b u. refl; real = refl; class = tt }, (record { is = refl; ends = refl; makes = refl; digits = refl; lows = refl; plain = λ value b u. refl; real = refl; class = tt }, (record { is = refl; ends = refl; makes = refl; digits = refl; lows = refl; plain = λ value b u. refl; real = refl; class = tt }, (record { is = refl; ends = refl; makes = refl; digits = refl; lows = refl; plain = λ value b u. refl; real = refl; class = tt }, (record { is = refl; ends = refl; makes = refl; digits = refl; lows = refl; plain = λ value b u. refl; real = refl; class = tt }, (record { is = refl; ends = refl; makes = refl; digits = refl; lows = refl; plain = λ value b u. refl; real = refl; class = tt }, (record { is = refl; ends = refl; makes = refl; digits = refl; lows = refl; plain = λ value b u. refl; real = refl; class = tt }, (record { is = refl; ends = refl; makes = refl; digits = refl; lows = refl; plain = λ value b u. refl; real = refl; class = tt }, (record { is = refl; ends = refl; makes = refl; digits = refl; lows = refl; plain = λ value b u. refl; real = refl; class = tt }, (record { is = refl; ends = refl; makes = refl; digits = refl; lows = refl; plain = λ value b u. refl; real = refl; class = tt }, (record { is = refl; ends = refl; makes = refl; digits = refl; lows = refl; plain = λ value b u. refl; real = refl; class = tt }, (record { is = refl; ends = refl; makes = refl; digits = refl; lows = refl; plain = λ value b u. refl; real = refl; class = tt }, (record { is = refl; ends = refl; makes = refl; digits = refl; lows = refl; plain = λ value b u. refl; real = refl; class = tt }, (record { is = refl; ends = refl; makes = refl; digits = refl; lows = refl; plain = λ value b u. refl; real = refl; class = tt }, (record { is = refl; ends = refl; makes = refl; digits = refl; lows = refl; plain = λ value b u. refl; real = refl; class = tt }, (record { is = refl; ends = refl; makes = refl; digits = refl; lows = refl; plain = λ value b u. refl; real = refl; class = tt }, (record { is = refl; ends = refl; makes = refl; digits = refl; lows = refl; plain = λ value b u. refl; real = refl; class = tt }, (record { is = refl; ends = refl; makes = refl; digits = refl; lows = refl; plain = λ value b u. refl; real = refl; class = tt }, (record { is = refl; ends = refl; makes = refl; digits = refl; lows = refl; plain = λ value b u. refl; real = refl; class = tt }, (record { is = refl; ends = refl; makes = refl; digits = refl; lows = refl; plain = λ value b u. refl; real = refl; class = tt }, (record { is = refl; ends = refl; makes = refl; digits = refl; lows = refl; plain = λ value b u. refl; real = refl; class = tt }, (record { is = refl; ends = refl; makes = refl; digits = refl; lows = refl; plain = λ value b u. refl; real = refl; class = tt }, (record { is = refl; ends = refl; makes = refl; digits = refl; lows = refl; plain = λ value b u. refl; real = refl; class = tt }, (record { is = refl; ends = refl; makes = refl; digits = refl; lows = refl; plain = λ value b u. refl; real = refl; class = tt }, (record { is = refl; ends = refl; makes = refl; digits = refl; lows = refl; plain = λ value b u. refl; real = refl; class = tt }, (record { is = refl; ends = refl; makes = refl; digits = refl; lows = refl; plain = λ value b u. refl; real = refl; class = tt }, (record { is = refl; ends = refl; makes = refl; digits = refl; lows = refl; plain = λ value b u. refl; real = refl; class = tt }, (record { is = refl; ends = refl; makes = refl; digits = refl; lows = refl; plain = λ value b u. refl; real = refl; class = tt }, (record { is = refl; ends = refl; makes = refl; digits = refl; lows = refl; plain = λ value b u. refl; real = refl; class = tt }, (record { is = refl; ends = refl; makes = refl; digits = refl; lows = refl; plain = λ value b u. refl; real = refl; class = tt }, (record { is = refl; ends = refl; makes = refl; digits = refl; lows = refl; plain = λ value b u. refl; real = refl; class = tt }, (record { is = refl; ends = refl; makes = refl; digits = refl; lows = refl; plain = λ value b u. refl; real = refl; class = tt }, (record { is = refl; ends = refl; makes = refl; digits = refl; lows = refl; plain = λ value b u. refl; real = refl; class = tt }, (record { is = refl; ends = refl; makes = refl; digits = refl; lows = refl; plain = λ value b u. refl; real = refl; class = tt }, (record { is = refl; ends = refl; makes = refl; digits = refl; lows = refl; plain = λ value b u. refl; real = refl; class = tt }, (record { is = refl; ends = refl; makes = refl; digits = refl; lows = refl; plain = λ value b u. refl; real = refl; class = tt }, (record { is = refl; ends = refl; makes = refl; digits = refl; lows = refl; plain = λ value b u. refl; real = refl; class = tt }, (record { is = refl; ends = refl; makes = refl; digits = refl; lows = refl; plain = λ value b u. refl; real = refl; class = tt }, (record { is = refl; ends = refl; makes = refl; digits = refl; lows = refl; plain = λ value b u. refl; real = refl; class = tt }, (record { is = refl; ends = refl; makes = refl; digits = refl; lows = refl; plain = λ value b u. refl; real = refl; class = tt }, (record { is = refl; ends = refl; makes = refl; digits = refl; lows = refl; plain = λ value b u. refl; real = refl; class = tt }, (record { is = refl; ends = refl; makes = refl; digits = refl; lows = refl; plain = λ value b u. refl; real = refl; class = tt }, (record { is = refl; ends = refl; makes = refl; digits = refl; lows = refl; plain = λ value b u. refl; real = refl; class = tt }, (record { is = refl; ends = refl; makes = refl; digits = refl; lows = refl; plain = λ value b u. refl; real = refl; class = tt }, (record { is = refl; ends = refl; makes = refl; digits = refl; lows = refl; plain = λ value b u. refl; real = refl; class = tt }, (record { is = refl; ends = refl; makes = refl; digits = refl; lows = refl; plain = λ value b u. refl; real = refl; class = tt }, (record { is = refl; ends = refl; makes = refl; digits = refl; lows = refl; plain = λ value b u. refl; real = refl; class = tt }, (record { is = refl; ends = refl; makes = refl; digits = refl; lows = refl; plain = λ value b u. refl; real = refl; class = tt }, (record { is = refl; ends = refl; makes = refl; digits = refl; lows = refl; plain = λ value b u. refl; real = refl; class = tt }, (record { is = refl; ends = refl; makes = refl; digits = refl; lows = refl; plain = λ value b u. refl; real = refl; class = tt }, (record { is = refl; ends = refl; makes = refl; digits = refl; lows = refl; plain = λ value b u. refl; real = refl; class = tt }, (record { is = refl; ends = refl; makes = refl; digits = refl; lows = refl; plain = λ value b u. refl; real = refl; class = tt }, (record { is = refl; ends = refl; makes = refl; digits = refl; lows = refl; plain = λ value b u. refl; real = refl; class = tt }, (record { is = refl; ends = refl; makes = refl; digits = refl; lows = refl; plain = λ value b u. refl; real = refl; class = tt }, (record { is = refl; ends = refl; makes = refl; digits = refl; lows = refl; plain = λ value b u. refl; real = refl; class = tt }, (record { is = refl; ends = refl; makes = refl; digits = refl; lows = refl; plain = λ value b u. refl; real = refl; class = tt }, (record { is = refl; ends = refl; makes = refl; digits = refl; lows = refl; plain = λ value b u. refl; real = refl; class = tt }, (record { is = refl; ends = refl; makes = refl; digits = refl; lows = refl; plain = λ value b u. refl; real = refl; class = tt }, (record { is = refl; ends = refl; makes = refl; digits = refl; lows = refl; plain = λ value b u. refl; real = refl; class = tt }, (record { is = refl; ends = refl; makes = refl; digits = refl; lows = refl; plain = λ value b u. refl; real = refl; class = tt }, (record { is = refl; ends = refl; makes = refl; digits = refl; lows = refl; plain = λ value b u. refl; real = refl; class = tt }, (record { is = refl; ends = refl; makes = refl; digits = refl; lows = refl; plain = λ value b u. refl; real = refl; class = tt }, (record { is = refl; ends = refl; makes = refl; digits = refl; lows = refl; plain = λ value b u. refl; real = refl; class = tt }, (record { is = refl; ends = refl; makes = refl; digits = refl; lows = refl; plain = λ value b u. refl; real = refl; class = tt }, (record { is = refl; ends = refl; makes = refl; digits = refl; lows = refl; plain = λ value b u. refl; real = refl; class = tt }, (record { is = refl; ends = refl; makes = refl; digits = refl; lows = refl; plain = λ value b u. refl; real = refl; class = tt }, (record { is = refl; ends = refl; makes = refl; digits = refl; lows = refl; plain = λ value b u. refl; real = refl; class = tt }, (record { is = refl; ends = refl; makes = refl; digits = refl; lows = refl; plain = λ value b u. refl; real = refl; class = tt }, (record { is = refl; ends = refl; makes = refl; digits = refl; lows = refl; plain = λ value b u. refl; real = refl; class = tt }, (record { is = refl; ends = refl; makes = refl; digits = refl; lows = refl; plain = λ value b u. refl; real = refl; class = tt }, (record { is = refl; ends = refl; makes = refl; digits = refl; lows = refl; plain = λ value b u. refl; real = refl; class = tt }, (record { is = refl; ends = refl; makes = refl; digits = refl; lows = refl; plain = λ value b u. refl; real = refl; class = tt }, (record { is = refl; ends = refl; makes = refl; digits = refl; lows = refl; plain = λ value b u. refl; real = refl; class = tt }, (record { is = refl; ends = refl; makes = refl; digits = refl; lows = refl; plain = λ value b u. refl; real = refl; class = tt }, (record { is = refl; ends = refl; makes = refl; digits = refl; lows = refl; plain = λ value b u. refl; real = refl; class = tt }, (record { is = refl; ends = refl; makes = refl; digits = refl; lows = refl; plain = λ value b u. refl; real = refl; class = tt }, (record { is = refl; ends = refl; makes = refl; digits = refl; lows = refl; plain = λ value b u. refl; real = refl; class = tt }, (record { is = refl; ends = refl; makes = refl; digits = refl; lows = refl; plain = λ value b u. refl; real = refl; class = tt }, (record { is = refl; ends = refl; makes = refl; digits = refl; lows = refl; plain = λ value b u. refl; real = refl; class = tt }, (record { is = refl; ends = refl; makes = refl; digits = refl; lows = refl; plain = λ value b u. refl; real = refl; class = tt }, (record { is = refl; ends = refl; makes = refl; digits = refl; lows = refl; plain = λ value b u. refl; real = refl; class = tt }, (record { is = refl; ends = refl; makes = refl; digits = refl; lows = refl; plain = λ value b u. refl; real = refl; class = tt }, (record { is = refl; ends = refl; makes = refl; digits = refl; lows = refl; plain = λ value b u. refl; real = refl; class = tt }, (record { is = refl; ends = refl; makes = refl; digits = refl; lows = refl; plain = λ value b u. refl; real = refl; class = tt }, (record { is = refl; ends = refl; makes = refl; digits = refl; lows = refl; plain = λ value b u. refl; real = refl; class = tt }, (record { is = refl; ends = refl; makes = refl; digits = refl; lows = refl; plain = λ value b u. refl; real = refl; class = tt }, (record { is = refl; ends = refl; makes = refl; digits = refl; lows = refl; plain = λ value b u. refl; real = refl; class = tt }, (record { is = refl; ends = refl; makes = refl; digits = refl; lows = refl; plain = λ value b u. refl; real = refl; class = tt }, (record { is = refl; ends = refl; makes = refl; digits = refl; lows = refl; plain = λ value b u. refl; real = refl; class = tt }, (record { is = refl; ends = refl; makes = refl; digits = refl; lows = refl; plain = λ value b u. refl; real = refl; class = tt }, (record { is = refl; ends = refl; makes = refl; digits = refl; lows = refl; plain = λ value b u. refl; real = refl; class = tt }, (record { is = refl; ends = refl; makes = refl; digits = refl; lows = refl; plain = λ value b u. refl; real = refl; class = tt }, (record { is = refl; ends = refl; makes = refl; digits = refl; lows = refl; plain = λ value b u. refl; real = refl; class = tt }, (record { is = refl; ends = refl; makes = refl; digits = refl; lows = refl; plain = λ value b u. refl; real = refl; class = tt }, (record { is = refl; ends = refl; makes = refl; digits = refl; lows = refl; plain = λ value b u. refl; real = refl; class = tt }, (record { is = refl; ends = refl; makes = refl; digits = refl; lows = refl; plain = λ value b u. refl; real = refl; class = tt }, (record { is = refl; ends = refl; makes = refl; digits = refl; lows = refl; plain = λ value b u. refl; real = refl; class = tt }, (record { is = refl; ends = refl; makes = refl; digits = refl; lows = refl; plain = λ value b u. refl; real = refl; class = tt }, (record { is = refl; ends = refl; makes = refl; digits = refl; lows = refl; plain = λ value b u. refl; real = refl; class = tt }, (record { is = refl; ends = refl; makes = refl; digits = refl; lows = refl; plain = λ value b u. refl; real = refl; class = tt }, (record { is = refl; ends = refl; makes = refl; digits = refl; lows = refl; plain = λ value b u. refl; real = refl; class = tt }, (record { is = refl; ends = refl; makes = refl; digits = refl; lows = refl; plain = λ value b u. refl; real = refl; class = tt }, (record { is = refl; ends = refl; makes = refl; digits = refl; lows = refl; plain = λ value b u. refl; real = refl; class = tt }, (record { is = refl; ends = refl; makes = refl; digits = refl; lows = refl; plain = λ value b u. refl; real = refl; class = tt }, (record { is = refl; ends = refl; makes = refl; digits = refl; lows = refl; plain = λ value b u. refl; real = refl; class = tt }, (record { is = refl; ends = refl; makes = refl; digits = refl; lows = refl; plain = λ value b u. refl; real = refl; class = tt }, (record { is = refl; ends = refl; makes = refl; digits = refl; lows = refl; plain = λ value b u. refl; real = refl; class = tt }, (record { is = refl; ends = refl; makes = refl; digits = refl; lows = refl; plain = λ value b u. refl; real = refl; class = tt }, (record { is = refl; ends = refl; makes = refl; digits = refl; lows = refl; plain = λ value b u. refl; real = refl; class = tt }, (record { is = refl; ends = refl; makes = refl; digits = refl; lows = refl; plain = λ value b u. refl; real = refl; class = tt }, (record { is = refl; ends = refl; makes = refl; digits = refl; lows = refl; plain = λ value b u. refl; real = refl; class = tt }, (record { is = refl; ends = refl; makes = refl; digits = refl; lows = refl; plain = λ value b u. refl; real = refl; class = tt }, (record { is = refl; ends = refl; makes = refl; digits = refl; lows = refl; plain = λ value b u. refl; real = refl; class = tt }, (record { is = refl; ends = refl; makes = refl; digits = refl; lows = refl; plain = λ value b u. refl; real = refl; class = tt }, (record { is = refl; ends = refl; makes = refl; digits = refl; lows = refl; plain = λ value b u. refl; real = refl; class = tt }, (record { is = refl; ends = refl; makes = refl; digits = refl; lows = refl; plain = λ value b u. refl; real = refl; class = tt }, (record { is = refl; ends = refl; makes = refl; digits = refl; lows = refl; plain = λ value b u. refl; real = refl; class = tt }, (record { is = refl; ends = refl; makes = refl; digits = refl; lows = refl; plain = λ value b u. refl; real = refl; class = tt }, (record { is = refl; ends = refl; makes = refl; digits = refl; lows = refl; plain = λ value b u. refl; real = refl; class = tt }, (record { is = refl; ends = refl; makes = refl; digits = refl; lows = refl; plain = λ value b u. refl; real = refl; class = tt }, (record { is = refl; ends = refl; makes = refl; digits = refl; lows = refl; plain = λ value b u. refl; real = refl; class = tt }, (record { is = refl; ends = refl; makes = refl; digits = refl; lows = refl; plain = λ value b u. refl; real = refl; class = tt }, (record { is = refl; ends = refl; makes = refl; digits = refl; lows = refl; plain = λ value b u. refl; real = refl; class = tt }, (record { is = refl; ends = refl; makes = refl; digits = refl; lows = refl; plain = λ value b u. refl; real = refl; class = tt }, (record { is = refl; ends = refl; makes = refl; digits = refl; lows = refl; plain = λ value b u. refl; real = refl; class = tt }, (record { is = refl; ends = refl; makes = refl; digits = refl; lows = refl; plain = λ value b u. refl; real = refl; class = tt }, (record { is = refl; ends = refl; makes = refl; digits = refl; lows = refl; plain = λ value b u. refl; real = refl; class = tt }, (record { is = refl; ends = refl; makes = refl; digits = refl; lows = refl; plain = λ value b u. refl; real = refl; class = tt }, (record { is = refl; ends = refl; makes = refl; digits = refl; lows = refl; plain = λ value b u. refl; real = refl; class = tt }, (record { is = refl; ends = refl; makes = refl; digits = refl; lows = refl; plain = λ value b u. refl; real = refl; class = tt }, (record { is = refl; ends = refl; makes = refl; digits = refl; lows = refl; plain = λ value b u. refl; real = refl; class = tt }, (record { is = refl; ends = refl; makes = refl; digits = refl; lows = refl; plain = λ value b u. refl; real = refl; class = tt }, (record { is = refl; ends = refl; makes = refl; digits = refl; lows = refl; plain = λ value b u. refl; real = refl; class = tt }, (record { is = refl; ends = refl; makes = refl; digits = refl; lows = refl; plain = λ value b u. refl; real = refl; class = tt }, (record { is = refl; ends = refl; makes = refl; digits = refl; lows = refl; plain = λ value b u. refl; real = refl; class = tt }, (record { is = refl; ends = refl; makes = refl; digits = refl; lows = refl; plain = λ value b u. refl; real = refl; class = tt }, (record { is = refl; ends = refl; makes = refl; digits = refl; lows = refl; plain = λ value b u. refl; real = refl; class = tt }, (record { is = refl; ends = refl; makes = refl; digits = refl; lows = refl; plain = λ value b u. refl; real = refl; class = tt }, (record { is = refl; ends = refl; makes = refl; digits = refl; lows = refl; plain = λ value b u. refl; real = refl; class = tt }, (record { is = refl; ends = refl; makes = refl; digits = refl; lows = refl; plain = λ value b u. refl; real = refl; class = tt }, (record { is = refl; ends = refl; makes = refl; digits = refl; lows = refl; plain = λ value b u. refl; real = refl; class = tt }, (record { is = refl; ends = refl; makes = refl; digits = refl; lows = refl; plain = λ value b u. refl; real = refl; class = tt }, (record { is = refl; ends = refl; makes = refl; digits = refl; lows = refl; plain = λ value b u. refl; real = refl; class = tt }, (record { is = refl; ends = refl; makes = refl; digits = refl; lows = refl; plain = λ value b u. refl; real = refl; class = tt }, (record { is = refl; ends = refl; makes = refl; digits = refl; lows = refl; plain = λ value b u. refl; real = refl; class = tt }, (record { is = refl; ends = refl; makes = refl; digits = refl; lows = refl; plain = λ value b u. refl; real = refl; class = tt }, (record { is = refl; ends = refl; makes = refl; digits = refl; lows = refl; plain = λ value b u. refl; real = refl; class = tt }, (record { is = refl; ends = refl; makes = refl; digits = refl; lows = refl; plain = λ value b u. refl; real = refl; class = tt }, (record { is = refl; ends = refl; makes = refl; digits = refl; lows = refl; plain = λ value b u. refl; real = refl; class = tt }, (record { is = refl; ends = refl; makes = refl; digits = refl; lows = refl; plain = λ value b u. refl; real = refl; class = tt }, (record { is = refl; ends = refl; makes = refl; digits = refl; lows = refl; plain = λ value b u. refl; real = refl; class = tt }, (record { is = refl; ends = refl; makes = refl; digits = refl; lows = refl; plain = λ value b u. refl; real = refl; class = tt }, (record { is = refl; ends = refl; makes = refl; digits = refl; lows = refl; plain = λ value b u. refl; real = refl; class = tt }, (record { is = refl; ends = refl; makes = refl; digits = refl; lows = refl; plain = λ value b u. refl; real = refl; class = tt }, (record { is = refl; ends = refl; makes = refl; digits = refl; lows = refl; plain = λ value b u. refl; real = refl; class = tt }, (record { is = refl; ends = refl; makes = refl; digits = refl; lows = refl; plain = λ value b u. refl; real = refl; class = tt }, (record { is = refl; ends = refl; makes = refl; digits = refl; lows = refl; plain = λ value b u. refl; real = refl; class = tt }, (record { is = refl; ends = refl; makes = refl; digits = refl; lows = refl; plain = λ value b u. refl; real = refl; class = tt }, (record { is = refl; ends = refl; makes = refl; digits = refl; lows = refl; plain = λ value b u. refl; real = refl; class = tt }, (record { is = refl; ends = refl; makes = refl; digits = refl; lows = refl; plain = λ value b u. refl; real = refl; class = tt }, (record { is = refl; ends = refl; makes = refl; digits = refl; lows = refl; plain = λ value b u. refl; real = refl; class = tt }, (record { is = refl; ends = refl; makes = refl; digits = refl; lows = refl; plain = λ value b u. refl; real = refl; class = tt }, (record { is = refl; ends = refl; makes = refl; digits = refl; lows = refl; plain = λ value b u. refl; real = refl; class = tt }, (record { is = refl; ends = refl; makes = refl; digits = refl; lows = refl; plain = λ value b u. refl; real = refl; class = tt }, (record { is = refl; ends = refl; makes = refl; digits = refl; lows = refl; plain = λ value b u. refl; real = refl; class = tt }, (record { is = refl; ends = refl; makes = refl; digits = refl; lows = refl; plain = λ value b u. refl; real = refl; class = tt }, (record { is = refl; ends = refl; makes = refl; digits = refl; lows = refl; plain = λ value b u. refl; real = refl; class = tt }, (record { is = refl; ends = refl; makes = refl; digits = refl; lows = refl; plain = λ value b u. refl; real = refl; class = tt }, (record { is = refl; ends = refl; makes = refl; digits = refl; lows = refl; plain = λ value b u. refl; real = refl; class = tt }, (record { is = refl; ends = refl; makes = refl; digits = refl; lows = refl; plain = λ value b u. refl; real = refl; class = tt }, (record { is = refl; ends = refl; makes = refl; digits = refl; lows = refl; plain = λ value b u. refl; real = refl; class = tt }, (record { is = refl; ends = refl; makes = refl; digits = refl; lows = refl; plain = λ value b u. refl; real = refl; class = tt }, (record { is = refl; ends = refl; makes = refl; digits = refl; lows = refl; plain = λ value b u. refl; real = refl; class = tt }, (record { is = refl; ends = refl; makes = refl; digits = refl; lows = refl; plain = λ value b u. refl; real = refl; class = tt }, (record { is = refl; ends = refl; makes = refl; digits = refl; lows = refl; plain = λ value b u. refl; real = refl; class = tt }, (record { is = refl; ends = refl; makes = refl; digits = refl; lows = refl; plain = λ value b u. refl; real = refl; class = tt }, (record { is = refl; ends = refl; makes = refl; digits = refl; lows = refl; plain = λ value b u. refl; real = refl; class = tt }, (record { is = refl; ends = refl; makes = refl; digits = refl; lows = refl; plain = λ value b u. refl; real = refl; class = tt }, (record { is = refl; ends = refl; makes = refl; digits = refl; lows = refl; plain = λ value b u. refl; real = refl; class = tt }, (record { is = refl; ends = refl; makes = refl; digits = refl; lows = refl; plain = λ value b u. refl; real = refl; class = tt }, (record { is = refl; ends = refl; makes = refl; digits = refl; lows = refl; plain = λ value b u. refl; real = refl; class = tt }, (record { is = refl; ends = refl; makes = refl; digits = refl; lows = refl; plain = λ value b u. refl; real = refl; class = tt }, (record { is = refl; ends = refl; makes = refl; digits = refl; lows = refl; plain = λ value b u. refl; real = refl; class = tt }, (record { is = refl; ends = refl; makes = refl; digits = refl; lows = refl; plain = λ value b u. refl; real = refl; class = tt }, (record { is = refl; ends = refl; makes = refl; digits = refl; lows = refl; plain = λ value b u. refl; real = refl; class = tt }, (record { is = refl; ends = refl; makes = refl; digits = refl; lows = refl; plain = λ value b u. refl; real = refl; class = tt }, (record { is = refl; ends = refl; makes = refl; digits = refl; lows = refl; plain = λ value b u. refl; real = refl; class = tt }, (record { is = refl; ends = refl; makes = refl; digits = refl; lows = refl; plain = λ value b u. refl; real = refl; class = tt }, (record { is = refl; ends = refl; makes = refl; digits = refl; lows = refl; plain = λ value b u. refl; real = refl; class = tt }, (record { is = refl; ends = refl; makes = refl; digits = refl; lows = refl; plain = λ value b u. refl; real = refl; class = tt }, (record { is = refl; ends = refl; makes = refl; digits = refl; lows = refl; plain = λ value b u. refl; real = refl; class = tt }, (record { is = refl; ends = refl; makes = refl; digits = refl; lows = refl; plain = λ value b u. refl; real = refl; class = tt }, (record { is = refl; ends = refl; makes = refl; digits = refl; lows = refl; plain = λ value b u. refl; real = refl; class = tt }, (record { is = refl; ends = refl; makes = refl; digits = refl; lows = refl; plain = λ value b u. refl; real = refl; class = tt }, (record { is = refl; ends = refl; makes = refl; digits = refl; lows = refl; plain = λ value b u. refl; real = refl; class = tt }, (record { is = refl; ends = refl; makes = refl; digits = refl; lows = refl; plain = λ value b u. refl; real = refl; class = tt }, (record { is = refl; ends = refl; makes = refl; digits = refl; lows = refl; plain = λ value b u. refl; real = refl; class = tt }, (record { is = refl; ends = refl; makes = refl; digits = refl; lows = refl; plain = λ value b u. refl; real = refl; class = tt }, (record { is = refl; ends = refl; makes = refl; digits = refl; lows = refl; plain = λ value b u. refl; real = refl; class = tt }, (record { is = refl; ends = refl; makes = refl; digits = refl; lows = refl; plain = λ value b u. refl; real = refl; class = tt }, (record { is = refl; ends = refl; makes = refl; digits = refl; lows = refl; plain = λ value b u. refl; real = refl; class = tt }, (record { is = refl; ends = refl; makes = refl; digits = refl; lows = refl; plain = λ value b u. refl; real = refl; class = tt }, (record { is = refl; ends = refl; makes = refl; digits = refl; lows = refl; plain = λ value b u. refl; real = refl; class = tt }, (record { is = refl; ends = refl; makes = refl; digits = refl; lows = refl; plain = λ value b u. refl; real = refl; class = tt }, (record { is = refl; ends = refl; makes = refl; digits = refl; lows = refl; plain = λ value b u. refl; real = refl; class = tt }, (record { is = refl; ends = refl; makes = refl; digits = refl; lows = refl; plain = λ value b u. refl; real = refl; class = tt }, (record { is = refl; ends = refl; makes = refl; digits = refl; lows = refl; plain = λ value b u. refl; real = refl; class = tt }, (record { is = refl; ends = refl; makes = refl; digits = refl; lows = refl; plain = λ value b u. refl; real = refl; class = tt }, (record { is = refl; ends = refl; makes = refl; digits = refl; lows = refl; plain = λ value b u. refl; real = refl; class = tt }, (record { is = refl; ends = refl; makes = refl; digits = refl; lows = refl; plain = λ value b u. refl; real = refl; class = tt }, (record { is = refl; ends = refl; makes = refl; digits = refl; lows = refl; plain = λ value b u. refl; real = refl; class = tt }, (record { is = refl; ends = refl; makes = refl; digits = refl; lows = refl; plain = λ value b u. refl; real = refl; class = tt }, (record { is = refl; ends = refl; makes = refl; digits = refl; lows = refl; plain = λ value b u. refl; real = refl; class = tt }, (record { is = refl; ends = refl; makes = refl; digits = refl; lows = refl; plain = λ value b u. refl; real = refl; class = tt }, (record { is = refl; ends = refl; makes = refl; digits = refl; lows = refl; plain = λ value b u. refl; real = refl; class = tt }, (record { is = refl; ends = refl; makes = refl; digits = refl; lows = refl; plain = λ value b u. refl; real = refl; class = tt }, (record { is = refl; ends = refl; makes = refl; digits = refl; lows = refl; plain = λ value b u. refl; real = refl; class = tt }, (record { is = refl; ends = refl; makes = refl; digits = refl; lows = refl; plain = λ value b u. refl; real = refl; class = tt }, (record { is = refl; ends = refl; makes = refl; digits = refl; lows = refl; plain = λ value b u. refl; real = refl; class = tt }, (record { is = refl; ends = refl; makes = refl; digits = refl; lows = refl; plain = λ value b u. refl; real = refl; class = tt }, (record { is = refl; ends = refl; makes = refl; digits = refl; lows = refl; plain = λ value b u. refl; real = refl; class = tt }, (record { is = refl; ends = refl; makes = refl; digits = refl; lows = refl; plain = λ value b u. refl; real = refl; class = tt }, (record { is = refl; ends = refl; makes = refl; digits = refl; lows = refl; plain = λ value b u. refl; real = refl; class = tt }, (record { is = refl; ends = refl; makes = refl; digits = refl; lows = refl; plain = λ value b u. refl; real = refl; class = tt }, (record { is = refl; ends = refl; makes = refl; digits = refl; lows = refl; plain = λ value b u. refl; real = refl; class = tt }, (record { is = refl; ends = refl; makes = refl; digits = refl; lows = refl; plain = λ value b u. refl; real = refl; class = tt }, (record { is = refl; ends = refl; makes = refl; digits = refl; lows = refl; plain = λ value b u. refl; real = refl; class = tt }, (record { is = refl; ends = refl; makes = refl; digits = refl; lows = refl; plain = λ value b u. refl; real = refl; class = tt }, (record { is = refl; ends = refl; makes = refl; digits = refl; lows = refl; plain = λ value b u. refl; real = refl; class = tt }, (record { is = refl; ends = refl; makes = refl; digits = refl; lows = refl; plain = λ value b u. refl; real = refl; class = tt }, (record { is = refl; ends = refl; makes = refl; digits = refl; lows = refl; plain = λ value b u. refl; real = refl; class = tt }, (record { is = refl; ends = refl; makes = refl; digits = refl; lows = refl; plain = λ value b u. refl; real = refl; class = tt }, (record { is = refl; ends = refl; makes = refl; digits = refl; lows = refl; plain = λ value b u. refl; real = refl; class = tt }, (record { is = refl; ends = refl; makes = refl; digits = refl; lows = refl; plain = λ value b u. refl; real = refl; class = tt }, (record { is = refl; ends = refl; makes = refl; digits = refl; lows = refl; plain = λ value b u. refl; real = refl; class = tt }, (record { is = refl; ends = refl; makes = refl; digits = refl; lows = refl; plain = λ value b u. refl; real = refl; class = tt }, (record { is = refl; ends = refl; makes = refl; digits = refl; lows = refl; plain = λ value b u. refl; real = refl; class = tt }, (record { is = refl; ends = refl; makes = refl; digits = refl; lows = refl; plain = λ value b u. refl; real = refl; class = tt }, tt))))))))))))))))))))))))))))))))))))))))))))))))))))))))))))))))))))))))))))))))))))))))))))))))))))))))))))))))))))))))))))))))))))))))))))))))))))))))))))))))))))))))))))))))))))))))))))))))))))))))))))))))))))))))))))))))))))))))))))))))))))))))))))))))

pub told : (c : ℕ) → c < 256 → Says c
told c h = pick Says 256 0 c every (omega arith) (omega arith)
