-- Where in the characters a refusal is: tokens with the place where each begins, which without the places are the tokens of Letters.
use Rattle.std.specs.Prelude.{ℕ, zero, suc, ◌-◌, ◌≡◌, refl, true, false, List, [], ◌∷◌, ◌++◌, length, eqb}
use Rattle.std.proofs.Common.{arith, sym, ap, ◌∙◌}
use Rattle.std.proofs.Math.Option.{Option, none, some}
use Rattle.notation_rules.specs.Tokens.{Cause, Outcome, done, refused, Raw, Token}
use Rattle.notation_rules.specs.Letters.{Begun, full, kind, goes_on, begin, tokens, lex, print, tokens_of}
use Rattle.notation_rules.specs.LettersBack.{SpelledAll, tokens_back}
use Rattle.notation_rules.specs.Names.{resolve, calls}

-- A token, and the number of characters left where it begins.
pub data Spot : Type 0 where
  ◌from◌ : Raw → ℕ → Spot

infix 68 ◌from◌
unfoldable pub put : List Raw → ℕ → List Spot → List Spot
put [] f xs = xs
put (t ∷ ts) f xs = t from f ∷ put ts f xs

-- Letters' walk, with the place where what was begun begins.
unfoldable pub spots : Begun → (since : ℕ) → List ℕ → List Spot
unfolding kind goes_on begin tokens put
spots s f [] = put (tokens s) f []
spots s f (c ∷ cs) = elim (goes_on s c) [ none ↦ put (tokens s) f (spots (begin (kind c)) (suc (length cs)) cs) | some s' ↦ spots s' f cs ]

unfoldable pub bare : List Spot → List Raw
bare [] = []
bare ((t from f) ∷ xs) = t ∷ bare xs

-- ---- The line and the column, each from 1, of the i-th character.
unfoldable pub line : List ℕ → ℕ → ℕ
line [] i = 1
line (c ∷ cs) zero = 1
line (c ∷ cs) (suc i) = elim (eqb c 10) [ true ↦ suc (line cs i) | false ↦ line cs i ]

unfoldable pub column_from : ℕ → List ℕ → ℕ → ℕ
column_from n [] i = n
column_from n (c ∷ cs) zero = n
column_from n (c ∷ cs) (suc i) = elim (eqb c 10) [ true ↦ column_from 1 cs i | false ↦ column_from (suc n) cs i ]

unfoldable pub column : List ℕ → ℕ → ℕ
unfolding column_from
column = column_from 1

-- ---- A reader of tokens, whose refusals count the tokens left, as a reader of a text.
pub data Told (A : Type 0) : Type 0 where
  good : A → Told A
  faulty : Cause → (line column : ℕ) → Told A

-- How many characters are left where the r-th token from the end begins; none at the end of the text.
unfoldable pub left : ℕ → List Spot → ℕ
left r [] = 0
left r ((t from f) ∷ xs) = elim (eqb r (suc (length xs))) [ true ↦ f | false ↦ left r xs ]

unfoldable pub told : {A : Type 0} → List ℕ → List Spot → Outcome A → Told A
unfolding left line column
told cs xs (done a) = good a
told cs xs (refused c r) = faulty c (line cs (length cs - left r xs)) (column cs (length cs - left r xs))

unfoldable pub from_spots : {A : Type 0} → (List Token → Outcome A) → List ℕ → List Spot → Told A
unfolding told bare resolve
from_spots read cs xs = told cs xs (read (resolve [] (bare xs)))

unfoldable pub from_text : {A : Type 0} → (List Token → Outcome A) → List ℕ → Told A
unfolding from_spots spots
from_text read cs = from_spots read cs (spots (full []) (length cs) cs)

-- ---- Without the places it is Letters' walk.
bare_put : (ts : List Raw) (f : ℕ) (xs : List Spot) → bare (put ts f xs) ≡ ts ++ bare xs
unfolding bare put
bare_put [] f xs = refl
bare_put (t ∷ ts) f xs = ap (λ us. t ∷ us) (bare_put ts f xs)

bare_end : (ts : List Raw) (f : ℕ) → bare (put ts f []) ≡ ts
unfolding bare put
bare_end [] f = refl
bare_end (t ∷ ts) f = ap (λ us. t ∷ us) (bare_end ts f)

pub bare_spots : (s : Begun) (f : ℕ) (cs : List ℕ) → bare (spots s f cs) ≡ lex s cs
unfolding spots lex
bare_spots s f [] = bare_end (tokens s) f
bare_spots s f (c ∷ cs) = go (goes_on s c) (λ u g. bare_spots u g cs)
  where
    go : (o : Option Begun) → ((u : Begun) (g : ℕ) → bare (spots u g cs) ≡ lex u cs)
        → bare (elim o as (λ _. List Spot) [ none ↦ put (tokens s) f (spots (begin (kind c)) (suc (length cs)) cs) | some s' ↦ spots s' f cs ])
        ≡ elim o as (λ _. List Raw) [ none ↦ tokens s ++ lex (begin (kind c)) cs | some s' ↦ lex s' cs ]
    go none i = bare_put (tokens s) f (spots (begin (kind c)) (suc (length cs)) cs) ∙ ap (λ us. tokens s ++ us) (i (begin (kind c)) (suc (length cs)))
    go (some s') i = i s' f

-- What a reader reads of tokens it reads of their text.
pub text_back : {A : Type 0} (read : List Token → Outcome A) (a : A) (ts : List Token) → SpelledAll (calls ts) → resolve [] (calls ts) ≡ ts → read ts ≡ done a
    → from_text read (print (calls ts)) ≡ good a
unfolding from_text from_spots told tokens_of
text_back read a ts s n h =
    let cs : List ℕ = print (calls ts) in
    ap (told cs (spots (full []) (length cs) cs))
    (ap (λ rs. read (resolve [] rs)) (bare_spots (full []) (length cs) cs ∙ tokens_back (calls ts) s) ∙ ap read n ∙ h)

-- What a text is read as was read of its tokens.
pub from_tokens : {A : Type 0} (read : List Token → Outcome A) (cs : List ℕ) (a : A) → from_text read cs ≡ good a → read (resolve [] (tokens_of cs)) ≡ done a
unfolding from_text from_spots tokens_of told
from_tokens {A} read cs a h = ap (λ rs. read (resolve [] rs)) (sym_bare cs) ∙ go (read (resolve [] (bare (spots (full []) (length cs) cs)))) h
  where
    sym_bare : (us : List ℕ) → lex (full []) us ≡ bare (spots (full []) (length us) us)
    sym_bare us = sym (bare_spots (full []) (length us) us)

    go : (o : Outcome A) → told cs (spots (full []) (length cs) cs) o ≡ good a → o ≡ done a
    go (done b) e = let z : b ≡ a = cc in ap done z
    go (refused c r) e = let z : ◌≡◌ {A = ℕ} 0 1 = cc in absurd (omega arith)
