-- What is printed of tokens is read back as them.
use Prim.Native.Nat.{ℕ, zero, suc, ◌+◌, ◌*◌, ◌-◌, ◌/◌, ◌%◌, ◌≤◌, ◌<◌}
use Rattle.std.proofs.Common.{arith, mod-lt, ◌∙◌, le→leb}
use Rattle.std.proofs.Math.Nat.{div-add-mod'}
use Rattle.std.specs.Prelude.{◌≡◌, refl, Bool, true, false, not, ◌&&◌, ◌||◌, List, [], ◌∷◌, ◌++◌, leb, T}
use Rattle.std.proofs.Math.Path.{ap}
use Rattle.std.proofs.Math.Option.{Option, none, some}
use Rattle.notation_rules.specs.Tokens.{consing, joining, anding, oring}
use Rattle.notation_rules.specs.Tokens.{underscore, hash, bang, plus, minus, comma, opening, closing, left, right, anything, integers, list_of, multiset_of, matching, by, with'}
use Rattle.notation_rules.specs.Tokens.{Raw, mark, sign, binds, uses, number, wrong, code}
use Rattle.notation_rules.specs.Letters.{last_digits, decimal, spell_mark, spell_sign, spell, glue_after, glue_before, is_minus, is_use, is_number, joined, spaced, print_rest, print}
use Rattle.notation_rules.specs.Letters.{pluses, dashes, Kind, gap, dollar, low, digit, letter, twin, symbol, find, symbols, is_letter, is_digit, kind}
use Rattle.notation_rules.specs.Letters.{Begun, full, digits, huge, word, binder, first, by_digit, is_comment, in_comment, takes, goes_on, begin}
use Rattle.notation_rules.specs.Letters.{tokens, lex, tokens_of, number_limit}
use Rattle.notation_rules.specs.PatternsBack.{test}

-- ---- What can be spelled: names of one letter, numbers up to the limit.
unfoldable pub Lettered : List ℕ → Type 0
unfolding is_letter
Lettered [] = T false
Lettered (c ∷ []) = T (is_letter c)
Lettered (c ∷ (d ∷ w)) = T false

unfoldable pub Spelled : Raw → Type 0
unfolding Lettered
Spelled (mark m) = T true
Spelled (sign s) = T true
Spelled (binds w) = Lettered w
Spelled (uses w) = Lettered w
Spelled (number n) = n ≤ number_limit
Spelled (wrong c) = T false

unfoldable pub SpelledAll : List Raw → Type 0
unfolding Spelled
SpelledAll [] = T true
SpelledAll (t ∷ ts) = Spelled t × SpelledAll ts

-- ---- Digits and letters.
kind_digit : (d : ℕ) → d < 10 → kind (48 + d) ≡ digit d
unfolding kind
kind_digit zero h = refl
kind_digit (suc zero) h = refl
kind_digit (suc (suc zero)) h = refl
kind_digit (suc (suc (suc zero))) h = refl
kind_digit (suc (suc (suc (suc zero)))) h = refl
kind_digit (suc (suc (suc (suc (suc zero))))) h = refl
kind_digit (suc (suc (suc (suc (suc (suc zero)))))) h = refl
kind_digit (suc (suc (suc (suc (suc (suc (suc zero))))))) h = refl
kind_digit (suc (suc (suc (suc (suc (suc (suc (suc zero)))))))) h = refl
kind_digit (suc (suc (suc (suc (suc (suc (suc (suc (suc zero))))))))) h = refl
kind_digit (suc (suc (suc (suc (suc (suc (suc (suc (suc (suc d)))))))))) h = absurd (omega arith)

kind_letter : (c : ℕ) → T (is_letter c) → kind c ≡ letter c
unfolding kind
kind_letter c h = go (is_letter c) h
  where
    go : (b : Bool) → T b → ◌≡◌ {A = Kind} (elim b as (λ _. Kind) [ true ↦ letter c | false ↦ elim (is_digit c) as (λ _. Kind) [ true ↦ digit (c - 48) | false ↦ find symbols c ] ]) (letter c)
    go true h = refl
    go false h = absurd h

at : Begun → List ℕ → Kind → List Raw
at s cs k = elim (takes s k) as (λ _. List Raw) [ none ↦ tokens s ++ lex (begin k) cs | some s' ↦ lex s' cs ]

lex_at : (s : Begun) (c : ℕ) (cs : List ℕ) (k : Kind) → is_comment s ≡ false → kind c ≡ k → lex s (c ∷ cs) ≡ at s cs k
unfolding lex goes_on at
lex_at s c cs k o e =
    ap (λ b. elim (elim b as (λ _. Option Begun) [ true ↦ in_comment c | false ↦ takes s (kind c) ]) as (λ _. List Raw) [ none ↦ tokens s ++ lex (begin (kind c)) cs | some s' ↦ lex s' cs ]) o
    ∙ ap (at s cs) e

-- Where the digits of n lead, if a first digit d leads to `to d` and each further one as it must.
module _ (from : List ℕ → List Raw) (to : ℕ → List ℕ → List Raw)
    (start : (d : ℕ) (cs : List ℕ) → d < 10 → from ((48 + d) ∷ cs) ≡ to d cs)
    (more : (n d : ℕ) (cs : List ℕ) → d < 10 → n * 10 + d ≤ number_limit → to n ((48 + d) ∷ cs) ≡ to (n * 10 + d) cs) where
  lex_decimal : (most n : ℕ) (cs : List ℕ) → n ≤ most → n ≤ number_limit → from (last_digits most n cs) ≡ to n cs
  unfolding last_digits
  lex_decimal zero n cs h b = start n cs (omega arith)
  lex_decimal (suc most) n cs h b = test (λ us. from us ≡ to n cs) n 10 (λ l. start n cs l)
      (λ l. let e = div-add-mod' n 10 in
      lex_decimal most (n / 10) ((48 + n % 10) ∷ cs) (omega arith) (omega arith) ∙ more (n / 10) (n % 10) cs (mod-lt n (omega arith)) (omega arith)
      ∙ ap (λ k. to k cs) (div-add-mod' n 10))

lex_more : (n d : ℕ) (cs : List ℕ) → d < 10 → n * 10 + d ≤ number_limit → lex (digits n) ((48 + d) ∷ cs) ≡ lex (digits (n * 10 + d)) cs
unfolding at is_comment takes by_digit
lex_more n d cs h l = lex_at (digits n) (48 + d) cs (digit d) refl (kind_digit d h) ∙ go (leb (n * 10 + d) number_limit) (le→leb (n * 10 + d) number_limit l)
  where
    go : (b : Bool) → T b → elim (elim b as (λ _. Option Begun) [ true ↦ some (digits (n * 10 + d)) | false ↦ some huge ]) as (λ _. List Raw) [ none ↦ tokens (digits n) ++ lex (begin (digit d)) cs | some s' ↦ lex s' cs ]
        ≡ lex (digits (n * 10 + d)) cs
    go true h = refl
    go false h = absurd h

lex_number : (n : ℕ) (cs : List ℕ) → n ≤ number_limit → lex (full []) (decimal n cs) ≡ lex (digits n) cs
unfolding decimal at is_comment takes by_digit tokens begin
lex_number n cs h = lex_decimal (lex (full [])) (λ m us. lex (digits m) us) (λ d us l. lex_at (full []) (48 + d) us (digit d) refl (kind_digit d l)) lex_more n n cs (omega arith) h

lex_minus_number : (n : ℕ) (cs : List ℕ) → n ≤ number_limit → lex (first dashes) (decimal n cs) ≡ mark minus ∷ lex (digits n) cs
unfolding decimal at is_comment takes by_digit tokens begin
lex_minus_number n cs h = lex_decimal (lex (first dashes)) (λ m us. mark minus ∷ lex (digits m) us) (λ d us l. lex_at (first dashes) (48 + d) us (digit d) refl (kind_digit d l))
    (λ m d us l b. ap (λ ts. mark minus ∷ ts) (lex_more m d us l b)) n n cs (omega arith) h

-- ---- A token's spelling leads to what it begins.
unfoldable begun : Raw → Begun
begun (mark underscore) = full (mark underscore ∷ [])
begun (mark hash) = full (mark hash ∷ [])
begun (mark bang) = full (mark bang ∷ [])
begun (mark plus) = first pluses
begun (mark minus) = first dashes
begun (mark comma) = full (mark comma ∷ [])
begun (mark opening) = full (mark opening ∷ [])
begun (mark closing) = full (mark closing ∷ [])
begun (mark left) = full (mark left ∷ [])
begun (mark right) = full (mark right ∷ [])
begun (mark anything) = word (spell_mark anything)
begun (mark integers) = word (spell_mark integers)
begun (mark list_of) = word (spell_mark list_of)
begun (mark multiset_of) = word (spell_mark multiset_of)
begun (mark matching) = word (spell_mark matching)
begun (mark by) = word (spell_mark by)
begun (mark with') = word (spell_mark with')
begun (sign s) = full (sign s ∷ [])
begun (binds w) = binder w
begun (uses w) = word w
begun (number n) = digits n
begun (wrong c) = full (wrong c ∷ [])

lex_spell : (t : Raw) (cs : List ℕ) → Spelled t → lex (full []) (spell t cs) ≡ lex (begun t) cs
unfolding spell begun lex spell_mark spell_sign Spelled Lettered at
lex_spell (mark underscore) cs h = refl
lex_spell (mark hash) cs h = refl
lex_spell (mark bang) cs h = refl
lex_spell (mark plus) cs h = refl
lex_spell (mark minus) cs h = refl
lex_spell (mark comma) cs h = refl
lex_spell (mark opening) cs h = refl
lex_spell (mark closing) cs h = refl
lex_spell (mark left) cs h = refl
lex_spell (mark right) cs h = refl
lex_spell (mark anything) cs h = refl
lex_spell (mark integers) cs h = refl
lex_spell (mark list_of) cs h = refl
lex_spell (mark multiset_of) cs h = refl
lex_spell (mark matching) cs h = refl
lex_spell (mark by) cs h = refl
lex_spell (mark with') cs h = refl
lex_spell (sign consing) cs h = refl
lex_spell (sign joining) cs h = refl
lex_spell (sign anding) cs h = refl
lex_spell (sign oring) cs h = refl
lex_spell (binds []) cs h = absurd h
lex_spell (binds (c ∷ [])) cs h = lex_at (binder []) c cs (letter c) refl (kind_letter c h)
lex_spell (binds (c ∷ (d ∷ w))) cs h = absurd h
lex_spell (uses []) cs h = absurd h
lex_spell (uses (c ∷ [])) cs h = lex_at (full []) c cs (letter c) refl (kind_letter c h)
lex_spell (uses (c ∷ (d ∷ w))) cs h = absurd h
lex_spell (number n) cs h = lex_number n cs h
lex_spell (wrong c) cs h = absurd h

begun_is : (t : Raw) → Spelled t → tokens (begun t) ≡ t ∷ []
unfolding tokens begun Spelled Lettered
begun_is (mark underscore) h = refl
begun_is (mark hash) h = refl
begun_is (mark bang) h = refl
begun_is (mark plus) h = refl
begun_is (mark minus) h = refl
begun_is (mark comma) h = refl
begun_is (mark opening) h = refl
begun_is (mark closing) h = refl
begun_is (mark left) h = refl
begun_is (mark right) h = refl
begun_is (mark anything) h = refl
begun_is (mark integers) h = refl
begun_is (mark list_of) h = refl
begun_is (mark multiset_of) h = refl
begun_is (mark matching) h = refl
begun_is (mark by) h = refl
begun_is (mark with') h = refl
begun_is (sign s) h = refl
begun_is (binds []) h = absurd h
begun_is (binds (c ∷ [])) h = refl
begun_is (binds (c ∷ (d ∷ w))) h = absurd h
begun_is (uses []) h = absurd h
begun_is (uses (c ∷ [])) h = refl
begun_is (uses (c ∷ (d ∷ w))) h = absurd h
begun_is (number n) h = refl
begun_is (wrong c) h = refl

begun_open : (t : Raw) → is_comment (begun t) ≡ false
unfolding begun is_comment
begun_open (mark underscore) = refl
begun_open (mark hash) = refl
begun_open (mark bang) = refl
begun_open (mark plus) = refl
begun_open (mark minus) = refl
begun_open (mark comma) = refl
begun_open (mark opening) = refl
begun_open (mark closing) = refl
begun_open (mark left) = refl
begun_open (mark right) = refl
begun_open (mark anything) = refl
begun_open (mark integers) = refl
begun_open (mark list_of) = refl
begun_open (mark multiset_of) = refl
begun_open (mark matching) = refl
begun_open (mark by) = refl
begun_open (mark with') = refl
begun_open (sign s) = refl
begun_open (binds w) = refl
begun_open (uses w) = refl
begun_open (number n) = refl
begun_open (wrong c) = refl

-- At the end, and before a space.
lex_end : (t : Raw) → Spelled t → lex (begun t) [] ≡ t ∷ []
unfolding lex
lex_end t h = begun_is t h

lex_symbol : (t : Raw) (c : ℕ) (cs : List ℕ) (k : Kind) → Spelled t → takes (begun t) k ≡ none → kind c ≡ k → lex (begun t) (c ∷ cs) ≡ t ∷ lex (begin k) cs
unfolding at
lex_symbol t c cs k h e i = lex_at (begun t) c cs k (begun_open t) i
    ∙ ap (λ o. elim o as (λ _. List Raw) [ none ↦ tokens (begun t) ++ lex (begin k) cs | some s' ↦ lex s' cs ]) e
    ∙ ap (λ us. us ++ lex (begin k) cs) (begun_is t h)

-- Before a token that no other takes in.
lex_before : (t u : Raw) (cs : List ℕ) → Spelled t → T (glue_before u) → lex (begun t) (spell u cs) ≡ t ∷ lex (begun u) cs
unfolding spell glue_before spell_mark begun kind takes begin
lex_before t (mark underscore) cs s h = absurd h
lex_before t (mark hash) cs s h = absurd h
lex_before t (mark bang) cs s h = absurd h
lex_before t (mark plus) cs s h = absurd h
lex_before t (mark minus) cs s h = absurd h
lex_before t (mark comma) cs s h = lex_symbol t 44 cs (symbol (mark comma)) s refl refl
lex_before t (mark opening) cs s h = absurd h
lex_before t (mark closing) cs s h = lex_symbol t 41 cs (symbol (mark closing)) s refl refl
lex_before t (mark left) cs s h = absurd h
lex_before t (mark right) cs s h = lex_symbol t 93 cs (symbol (mark right)) s refl refl
lex_before t (mark anything) cs s h = absurd h
lex_before t (mark integers) cs s h = absurd h
lex_before t (mark list_of) cs s h = absurd h
lex_before t (mark multiset_of) cs s h = absurd h
lex_before t (mark matching) cs s h = absurd h
lex_before t (mark by) cs s h = absurd h
lex_before t (mark with') cs s h = absurd h
lex_before t (sign r) cs s h = absurd h
lex_before t (binds w) cs s h = absurd h
lex_before t (uses w) cs s h = absurd h
lex_before t (number n) cs s h = absurd h
lex_before t (wrong c) cs s h = absurd h

-- After a token that takes nothing in.
lex_full : (t : Raw) (cs : List ℕ) → lex (full (t ∷ [])) cs ≡ t ∷ lex (full []) cs
unfolding lex tokens goes_on is_comment
lex_full t [] = refl
lex_full t (c ∷ cs) = go (kind c)
  where
    go : (k : Kind) → elim (takes (full (t ∷ [])) k) as (λ _. List Raw) [ none ↦ (t ∷ []) ++ lex (begin k) cs | some s' ↦ lex s' cs ]
        ≡ t ∷ (elim (takes (full []) k) as (λ _. List Raw) [ none ↦ [] ++ lex (begin k) cs | some s' ↦ lex s' cs ])
    go gap = refl
    go dollar = refl
    go low = refl
    go (digit d) = refl
    go (letter d) = refl
    go (twin d) = refl
    go (symbol d) = refl

lex_after : (t : Raw) (cs : List ℕ) → T (glue_after t) → lex (begun t) cs ≡ t ∷ lex (full []) cs
unfolding begun glue_after
lex_after (mark underscore) cs h = absurd h
lex_after (mark hash) cs h = lex_full (mark hash) cs
lex_after (mark bang) cs h = lex_full (mark bang) cs
lex_after (mark plus) cs h = absurd h
lex_after (mark minus) cs h = absurd h
lex_after (mark comma) cs h = absurd h
lex_after (mark opening) cs h = lex_full (mark opening) cs
lex_after (mark closing) cs h = absurd h
lex_after (mark left) cs h = lex_full (mark left) cs
lex_after (mark right) cs h = absurd h
lex_after (mark anything) cs h = absurd h
lex_after (mark integers) cs h = absurd h
lex_after (mark list_of) cs h = absurd h
lex_after (mark multiset_of) cs h = absurd h
lex_after (mark matching) cs h = absurd h
lex_after (mark by) cs h = absurd h
lex_after (mark with') cs h = absurd h
lex_after (sign s) cs h = absurd h
lex_after (binds w) cs h = absurd h
lex_after (uses w) cs h = absurd h
lex_after (number n) cs h = absurd h
lex_after (wrong c) cs h = absurd h

-- A minus and its number.
number_after : (u : Raw) (cs : List ℕ) → Spelled u → T (is_number u) → lex (first dashes) (spell u cs) ≡ mark minus ∷ lex (begun u) cs
unfolding is_number spell begun Spelled
number_after (mark m) cs s h = absurd h
number_after (sign r) cs s h = absurd h
number_after (binds w) cs s h = absurd h
number_after (uses w) cs s h = absurd h
number_after (number n) cs s h = lex_minus_number n cs s
number_after (wrong c) cs s h = absurd h

lex_minus : (t u : Raw) (cs : List ℕ) → Spelled u → T (is_minus t && is_number u) → lex (begun t) (spell u cs) ≡ t ∷ lex (begun u) cs
unfolding is_minus code begun
lex_minus (mark underscore) u cs s h = absurd h
lex_minus (mark hash) u cs s h = absurd h
lex_minus (mark bang) u cs s h = absurd h
lex_minus (mark plus) u cs s h = absurd h
lex_minus (mark minus) u cs s h = number_after u cs s h
lex_minus (mark comma) u cs s h = absurd h
lex_minus (mark opening) u cs s h = absurd h
lex_minus (mark closing) u cs s h = absurd h
lex_minus (mark left) u cs s h = absurd h
lex_minus (mark right) u cs s h = absurd h
lex_minus (mark anything) u cs s h = absurd h
lex_minus (mark integers) u cs s h = absurd h
lex_minus (mark list_of) u cs s h = absurd h
lex_minus (mark multiset_of) u cs s h = absurd h
lex_minus (mark matching) u cs s h = absurd h
lex_minus (mark by) u cs s h = absurd h
lex_minus (mark with') u cs s h = absurd h
lex_minus (sign r) u cs s h = absurd h
lex_minus (binds w) u cs s h = absurd h
lex_minus (uses w) u cs s h = absurd h
lex_minus (number n) u cs s h = absurd h
lex_minus (wrong c) u cs s h = absurd h

-- Two tokens, with or without a space.
lex_next : (r t u : Raw) (cs : List ℕ) → Spelled t → Spelled u → lex (begun t) (spaced (joined r t u) (spell u cs)) ≡ t ∷ lex (begun u) cs
unfolding joined spaced kind takes begin
lex_next r t u cs h i = go (glue_after t) (glue_before u) (is_minus t) (not (is_use r)) (is_number u)
    (λ g. lex_after t (spell u cs) g ∙ ap (λ ts. t ∷ ts) (lex_spell u cs i)) (lex_before t u cs h) (lex_minus t u cs i)
  where
    go : (a b c d e : Bool) → (T a → lex (begun t) (spell u cs) ≡ t ∷ lex (begun u) cs) → (T b → lex (begun t) (spell u cs) ≡ t ∷ lex (begun u) cs)
        → (T (c && e) → lex (begun t) (spell u cs) ≡ t ∷ lex (begun u) cs)
        → lex (begun t) (spaced (a || b || c && d && e) (spell u cs)) ≡ t ∷ lex (begun u) cs
    go true b c d e f g k = f tt
    go false true c d e f g k = g tt
    go false false true true true f g k = k tt
    go false false true true false f g k = lex_symbol t 32 (spell u cs) gap h refl refl ∙ ap (λ ts. t ∷ ts) (lex_spell u cs i)
    go false false true false e f g k = lex_symbol t 32 (spell u cs) gap h refl refl ∙ ap (λ ts. t ∷ ts) (lex_spell u cs i)
    go false false false d e f g k = lex_symbol t 32 (spell u cs) gap h refl refl ∙ ap (λ ts. t ∷ ts) (lex_spell u cs i)

lex_rest : (s t : Raw) (ts : List Raw) → Spelled t → SpelledAll ts → lex (begun t) (print_rest s t ts) ≡ t ∷ ts
unfolding print_rest SpelledAll
lex_rest s t [] h i = lex_end t h
lex_rest s t (u ∷ us) h i = lex_next s t u (print_rest t u us) h i.0 ∙ ap (λ ts. t ∷ ts) (lex_rest t u us i.0 i.1)

pub tokens_back : (ts : List Raw) → SpelledAll ts → tokens_of (print ts) ≡ ts
unfolding tokens_of print lex tokens SpelledAll
tokens_back [] h = refl
tokens_back (t ∷ ts) h = lex_spell t (print_rest t t ts) h.0 ∙ lex_rest t t ts h.0 h.1
