-- Laws of what specs/Printed.antt defines.
use Rattle.std.specs.Prelude.{ℕ, zero, suc, ◌+◌, ◌/◌, ◌%◌, ◌≡◌, refl, Bool, true, false, cond, not, ◌&&◌, ◌||◌, List, [], ◌∷◌, ◌++◌, eqb, ltb, pos, negsuc}
use Rattle.std.proofs.Common.{arith, sym, ap, ◌∙◌, of_z}
use Rattle.std.specs.Int.{w32}
use Rattle.notation_rules.specs.Tokens.{consing, joining, anding, oring}
use Rattle.notation_rules.specs.Tokens.{underscore, hash, bang, plus, minus, comma, opening, closing, left, right, anything, integers, list_of, multiset_of, matching, by, with'}
use Rattle.notation_rules.specs.Tokens.{Raw, Token, mark, sign, binds, uses, number, wrong, code}
use Rattle.notation_rules.specs.Letters.{last_digits, decimal, spell_mark, spell_sign, spell, glue_after, glue_before, is_minus, is_use, is_number, joined, spaced, print_rest, print}
use Rattle.notation_rules.specs.Names.{called, call, calls}
use Rattle.notation_print.specs.Pages.{Page, page, letter, letters}
use Rattle.notation_print.specs.Inks.{mark_of, name_of, spelt, joins, after, spaced_on, Sheet, sheet, draw}
use Rattle.notation_write.specs.Written.{Ink, ink, draws}
use Rattle.notation_promises.specs.Printed.{Named, NamedAll, ink_of, inks_of, sign_code}

-- ---- A token's characters.
digits_behind : (k n : ℕ) (cs ds : List ℕ) → last_digits k n (cs ++ ds) ≡ last_digits k n cs ++ ds
unfolding last_digits
digits_behind zero n cs ds = refl
digits_behind (suc k) n cs ds = go (ltb n 10) (digits_behind k (n / 10) ((48 + n % 10) ∷ cs) ds)
  where
    go : (b : Bool) → last_digits k (n / 10) ((48 + n % 10) ∷ (cs ++ ds)) ≡ last_digits k (n / 10) ((48 + n % 10) ∷ cs) ++ ds
        → ◌≡◌ {A = List ℕ} (elim b as (λ _. List ℕ) [ true ↦ (48 + n) ∷ (cs ++ ds) | false ↦ last_digits k (n / 10) ((48 + n % 10) ∷ (cs ++ ds)) ])
        ((elim b as (λ _. List ℕ) [ true ↦ (48 + n) ∷ cs | false ↦ last_digits k (n / 10) ((48 + n % 10) ∷ cs) ]) ++ ds)
    go true e = refl
    go false e = e

name_is : (v : ℕ) → name_of v ≡ 97 + (v + 23) % 26
unfolding name_of
name_is v = omega arith

-- What an ink is spelled as, in front of what follows.
unfoldable of_ink : Ink → List ℕ → List ℕ
unfolding spelt
of_ink (ink k v) cs = spelt k v ++ cs

spelled : (t : Token) (cs : List ℕ) → Named t → of_ink (ink_of t) cs ≡ spell (call t) cs
unfolding of_ink ink_of spelt spell call called Named spell_mark spell_sign mark_of code sign_code decimal
spelled (mark underscore) cs h = refl
spelled (mark hash) cs h = refl
spelled (mark bang) cs h = refl
spelled (mark plus) cs h = refl
spelled (mark minus) cs h = refl
spelled (mark comma) cs h = refl
spelled (mark opening) cs h = refl
spelled (mark closing) cs h = refl
spelled (mark left) cs h = refl
spelled (mark right) cs h = refl
spelled (mark anything) cs h = refl
spelled (mark integers) cs h = refl
spelled (mark list_of) cs h = refl
spelled (mark multiset_of) cs h = refl
spelled (mark matching) cs h = refl
spelled (mark by) cs h = refl
spelled (mark with') cs h = refl
spelled (sign consing) cs h = refl
spelled (sign joining) cs h = refl
spelled (sign anding) cs h = refl
spelled (sign oring) cs h = refl
spelled (binds (pos v)) cs h = ap (λ c. 36 ∷ c ∷ cs) (name_is v)
spelled (binds (negsuc v)) cs h = absurd h
spelled (uses (pos v)) cs h = ap (λ c. c ∷ cs) (name_is v)
spelled (uses (negsuc v)) cs h = absurd h
spelled (number n) cs h = sym (digits_behind n n [] cs)
spelled (wrong c) cs h = absurd h

-- ---- Spaces. What a token asks of the next, with s before it.
unfoldable kind_of : Token → ℕ
unfolding code sign_code
kind_of (mark m) = code m
kind_of (sign s) = sign_code s
kind_of (binds v) = 21
kind_of (uses v) = 22
kind_of (number n) = 23
kind_of (wrong c) = 0

unfoldable asks : (s t : Raw) → ℕ
asks s t = cond (glue_after t) 0 (cond (is_use t) 2 (cond (is_minus t) (cond (is_use s) 1 3) 1))

joins_apart : (u : Token) → joins 1 (kind_of u) ≡ (glue_before (call u) || false)
unfolding joins kind_of code sign_code glue_before is_number call
joins_apart (mark underscore) = refl
joins_apart (mark hash) = refl
joins_apart (mark bang) = refl
joins_apart (mark plus) = refl
joins_apart (mark minus) = refl
joins_apart (mark comma) = refl
joins_apart (mark opening) = refl
joins_apart (mark closing) = refl
joins_apart (mark left) = refl
joins_apart (mark right) = refl
joins_apart (mark anything) = refl
joins_apart (mark integers) = refl
joins_apart (mark list_of) = refl
joins_apart (mark multiset_of) = refl
joins_apart (mark matching) = refl
joins_apart (mark by) = refl
joins_apart (mark with') = refl
joins_apart (sign consing) = refl
joins_apart (sign joining) = refl
joins_apart (sign anding) = refl
joins_apart (sign oring) = refl
joins_apart (binds v) = refl
joins_apart (uses v) = refl
joins_apart (number n) = refl
joins_apart (wrong c) = refl

joins_named : (u : Token) → joins 2 (kind_of u) ≡ (glue_before (call u) || false)
unfolding joins kind_of code sign_code glue_before is_number call
joins_named (mark underscore) = refl
joins_named (mark hash) = refl
joins_named (mark bang) = refl
joins_named (mark plus) = refl
joins_named (mark minus) = refl
joins_named (mark comma) = refl
joins_named (mark opening) = refl
joins_named (mark closing) = refl
joins_named (mark left) = refl
joins_named (mark right) = refl
joins_named (mark anything) = refl
joins_named (mark integers) = refl
joins_named (mark list_of) = refl
joins_named (mark multiset_of) = refl
joins_named (mark matching) = refl
joins_named (mark by) = refl
joins_named (mark with') = refl
joins_named (sign consing) = refl
joins_named (sign joining) = refl
joins_named (sign anding) = refl
joins_named (sign oring) = refl
joins_named (binds v) = refl
joins_named (uses v) = refl
joins_named (number n) = refl
joins_named (wrong c) = refl

joins_negative : (u : Token) → joins 3 (kind_of u) ≡ (glue_before (call u) || is_number (call u))
unfolding joins kind_of code sign_code glue_before is_number call
joins_negative (mark underscore) = refl
joins_negative (mark hash) = refl
joins_negative (mark bang) = refl
joins_negative (mark plus) = refl
joins_negative (mark minus) = refl
joins_negative (mark comma) = refl
joins_negative (mark opening) = refl
joins_negative (mark closing) = refl
joins_negative (mark left) = refl
joins_negative (mark right) = refl
joins_negative (mark anything) = refl
joins_negative (mark integers) = refl
joins_negative (mark list_of) = refl
joins_negative (mark multiset_of) = refl
joins_negative (mark matching) = refl
joins_negative (mark by) = refl
joins_negative (mark with') = refl
joins_negative (sign consing) = refl
joins_negative (sign joining) = refl
joins_negative (sign anding) = refl
joins_negative (sign oring) = refl
joins_negative (binds v) = refl
joins_negative (uses v) = refl
joins_negative (number n) = refl
joins_negative (wrong c) = refl

joins_joined : (s t u : Token) → joins (asks (call s) (call t)) (kind_of u) ≡ joined (call s) (call t) (call u)
unfolding joins asks joined glue_after is_use is_minus call code
joins_joined s (mark underscore) u = joins_apart u
joins_joined s (mark hash) u = refl
joins_joined s (mark bang) u = refl
joins_joined s (mark plus) u = joins_apart u
joins_joined s (mark minus) u = go (is_use (call s))
  where
    go : (b : Bool) → joins (cond b 1 3) (kind_of u) ≡ (glue_before (call u) || true && not b && is_number (call u))
    go true = joins_apart u
    go false = joins_negative u
joins_joined s (mark comma) u = joins_apart u
joins_joined s (mark opening) u = refl
joins_joined s (mark closing) u = joins_apart u
joins_joined s (mark left) u = refl
joins_joined s (mark right) u = joins_apart u
joins_joined s (mark anything) u = joins_apart u
joins_joined s (mark integers) u = joins_apart u
joins_joined s (mark list_of) u = joins_apart u
joins_joined s (mark multiset_of) u = joins_apart u
joins_joined s (mark matching) u = joins_apart u
joins_joined s (mark by) u = joins_apart u
joins_joined s (mark with') u = joins_apart u
joins_joined s (sign r) u = joins_apart u
joins_joined s (binds v) u = joins_apart u
joins_joined s (uses v) u = joins_named u
joins_joined s (number n) u = joins_apart u
joins_joined s (wrong c) u = joins_apart u

-- A name was last exactly where the token is one.
last_name : (s t : Token) → ◌≡◌ {A = ℕ} (cond (eqb (asks (call s) (call t)) 2) 1 3) (cond (is_use (call t)) 1 3)
unfolding asks glue_after is_use is_minus call code
last_name s (mark underscore) = refl
last_name s (mark hash) = refl
last_name s (mark bang) = refl
last_name s (mark plus) = refl
last_name s (mark minus) = go (is_use (call s))
  where
    go : (b : Bool) → ◌≡◌ {A = ℕ} (cond (eqb (cond b 1 3) 2) 1 3) 3
    go true = refl
    go false = refl
last_name s (mark comma) = refl
last_name s (mark opening) = refl
last_name s (mark closing) = refl
last_name s (mark left) = refl
last_name s (mark right) = refl
last_name s (mark anything) = refl
last_name s (mark integers) = refl
last_name s (mark list_of) = refl
last_name s (mark multiset_of) = refl
last_name s (mark matching) = refl
last_name s (mark by) = refl
last_name s (mark with') = refl
last_name s (sign r) = refl
last_name s (binds v) = refl
last_name s (uses v) = refl
last_name s (number n) = refl
last_name s (wrong c) = refl

after_asks : (s t u : Token) → after (asks (call s) (call t)) (kind_of u) ≡ asks (call t) (call u)
unfolding asks after kind_of code sign_code glue_after is_use is_minus call
after_asks s t (mark underscore) = refl
after_asks s t (mark hash) = refl
after_asks s t (mark bang) = refl
after_asks s t (mark plus) = refl
after_asks s t (mark minus) = last_name s t
after_asks s t (mark comma) = refl
after_asks s t (mark opening) = refl
after_asks s t (mark closing) = refl
after_asks s t (mark left) = refl
after_asks s t (mark right) = refl
after_asks s t (mark anything) = refl
after_asks s t (mark integers) = refl
after_asks s t (mark list_of) = refl
after_asks s t (mark multiset_of) = refl
after_asks s t (mark matching) = refl
after_asks s t (mark by) = refl
after_asks s t (mark with') = refl
after_asks s t (sign consing) = refl
after_asks s t (sign joining) = refl
after_asks s t (sign anding) = refl
after_asks s t (sign oring) = refl
after_asks s t (binds v) = refl
after_asks s t (uses v) = refl
after_asks s t (number n) = refl
after_asks s t (wrong c) = refl

-- ---- The whole.
letters_append : (p : Page) (cs ds : List ℕ) → letters p (cs ++ ds) ≡ letters (letters p cs) ds
unfolding letters
letters_append p [] ds = refl
letters_append p (c ∷ cs) ds = letters_append (letter p c) cs ds

spaced_on_lem : (p : Page) (b : Bool) (cs : List ℕ) → letters p (spaced b cs) ≡ letters (cond b p (letter p 32)) cs
unfolding spaced letters
spaced_on_lem p true cs = refl
spaced_on_lem p false cs = refl

no_more : (cs : List ℕ) → cs ≡ cs ++ []
no_more [] = refl
no_more (c ∷ cs) = ap (λ ds. c ∷ ds) (no_more cs)

drawn_ink : (q : Page) (l : ℕ) (t : Token) → draws (record { on = q; last = l }) (ink_of t ∷ []) ≡ record { on = letters (spaced_on q l (kind_of t)) (of_ink (ink_of t) []); last = after l (kind_of t) }
unfolding draws draw ink_of kind_of of_ink
drawn_ink q l (mark m) = ap (λ cs. record { on = letters (spaced_on q l (code m)) cs; last = after l (code m) }) (no_more (spelt (code m) 0))
drawn_ink q l (sign s) = ap (λ cs. record { on = letters (spaced_on q l (sign_code s)) cs; last = after l (sign_code s) }) (no_more (spelt (sign_code s) 0))
drawn_ink q l (binds v) = ap (λ cs. record { on = letters (spaced_on q l 21) cs; last = after l 21 }) (no_more (spelt 21 (of_z w32 v)))
drawn_ink q l (uses v) = ap (λ cs. record { on = letters (spaced_on q l 22) cs; last = after l 22 }) (no_more (spelt 22 (of_z w32 v)))
drawn_ink q l (number n) = ap (λ cs. record { on = letters (spaced_on q l 23) cs; last = after l 23 }) (no_more (spelt 23 n))
drawn_ink q l (wrong c) = ap (λ cs. record { on = letters (spaced_on q l 0) cs; last = after l 0 }) (no_more (spelt 0 0))

draws_cons : (s : Sheet) (i : Ink) (is : List Ink) → draws s (i ∷ is) ≡ draws (draws s (i ∷ [])) is
unfolding draws
draws_cons s (ink k v) is = refl

ink_append : (i : Ink) (cs : List ℕ) → of_ink i cs ≡ of_ink i [] ++ cs
unfolding of_ink
ink_append (ink k v) cs = ap (λ ds. ds ++ cs) (no_more (spelt k v))

-- One token, and what comes behind it.
one_token : (q : Page) (l m : ℕ) (u : Token) (us : List Token) (cs : List ℕ) (b : Bool) → Named u → joins l (kind_of u) ≡ b → after l (kind_of u) ≡ m
    → ((r : Page) → (draws (record { on = r; last = m }) (inks_of us)).on ≡ letters r cs)
    → (draws (record { on = q; last = l }) (inks_of (u ∷ us))).on ≡ letters q (spaced b (spell (call u) cs))
unfolding inks_of spaced_on
one_token q l m u us cs b h j a f =
    ap (λ s. s.on) (draws_cons (record { on = q; last = l }) (ink_of u) (inks_of us))
    ∙ ap (λ s. (draws s (inks_of us)).on) (drawn_ink q l u)
    ∙ ap (λ k. (draws (record { on = letters (spaced_on q l (kind_of u)) (of_ink (ink_of u) []); last = k }) (inks_of us)).on) a
    ∙ f (letters (spaced_on q l (kind_of u)) (of_ink (ink_of u) []))
    ∙ sym (letters_append (spaced_on q l (kind_of u)) (of_ink (ink_of u) []) cs)
    ∙ ap (letters (spaced_on q l (kind_of u))) (sym (ink_append (ink_of u) cs) ∙ spelled u cs h)
    ∙ ap (λ c. letters (cond c q (letter q 32)) (spell (call u) cs)) j
    ∙ sym (spaced_on_lem q b (spell (call u) cs))

printed_rest : (s t : Token) (us : List Token) (q : Page) → NamedAll us
    → (draws (record { on = q; last = asks (call s) (call t) }) (inks_of us)).on ≡ letters q (print_rest (call s) (call t) (calls us))
unfolding inks_of draws print_rest calls NamedAll letters
printed_rest s t [] q h = refl
printed_rest s t (u ∷ us) q h =
    one_token q (asks (call s) (call t)) (asks (call t) (call u)) u us (print_rest (call t) (call u) (calls us)) (joined (call s) (call t) (call u)) h.0
    (joins_joined s t u) (after_asks s t u) (λ r. printed_rest t u us r h.1)

joins_first : (k : ℕ) → joins 0 k ≡ true
unfolding joins
joins_first k = refl

after_first : (u : Token) → after 0 (kind_of u) ≡ asks (call u) (call u)
unfolding asks after kind_of code sign_code glue_after is_use is_minus call
after_first (mark underscore) = refl
after_first (mark hash) = refl
after_first (mark bang) = refl
after_first (mark plus) = refl
after_first (mark minus) = refl
after_first (mark comma) = refl
after_first (mark opening) = refl
after_first (mark closing) = refl
after_first (mark left) = refl
after_first (mark right) = refl
after_first (mark anything) = refl
after_first (mark integers) = refl
after_first (mark list_of) = refl
after_first (mark multiset_of) = refl
after_first (mark matching) = refl
after_first (mark by) = refl
after_first (mark with') = refl
after_first (sign consing) = refl
after_first (sign joining) = refl
after_first (sign anding) = refl
after_first (sign oring) = refl
after_first (binds v) = refl
after_first (uses v) = refl
after_first (number n) = refl
after_first (wrong c) = refl

-- The tokens on an empty page, with nothing before them, are the notation's characters.
pub printed : (out : List ℕ) (ts : List Token) → NamedAll ts → (draws (sheet out 0 0) (inks_of ts)).on ≡ letters (page out 0) (print (calls ts))
unfolding sheet inks_of draws print calls NamedAll letters spaced
printed out [] h = refl
printed out (t ∷ ts) h =
    one_token (page out 0) 0 (asks (call t) (call t)) t ts (print_rest (call t) (call t) (calls ts)) true h.0 (joins_first (kind_of t)) (after_first t) (λ r. printed_rest t t ts r h.1)
