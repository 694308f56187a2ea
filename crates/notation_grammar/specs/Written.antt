-- The text of a rule has bytes only.
use Rattle.std.specs.Prelude.{ℕ, zero, suc, ◌+◌, ◌/◌, ◌%◌, ◌≤◌, ◌<◌, ◌≡◌, refl, Bool, true, false, ◌&&◌, ◌||◌, List, [], ◌∷◌, ◌++◌, get_or, ltb, leb, T}
use Rattle.std.proofs.Common.{arith, mod-lt, ltb-true, ltb-false, leb→le, ltb→lt}
use Rattle.notation_rules.specs.Tokens.{consing, joining, anding, oring, Mark, underscore, hash, bang, plus, minus, comma, opening, closing, left, right, anything, integers, list_of, multiset_of, matching, by, with', Raw, mark, sign, binds, uses, number, wrong}
use Rattle.notation_rules.specs.Letters.{last_digits, decimal, spell_mark, spell_sign, spell, joined, spaced, print_rest, print, is_letter}
use Rattle.notation_rules.specs.LettersBack.{Lettered, Spelled, SpelledAll}
use Rattle.notation_rules.specs.Names.{calls}
use Rattle.notation_rules.specs.NamesBack.{Good}
use Rattle.notation_rules.specs.Rules.{Rule, write_rule, text_of, write_text}
use Rattle.notation_rules.proofs.RulesBack.{Fine, good_rule}
use Rattle.notation_same.specs.Scans.{Bytes}

AllBytes : List ℕ → Type 0
AllBytes [] = T true
AllBytes (c ∷ cs) = (c < 256) × AllBytes cs

bytes_at : (cs : List ℕ) → AllBytes cs → (i : ℕ) → get_or cs i 0 < 256
unfolding AllBytes
bytes_at [] h i = omega arith
bytes_at (c ∷ cs) h zero = h.0
bytes_at (c ∷ cs) h (suc i) = bytes_at cs h.1 i

-- ---- Digits, letters, marks.
digits : (most n : ℕ) (cs : List ℕ) → n ≤ most → AllBytes cs → AllBytes (last_digits most n cs)
unfolding last_digits AllBytes
digits zero n cs h a = (omega arith, a)
digits (suc most) n cs h a = go (ltb n 10) refl (λ l. digits most (n / 10) ((48 + n % 10) ∷ cs) (omega arith) (let b = mod-lt n {m = 10} (omega arith) in omega arith, a))
  where
    go : (b : Bool) → ltb n 10 ≡ b → (10 ≤ n → AllBytes (last_digits most (n / 10) ((48 + n % 10) ∷ cs)))
        → AllBytes (elim b as (λ _. List ℕ) [ true ↦ (48 + n) ∷ cs | false ↦ last_digits most (n / 10) ((48 + n % 10) ∷ cs) ])
    go true e i = let l = ltb-true n 10 e in (omega arith, a)
    go false e i = i (ltb-false n 10 e)

letter_small : (c : ℕ) → T (is_letter c) → c < 256
unfolding is_letter
letter_small c h = go (leb 97 c) (leb c 122) (leb 65 c) (leb c 90) (leb→le c 122) (leb→le c 90) h
  where
    go : (w x y z : Bool) → (T x → c ≤ 122) → (T z → c ≤ 90) → T (w && x || y && z) → c < 256
    go true true y z f g t = let l = f tt in omega arith
    go true false true true f g t = let l = g tt in omega arith
    go true false true false f g t = absurd t
    go true false false z f g t = absurd t
    go false x true true f g t = let l = g tt in omega arith
    go false x true false f g t = absurd t
    go false x false z f g t = absurd t

name_bytes : (w cs : List ℕ) → Lettered w → AllBytes cs → AllBytes (w ++ cs)
unfolding Lettered AllBytes
name_bytes [] cs h a = absurd h
name_bytes (c ∷ []) cs h a = (letter_small c h, a)
name_bytes (c ∷ (d ∷ w)) cs h a = absurd h

low : List ℕ → Bool
low [] = true
low (c ∷ cs) = ltb c 256 && low cs

before : (ws cs : List ℕ) → T (low ws) → AllBytes cs → AllBytes (ws ++ cs)
unfolding low AllBytes
before [] cs h a = a
before (w ∷ ws) cs h a = go (ltb w 256) (low ws) (ltb→lt w 256) h (λ t. before ws cs t a)
  where
    go : (b c : Bool) → (T b → w < 256) → T (b && c) → (T c → AllBytes (ws ++ cs)) → (w < 256) × AllBytes (ws ++ cs)
    go true c f t i = (f tt, i t)
    go false c f t i = absurd t

mark_low : (m : Mark) → T (low (spell_mark m))
unfolding low spell_mark
mark_low underscore = tt
mark_low hash = tt
mark_low bang = tt
mark_low plus = tt
mark_low minus = tt
mark_low comma = tt
mark_low opening = tt
mark_low closing = tt
mark_low left = tt
mark_low right = tt
mark_low anything = tt
mark_low integers = tt
mark_low list_of = tt
mark_low multiset_of = tt
mark_low matching = tt
mark_low by = tt
mark_low with' = tt

-- ---- Tokens.
spell_bytes : (t : Raw) (cs : List ℕ) → Spelled t → AllBytes cs → AllBytes (spell t cs)
unfolding spell spell_sign decimal Spelled AllBytes low
spell_bytes (mark m) cs h a = before (spell_mark m) cs (mark_low m) a
spell_bytes (sign consing) cs h a = before (spell_sign consing) cs tt a
spell_bytes (sign joining) cs h a = before (spell_sign joining) cs tt a
spell_bytes (sign anding) cs h a = before (spell_sign anding) cs tt a
spell_bytes (sign oring) cs h a = before (spell_sign oring) cs tt a
spell_bytes (binds w) cs h a = (omega arith, name_bytes w cs h a)
spell_bytes (uses w) cs h a = name_bytes w cs h a
spell_bytes (number n) cs h a = digits n n cs (omega arith) a
spell_bytes (wrong c) cs h a = absurd h

spaced_bytes : (b : Bool) (cs : List ℕ) → AllBytes cs → AllBytes (spaced b cs)
unfolding spaced AllBytes
spaced_bytes true cs a = a
spaced_bytes false cs a = (omega arith, a)

rest_bytes : (s t : Raw) (ts : List Raw) → SpelledAll ts → AllBytes (print_rest s t ts)
unfolding print_rest SpelledAll AllBytes
rest_bytes s t [] h = tt
rest_bytes s t (u ∷ ts) h = spaced_bytes (joined s t u) (spell u (print_rest t u ts)) (spell_bytes u (print_rest t u ts) h.0 (rest_bytes t u ts h.1))

print_bytes : (ts : List Raw) → SpelledAll ts → AllBytes (print ts)
unfolding print SpelledAll AllBytes
print_bytes [] h = tt
print_bytes (t ∷ ts) h = spell_bytes t (print_rest t t ts) h.0 (rest_bytes t t ts h.1)

pub written_bytes : (r : Rule) → Fine r → Bytes (write_text r)
unfolding Bytes write_text text_of Good
written_bytes r f = bytes_at (print (calls (write_rule r))) (print_bytes (calls (write_rule r)) (good_rule r f).1)
