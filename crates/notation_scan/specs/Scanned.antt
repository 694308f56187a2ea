-- What the code of the scanner computes: the first token from an index on.
use Rattle.std.specs.Prelude.{ℕ, ◌+◌, ◌*◌, ◌/◌, ◌%◌, Bool, false, cond, Option, unwrap_or, is_some, option_map, position, List, [], ◌∷◌, get_or, drop, eqb, ltb, leb}
use Rattle.std.proofs.Math.Seq.{slice}
use Rattle.notation_rules.specs.Letters.{same_word, spell_mark}
use Rattle.notation_rules.specs.Tokens.{anything, integers, list_of, multiset_of, matching, by, with'}
use Rattle.notation_scan.specs.declared.Begun.{Begun}
use Rattle.notation_scan.specs.declared.Token.{Token}

-- The code's tables.
abbrev pub chars : List ℕ
chars = 409 ∷ 409 ∷ 409 ∷ 409 ∷ 409 ∷ 409 ∷ 409 ∷ 409 ∷ 409 ∷ 400 ∷ 401 ∷ 409 ∷ 409 ∷ 400 ∷ 409 ∷ 409 ∷ 409 ∷ 409 ∷ 409 ∷ 409 ∷ 409 ∷ 409 ∷ 409 ∷ 409 ∷ 409 ∷ 409 ∷ 409 ∷ 409 ∷ 409 ∷ 409 ∷ 409 ∷ 409 ∷ 400 ∷ 41 ∷ 409 ∷ 25 ∷ 402 ∷ 409 ∷ 313 ∷ 409 ∷ 105 ∷ 121 ∷ 409 ∷ 294 ∷ 89 ∷ 408 ∷ 409 ∷ 409 ∷ 404 ∷ 404 ∷ 404 ∷ 404 ∷ 404 ∷ 404 ∷ 404 ∷ 404 ∷ 404 ∷ 404 ∷ 279 ∷ 409 ∷ 409 ∷ 409 ∷ 409 ∷ 409 ∷ 409 ∷ 405 ∷ 405 ∷ 405 ∷ 405 ∷ 405 ∷ 405 ∷ 405 ∷ 405 ∷ 405 ∷ 405 ∷ 405 ∷ 405 ∷ 405 ∷ 405 ∷ 405 ∷ 405 ∷ 405 ∷ 405 ∷ 405 ∷ 405 ∷ 405 ∷ 405 ∷ 405 ∷ 405 ∷ 405 ∷ 405 ∷ 137 ∷ 409 ∷ 153 ∷ 409 ∷ 3 ∷ 409 ∷ 405 ∷ 405 ∷ 405 ∷ 405 ∷ 405 ∷ 405 ∷ 405 ∷ 405 ∷ 405 ∷ 405 ∷ 405 ∷ 405 ∷ 405 ∷ 405 ∷ 405 ∷ 405 ∷ 405 ∷ 405 ∷ 405 ∷ 405 ∷ 405 ∷ 405 ∷ 405 ∷ 405 ∷ 405 ∷ 405 ∷ 409 ∷ 329 ∷ 409 ∷ 409 ∷ 409 ∷ 409 ∷ 409 ∷ 409 ∷ 409 ∷ 409 ∷ 409 ∷ 409 ∷ 409 ∷ 409 ∷ 409 ∷ 409 ∷ 409 ∷ 409 ∷ 409 ∷ 409 ∷ 409 ∷ 409 ∷ 409 ∷ 409 ∷ 409 ∷ 409 ∷ 409 ∷ 409 ∷ 409 ∷ 409 ∷ 409 ∷ 409 ∷ 409 ∷ 409 ∷ 409 ∷ 409 ∷ 409 ∷ 409 ∷ 409 ∷ 409 ∷ 409 ∷ 409 ∷ 409 ∷ 409 ∷ 409 ∷ 409 ∷ 409 ∷ 409 ∷ 409 ∷ 409 ∷ 409 ∷ 409 ∷ 409 ∷ 409 ∷ 409 ∷ 409 ∷ 409 ∷ 409 ∷ 409 ∷ 409 ∷ 409 ∷ 409 ∷ 409 ∷ 409 ∷ 409 ∷ 409 ∷ 409 ∷ 409 ∷ 409 ∷ 409 ∷ 409 ∷ 409 ∷ 409 ∷ 409 ∷ 409 ∷ 409 ∷ 409 ∷ 409 ∷ 409 ∷ 409 ∷ 409 ∷ 409 ∷ 409 ∷ 409 ∷ 409 ∷ 409 ∷ 409 ∷ 409 ∷ 409 ∷ 409 ∷ 409 ∷ 409 ∷ 409 ∷ 409 ∷ 409 ∷ 409 ∷ 409 ∷ 409 ∷ 409 ∷ 409 ∷ 409 ∷ 409 ∷ 409 ∷ 409 ∷ 409 ∷ 409 ∷ 409 ∷ 409 ∷ 409 ∷ 409 ∷ 409 ∷ 409 ∷ 409 ∷ 409 ∷ 409 ∷ 409 ∷ 409 ∷ 409 ∷ 409 ∷ 409 ∷ 409 ∷ 409 ∷ 409 ∷ 409 ∷ 409 ∷ 409 ∷ 409 ∷ 409 ∷ 409 ∷ 409 ∷ 409 ∷ 409 ∷ 409 ∷ []

abbrev pub nexts : List ℕ
nexts = 15 ∷ 15 ∷ 15 ∷ 15 ∷ 15 ∷ 15 ∷ 15 ∷ 15 ∷ 15 ∷ 15 ∷ 1 ∷ 15 ∷ 1 ∷ 1 ∷ 1 ∷ 1 ∷ 1 ∷ 1 ∷ 1 ∷ 1 ∷ 15 ∷ 15 ∷ 15 ∷ 15 ∷ 2 ∷ 15 ∷ 15 ∷ 15 ∷ 15 ∷ 15 ∷ 15 ∷ 15 ∷ 15 ∷ 15 ∷ 15 ∷ 15 ∷ 15 ∷ 15 ∷ 15 ∷ 15 ∷ 15 ∷ 15 ∷ 15 ∷ 4 ∷ 4 ∷ 4 ∷ 15 ∷ 15 ∷ 15 ∷ 15 ∷ 15 ∷ 15 ∷ 15 ∷ 15 ∷ 15 ∷ 6 ∷ 15 ∷ 15 ∷ 15 ∷ 15 ∷ 15 ∷ 15 ∷ 15 ∷ 6 ∷ 6 ∷ 6 ∷ 15 ∷ 15 ∷ 15 ∷ 15 ∷ 15 ∷ 15 ∷ 15 ∷ 15 ∷ 15 ∷ 15 ∷ 10 ∷ 15 ∷ 15 ∷ 15 ∷ 15 ∷ 15 ∷ 15 ∷ 15 ∷ 15 ∷ 15 ∷ 15 ∷ 10 ∷ 15 ∷ 15 ∷ 15 ∷ 15 ∷ 15 ∷ 15 ∷ 15 ∷ 15 ∷ 15 ∷ 15 ∷ 1 ∷ 15 ∷ 15 ∷ 15 ∷ 15 ∷ 15 ∷ 15 ∷ 15 ∷ 15 ∷ 15 ∷ 15 ∷ 15 ∷ []

abbrev pub begins : List ℕ
begins = 0 ∷ 0 ∷ 5 ∷ 10 ∷ 2 ∷ 4 ∷ 7 ∷ 8 ∷ 9 ∷ 10 ∷ []

abbrev pub finals : List ℕ
finals = 24 ∷ 24 ∷ 23 ∷ 24 ∷ 22 ∷ 25 ∷ 21 ∷ 3 ∷ 25 ∷ 4 ∷ 24 ∷ []

unfoldable pub char_of : ℕ → ℕ
char_of c = get_or chars c 0

unfoldable pub next_of : (state c : ℕ) → ℕ
next_of state c = get_or nexts ((state % 11 * 10 + c % 16 % 10) % 110) 0

unfoldable pub begin_of : ℕ → ℕ
begin_of c = get_or begins (c % 16 % 10) 0

unfoldable pub final_of : ℕ → ℕ
final_of state = get_or finals (state % 11) 0

-- A number with one more digit; one that is too large stays so.
unfoldable pub more_of : (value c : ℕ) → ℕ
more_of value c = cond (ltb 2147483648 value) value (value * 10 + c % 48)

-- ---- Words.
-- The notation's words, in the order of their marks from 10 on.
abbrev pub words : List (List ℕ)
words = spell_mark anything ∷ spell_mark integers ∷ spell_mark list_of ∷ spell_mark multiset_of ∷ spell_mark matching ∷ spell_mark by ∷ spell_mark with' ∷ []

-- The mark that a word is, where it is no name.
unfoldable pub reserved_of : List ℕ → Option ℕ
unfolding same_word spell_mark
reserved_of w = option_map (λ k. 10 + k) (position (λ x. same_word x w) words)

unfoldable pub word_kind : List ℕ → ℕ
unfolding reserved_of
word_kind w = unwrap_or (reserved_of w) 22

unfoldable pub name_kind : List ℕ → ℕ
unfolding reserved_of
name_kind w = cond (is_some (reserved_of w)) 25 21

-- ---- What was begun.
unfoldable pub finished : List ℕ → Begun → (to : ℕ) → ℕ
unfolding word_kind name_kind final_of
finished text b to = cond (eqb b.state 10) b.kind
    (cond (eqb b.state 2) (cond (ltb 2147483648 b.value) 32 23)
    (cond (eqb b.state 4) (word_kind (slice b.from to text))
    (cond (eqb b.state 6) (name_kind (slice b.name to text))
    (final_of b.state))))

unfoldable pub whole_at : Begun → ℕ → Bool
unfolding next_of char_of
whole_at b c = cond (leb b.state 1) false (eqb (next_of b.state (char_of c)) 15)

unfoldable pub advanced : Begun → (c i e : ℕ) → Begun
unfolding next_of char_of begin_of more_of
advanced b c i e = cond (eqb (next_of b.state (char_of c)) 15)
    (record { state = begin_of (char_of c); kind = char_of c / 16; value = more_of 0 c; from = i; name = e })
    (record { state = next_of b.state (char_of c); kind = b.kind; value = more_of b.value c; from = b.from; name = b.name })

unfoldable pub token : List ℕ → Begun → (to : ℕ) → Token
unfolding finished
token text b to = record { kind = finished text b to; value = b.value; from = b.from; name = b.name; to = to }

-- With b begun, the characters from index i on.
unfoldable pub scan_from : List ℕ → Begun → (i : ℕ) → List ℕ → Token
unfolding whole_at advanced token
scan_from text b i [] = token text b i
scan_from text b i (c ∷ cs) = cond (whole_at b c) (token text b i) (scan_from text (advanced b c i (i + 1)) (i + 1) cs)

unfoldable pub nothing : ℕ → Begun
nothing at = record { state = 0; kind = 24; value = 0; from = at; name = at }

unfoldable pub scanned : List ℕ → (at : ℕ) → Token
unfolding scan_from nothing
scanned text at = scan_from text (nothing at) at (drop at text)
