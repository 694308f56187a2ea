-- The scanner's tokens: of which kinds they are, and that they begin in the text.
use Rattle.std.specs.Prelude.{ℕ, zero, suc, ◌+◌, ◌/◌, ◌%◌, ◌≤◌, ◌<◌, ◌≡◌, Bool, true, false, cond, ◌&&◌, is_some, unwrap_or, option_map, position, List, [], ◌∷◌, length, get_or, drop, eqb, ltb, T}
use Rattle.std.proofs.Common.{arith, length-drop, ltb→lt}
use Rattle.std.proofs.Math.Seq.{slice}
use Rattle.notation_rules.specs.Tokens.{anything, integers, list_of, multiset_of, matching, by, with'}
use Rattle.notation_rules.specs.Letters.{same_word, spell_mark}
use Rattle.notation_scan.specs.Scanned.{chars, finals, char_of, next_of, begin_of, more_of, final_of, reserved_of, word_kind, name_kind, finished, whole_at, advanced, token, scan_from, nothing, scanned}
use Rattle.notation_scan.specs.declared.Begun.{Begun as Code}

all_below : ℕ → List ℕ → Bool
all_below m [] = true
all_below m (x ∷ xs) = ltb x m && all_below m xs

entry_below : (m : ℕ) (xs : List ℕ) (i : ℕ) → 0 < m → T (all_below m xs) → get_or xs i 0 < m
unfolding all_below
entry_below m [] i h a = h
entry_below m (x ∷ xs) zero h a = go (ltb x m) (all_below m xs) (ltb→lt x m) a
  where
    go : (b c : Bool) → (T b → x < m) → T (b && c) → x < m
    go true c f t = f tt
    go false c f t = absurd t
entry_below m (x ∷ xs) (suc i) h a = entry_below m xs i h (go (ltb x m) (all_below m xs) a)
  where
    go : (b c : Bool) → T (b && c) → T c
    go true c t = t
    go false c t = absurd t

chars_below : (c : ℕ) → char_of c / 16 < 34
unfolding char_of all_below
chars_below c = let h : get_or chars c 0 < 544 = entry_below 544 chars c (omega arith) tt in omega arith

either : (b : Bool) (x y : ℕ) → x < 34 → y < 34 → cond b x y < 34
either true x y h i = h
either false x y h i = i

-- The words of the notation, by their marks.
chain : (a b c d e f g : Bool) → unwrap_or (option_map (λ k. 10 + k) (position (λ x. x) (a ∷ b ∷ c ∷ d ∷ e ∷ f ∷ g ∷ []))) 22 < 34
chain true b c d e f g = omega arith
chain false true c d e f g = omega arith
chain false false true d e f g = omega arith
chain false false false true e f g = omega arith
chain false false false false true f g = omega arith
chain false false false false false true g = omega arith
chain false false false false false false true = omega arith
chain false false false false false false false = omega arith

word_below : (w : List ℕ) → word_kind w < 34
unfolding word_kind reserved_of
word_below w = chain (same_word (spell_mark anything) w) (same_word (spell_mark integers) w) (same_word (spell_mark list_of) w) (same_word (spell_mark multiset_of) w) (same_word (spell_mark matching) w) (same_word (spell_mark by) w) (same_word (spell_mark with') w)

name_below : (w : List ℕ) → name_kind w < 34
unfolding name_kind
name_below w = either (is_some (reserved_of w)) 25 21 (omega arith) (omega arith)

finished_below : (text : List ℕ) (b : Code) (to : ℕ) → b.kind < 34 → finished text b to < 34
unfolding finished final_of all_below
finished_below text b to h =
    let z : final_of b.state < 34 = entry_below 34 finals (b.state % 11) (omega arith) tt in
    let y : cond (eqb b.state 6) (name_kind (slice b.name to text)) (final_of b.state) < 34 = either (eqb b.state 6) (name_kind (slice b.name to text)) (final_of b.state) (name_below (slice b.name to text)) z in
    let x : cond (eqb b.state 4) (word_kind (slice b.from to text)) (cond (eqb b.state 6) (name_kind (slice b.name to text)) (final_of b.state)) < 34 =
    either (eqb b.state 4) (word_kind (slice b.from to text)) (cond (eqb b.state 6) (name_kind (slice b.name to text)) (final_of b.state)) (word_below (slice b.from to text)) y in
    either (eqb b.state 10) b.kind _ h
    (either (eqb b.state 2) (cond (ltb 2147483648 b.value) 32 23) _ (either (ltb 2147483648 b.value) 32 23 (omega arith) (omega arith)) x)

-- What was begun has a kind of the table, and began before.
record Sane (b : Code) (i : ℕ) : Type 0 where
  kind : b.kind < 34
  begun : b.from ≤ i

which : (t : Bool) (x y : Code) (i : ℕ) → Sane x i → Sane y i → Sane (cond t x y) i
which true x y i h k = h
which false x y i h k = k

goes : (b : Code) (c i : ℕ) → Sane b i → Sane (advanced b c i (i + 1)) (i + 1)
unfolding advanced
goes b c i s = let h = s.begun in
    which (eqb (next_of b.state (char_of c)) 15) (record { state = begin_of (char_of c); kind = char_of c / 16; value = more_of 0 c; from = i; name = i + 1 })
    (record { state = next_of b.state (char_of c); kind = b.kind; value = more_of b.value c; from = b.from; name = b.name }) (i + 1)
    (record { kind = chars_below c; begun = omega arith }) (record { kind = s.kind; begun = omega arith })

scan_sane : (text cs : List ℕ) (b : Code) (i : ℕ) → i + length cs ≡ length text → Sane b i → ((scan_from text b i cs).kind < 34) × ((scan_from text b i cs).from ≤ length text)
unfolding scan_from token
scan_sane text [] b i l s = let h = s.begun in (finished_below text b i s.kind, omega arith)
scan_sane text (c ∷ cs) b i l s = go (whole_at b c) (scan_sane text cs (advanced b c i (i + 1)) (i + 1) (omega arith) (goes b c i s))
  where
    go : (t : Bool) → ((scan_from text (advanced b c i (i + 1)) (i + 1) cs).kind < 34) × ((scan_from text (advanced b c i (i + 1)) (i + 1) cs).from ≤ length text)
        → ((cond t (token text b i) (scan_from text (advanced b c i (i + 1)) (i + 1) cs)).kind < 34) × ((cond t (token text b i) (scan_from text (advanced b c i (i + 1)) (i + 1) cs)).from ≤ length text)
    go true e = let h = s.begun in (finished_below text b i s.kind, omega arith)
    go false e = e

pub in_text : (text : List ℕ) (at : ℕ) → at ≤ length text → ((scanned text at).kind < 34) × ((scanned text at).from ≤ length text)
unfolding scanned nothing
in_text text at h = scan_sane text (drop at text) (nothing at) at (let e = length-drop at text in omega arith) (record { kind = omega arith; begun = omega arith })
