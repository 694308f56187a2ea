-- What the code of the automaton computes.
use Rattle.std.specs.Prelude.{ℕ, zero, suc, ◌+◌, ◌-◌, ◌*◌, ◌/◌, ◌%◌, Bool, false, cond, List, [], ◌∷◌, ◌++◌, get_or, drop, take, set, eqb, ltb, leb, ℤ, Option, Some, None}
use Rattle.std.specs.Int.{w32}
use Rattle.std.proofs.Common.{to_z}
use Rattle.notation_step.specs.declared.Stand.{Stand}
use Rattle.notation_step.specs.declared.Waiting.{Waiting}
use Rattle.notation_step.specs.declared.Numeral.{Numeral}
use Rattle.notation_step.specs.declared.Numeral.TheVariants.{Plain, Negative, Variable}
use Rattle.notation_step.specs.declared.Deed.{Deed}
use Rattle.notation_step.specs.declared.Deed.TheVariants.{Append, Sign, Close, Comma, Empty, Section}

-- The code's tables.
abbrev pub actions : List ℕ
actions = 0 ∷ 0 ∷ 0 ∷ 0 ∷ 0 ∷ 0 ∷ 0 ∷ 0 ∷ 0 ∷ 0 ∷ 0 ∷ 0 ∷ 0 ∷ 0 ∷ 9 ∷ 62 ∷ 0 ∷ 0 ∷ 0 ∷ 0 ∷ 0 ∷ 0 ∷ 0 ∷ 0 ∷ 0 ∷ 0 ∷ 0 ∷ 0 ∷ 25 ∷ 0 ∷ 32777 ∷ 0 ∷ 294921 ∷ 0 ∷ 0 ∷ 0 ∷ 0 ∷ 0 ∷ 0 ∷ 0 ∷ 0 ∷ 0 ∷ 0 ∷ 0 ∷ 0 ∷ 0 ∷ 0 ∷ 4385 ∷ 0 ∷ 0 ∷ 0 ∷ 0 ∷ 25 ∷ 0 ∷ 32777 ∷ 0 ∷ 294921 ∷ 549 ∷ 0 ∷ 0 ∷ 0 ∷ 0 ∷ 0 ∷ 0 ∷ 0 ∷ 0 ∷ 0 ∷ 0 ∷ 0 ∷ 0 ∷ 0 ∷ 4385 ∷ 0 ∷ 0 ∷ 0 ∷ 0 ∷ 0 ∷ 0 ∷ 0 ∷ 0 ∷ 0 ∷ 0 ∷ 0 ∷ 0 ∷ 0 ∷ 0 ∷ 0 ∷ 0 ∷ 0 ∷ 0 ∷ 0 ∷ 0 ∷ 0 ∷ 0 ∷ 0 ∷ 8481 ∷ 0 ∷ 0 ∷ 0 ∷ 0 ∷ 0 ∷ 0 ∷ 0 ∷ 0 ∷ 0 ∷ 0 ∷ 0 ∷ 0 ∷ 0 ∷ 0 ∷ 0 ∷ 62 ∷ 0 ∷ 0 ∷ 0 ∷ 0 ∷ 0 ∷ 0 ∷ 0 ∷ 0 ∷ 0 ∷ 0 ∷ 0 ∷ 0 ∷ 0 ∷ 12 ∷ 0 ∷ 0 ∷ 0 ∷ 547 ∷ 0 ∷ 0 ∷ 0 ∷ 0 ∷ 0 ∷ 0 ∷ 0 ∷ 0 ∷ 0 ∷ 0 ∷ 0 ∷ 0 ∷ 0 ∷ 0 ∷ 0 ∷ 0 ∷ 0 ∷ 0 ∷ 0 ∷ 12 ∷ 0 ∷ 803 ∷ 0 ∷ 0 ∷ 0 ∷ 0 ∷ 0 ∷ 0 ∷ 0 ∷ 0 ∷ 0 ∷ 0 ∷ 0 ∷ 0 ∷ 0 ∷ 0 ∷ 0 ∷ 0 ∷ 0 ∷ 0 ∷ 0 ∷ 0 ∷ 0 ∷ 0 ∷ 32825 ∷ 0 ∷ 0 ∷ 0 ∷ 329 ∷ 585 ∷ 197441 ∷ 197697 ∷ 0 ∷ 0 ∷ 0 ∷ 0 ∷ 0 ∷ 0 ∷ 0 ∷ 0 ∷ 0 ∷ 0 ∷ 0 ∷ 0 ∷ 0 ∷ 0 ∷ 0 ∷ 0 ∷ 32825 ∷ 0 ∷ 0 ∷ 0 ∷ 329 ∷ 585 ∷ 0 ∷ 0 ∷ 0 ∷ 0 ∷ 0 ∷ 0 ∷ 0 ∷ 0 ∷ 0 ∷ 0 ∷ 0 ∷ 0 ∷ 0 ∷ 0 ∷ 0 ∷ 0 ∷ 0 ∷ 0 ∷ 0 ∷ 0 ∷ 0 ∷ 0 ∷ 0 ∷ 0 ∷ 0 ∷ 0 ∷ 0 ∷ 0 ∷ 94 ∷ 0 ∷ 0 ∷ 0 ∷ 0 ∷ 0 ∷ 0 ∷ 0 ∷ 0 ∷ 0 ∷ 0 ∷ 0 ∷ 0 ∷ 60 ∷ 0 ∷ 1355 ∷ 0 ∷ 0 ∷ 0 ∷ 0 ∷ 0 ∷ 0 ∷ 0 ∷ 0 ∷ 0 ∷ 0 ∷ 0 ∷ 0 ∷ 0 ∷ 0 ∷ 0 ∷ 0 ∷ 417 ∷ 105 ∷ 166745 ∷ 0 ∷ 0 ∷ 0 ∷ 32857 ∷ 0 ∷ 97 ∷ 0 ∷ 0 ∷ 0 ∷ 0 ∷ 0 ∷ 0 ∷ 0 ∷ 0 ∷ 0 ∷ 0 ∷ 0 ∷ 0 ∷ 12961 ∷ 0 ∷ 0 ∷ 0 ∷ 0 ∷ 0 ∷ 0 ∷ 0 ∷ 0 ∷ 0 ∷ 0 ∷ 0 ∷ 1441 ∷ 0 ∷ 0 ∷ 0 ∷ 0 ∷ 0 ∷ 0 ∷ 0 ∷ 0 ∷ 0 ∷ 0 ∷ 0 ∷ 0 ∷ 0 ∷ 0 ∷ 0 ∷ 0 ∷ 0 ∷ 0 ∷ 113 ∷ 0 ∷ 121 ∷ 0 ∷ 0 ∷ 0 ∷ 0 ∷ 0 ∷ 0 ∷ 0 ∷ 0 ∷ 0 ∷ 0 ∷ 0 ∷ 0 ∷ 0 ∷ 0 ∷ 0 ∷ 29857 ∷ 5025 ∷ 0 ∷ 0 ∷ 0 ∷ 0 ∷ 0 ∷ 0 ∷ 0 ∷ 0 ∷ 0 ∷ 0 ∷ 0 ∷ 0 ∷ 0 ∷ 0 ∷ 0 ∷ 0 ∷ 0 ∷ 0 ∷ 0 ∷ 0 ∷ 0 ∷ 0 ∷ 0 ∷ 9121 ∷ 0 ∷ 0 ∷ 0 ∷ 0 ∷ 0 ∷ 0 ∷ 0 ∷ 0 ∷ 0 ∷ 0 ∷ 0 ∷ 0 ∷ 0 ∷ 0 ∷ 0 ∷ 0 ∷ 0 ∷ 0 ∷ 0 ∷ 0 ∷ 0 ∷ 0 ∷ 13441 ∷ 0 ∷ 0 ∷ 0 ∷ 0 ∷ 137 ∷ 145 ∷ 0 ∷ 0 ∷ 0 ∷ 0 ∷ 0 ∷ 0 ∷ 0 ∷ 0 ∷ 0 ∷ 0 ∷ 0 ∷ 0 ∷ 0 ∷ 0 ∷ 0 ∷ 0 ∷ 0 ∷ 0 ∷ 0 ∷ 0 ∷ 0 ∷ 0 ∷ 0 ∷ 0 ∷ 0 ∷ 0 ∷ 0 ∷ 0 ∷ 0 ∷ 0 ∷ 0 ∷ 0 ∷ 0 ∷ 0 ∷ 0 ∷ 0 ∷ 0 ∷ 0 ∷ 0 ∷ 0 ∷ 0 ∷ 0 ∷ 4249 ∷ 0 ∷ 0 ∷ 0 ∷ 0 ∷ 0 ∷ 0 ∷ 0 ∷ 0 ∷ 0 ∷ 0 ∷ 0 ∷ 0 ∷ 0 ∷ 0 ∷ 0 ∷ 0 ∷ 0 ∷ 0 ∷ 0 ∷ 0 ∷ 0 ∷ 0 ∷ 0 ∷ 8345 ∷ 0 ∷ 0 ∷ 0 ∷ 0 ∷ 0 ∷ 0 ∷ 0 ∷ 161 ∷ 0 ∷ 0 ∷ 0 ∷ 0 ∷ 0 ∷ 0 ∷ 0 ∷ 0 ∷ 0 ∷ 0 ∷ 0 ∷ 0 ∷ 0 ∷ 0 ∷ 0 ∷ 0 ∷ 0 ∷ 0 ∷ 0 ∷ 0 ∷ 0 ∷ 0 ∷ 0 ∷ 0 ∷ 0 ∷ 0 ∷ 0 ∷ 0 ∷ 0 ∷ 0 ∷ 0 ∷ 0 ∷ 0 ∷ 132698 ∷ 132954 ∷ 100698 ∷ 68186 ∷ 0 ∷ 0 ∷ 0 ∷ 0 ∷ 0 ∷ 0 ∷ 0 ∷ 0 ∷ 92 ∷ 0 ∷ 2211 ∷ 0 ∷ 0 ∷ 0 ∷ 0 ∷ 0 ∷ 0 ∷ 0 ∷ 0 ∷ 0 ∷ 132698 ∷ 132954 ∷ 100698 ∷ 68186 ∷ 0 ∷ 0 ∷ 0 ∷ []

abbrev pub rows : List ℕ
rows = 0 ∷ 0 ∷ 0 ∷ 0 ∷ 1 ∷ 1 ∷ 1 ∷ 2 ∷ 2 ∷ 2 ∷ 2 ∷ 2 ∷ 3 ∷ 3 ∷ 3 ∷ 3 ∷ 4 ∷ 6 ∷ 5 ∷ 5 ∷ 5 ∷ 5 ∷ 5 ∷ 5 ∷ 6 ∷ 6 ∷ 6 ∷ 6 ∷ 7 ∷ 7 ∷ 7 ∷ 7 ∷ 8 ∷ 8 ∷ 8 ∷ 8 ∷ 9 ∷ 10 ∷ 9 ∷ 9 ∷ 10 ∷ 10 ∷ 10 ∷ 10 ∷ 11 ∷ 11 ∷ 11 ∷ 11 ∷ 12 ∷ 12 ∷ 12 ∷ 12 ∷ 13 ∷ 13 ∷ 13 ∷ 13 ∷ 14 ∷ 14 ∷ 14 ∷ 14 ∷ 15 ∷ 15 ∷ 15 ∷ 15 ∷ 16 ∷ 16 ∷ 16 ∷ 16 ∷ 17 ∷ 17 ∷ 17 ∷ 17 ∷ 18 ∷ 18 ∷ 18 ∷ 18 ∷ 19 ∷ 19 ∷ 19 ∷ 19 ∷ 20 ∷ 21 ∷ 20 ∷ 20 ∷ 21 ∷ 21 ∷ 21 ∷ 21 ∷ []

abbrev pub reaches : List ℕ
reaches = 0 ∷ 0 ∷ 0 ∷ 0 ∷ 0 ∷ 0 ∷ 0 ∷ 0 ∷ 0 ∷ 0 ∷ 0 ∷ 0 ∷ 0 ∷ 0 ∷ 0 ∷ 0 ∷ 0 ∷ 3 ∷ 3 ∷ 2 ∷ 1 ∷ 0 ∷ 0 ∷ 0 ∷ []

abbrev pub ends : List ℕ
ends = 3 ∷ 3 ∷ 3 ∷ 3 ∷ 3 ∷ 3 ∷ 3 ∷ 3 ∷ 3 ∷ 3 ∷ 3 ∷ 3 ∷ 4 ∷ 3 ∷ 3 ∷ 4 ∷ 4 ∷ 4 ∷ 4 ∷ 4 ∷ 0 ∷ 3 ∷ []

-- ---- Words.
-- The words from index j on, with c before them as far as there are words.
unfoldable pub shifted : (len j : ℕ) → ℤ → List ℤ → List ℤ
shifted len j c [] = []
shifted len j c (x ∷ xs) = cond (ltb len j) (x ∷ xs) (c ∷ shifted len (j + 1) x xs)

unfoldable pub inserted : List ℤ → (len at : ℕ) → ℤ → List ℤ
unfolding shifted
inserted ws len at w = take at ws ++ shifted len at w (drop at ws)

-- Words, and how many there are.
pub record Puts : Type 0 where
  pub words : List ℤ
  pub len : ℕ

unfoldable pub puts : List ℤ → ℕ → Puts
puts ws n = record { words = ws; len = n }

unfoldable pub putting_some : List ℤ → (len some u : ℕ) → Puts
unfolding puts inserted
putting_some ws len some u = cond (eqb some 0) (puts ws len) (puts (inserted ws len len (to_z w32 u)) (len + 1))

-- The same of a word, where there is one.
unfoldable pub putting : List ℤ → (len : ℕ) → Option ℕ → Puts
unfolding puts inserted
putting ws len None = puts ws len
putting ws len (Some u) = puts (inserted ws len len (to_z w32 u)) (len + 1)

unfoldable pub heading : List ℤ → (len start : ℕ) → (bare : Bool) → (tag parts : ℕ) → Puts
unfolding puts inserted
heading ws len start bare tag parts = cond bare (puts ws len) (puts (inserted (inserted ws len start (to_z w32 parts)) (len + 1) start (to_z w32 tag)) (len + 2))

-- The bits of a number's word.
unfoldable pub bits_of : (mode value : ℕ) → ℕ
bits_of mode value = cond (eqb mode 2) ((4294967296 - value % 4294967296) % 4294967296) (value % 4294967296)

-- ---- What waits.
abbrev pub nothing : Waiting
nothing = record { tight = 0; start = 0; parts = 0 }

unfoldable pub waiting_at : List Waiting → (j : ℕ) → Waiting
waiting_at stack j = cond (ltb j 16384) (get_or stack j nothing) nothing

unfoldable pub put_at : List Waiting → (j : ℕ) → Waiting → List Waiting
put_at stack j x = cond (ltb j 16384) (set stack j x) stack

pub record Pile : Type 0 where
  pub stack : List Waiting
  pub top : ℕ

unfoldable pub piled : List Waiting → ℕ → Pile
piled stack top = record { stack = stack; top = top }

unfoldable pub pushed : List Waiting → (top some start : ℕ) → Pile
unfolding piled put_at
pushed stack top some start = cond (eqb some 0) (piled stack top) (piled (put_at stack top (record { tight = (some % 16 + 15) % 16; start = start; parts = 0 })) (top + 1))

-- The same of how tight it is, where something waits.
unfoldable pub pushing : List Waiting → (top : ℕ) → Option ℕ → (start : ℕ) → Pile
unfolding piled put_at
pushing stack top None start = piled stack top
pushing stack top (Some tight) start = piled (put_at stack top (record { tight = tight; start = start; parts = 0 })) (top + 1)

-- ---- Tables.
unfoldable pub reach_of : (place kind : ℕ) → ℕ
reach_of place kind = cond (eqb place 9) 0 (cond (eqb place 20) (get_or reaches (kind % 24) 0) 9)

unfoldable pub shade_of : List Waiting → (top : ℕ) → ℕ
unfolding waiting_at
shade_of stack top = cond (eqb top 0) 0
    (cond (eqb (waiting_at stack (top - 1)).tight 0) 1
    (cond (eqb (waiting_at stack (top - 1)).tight 8) (cond (eqb (waiting_at stack (top - 1)).parts 0) 3 2) 0))

unfoldable pub row_of : (place shade : ℕ) → ℕ
row_of place shade = get_or rows ((place % 22 * 4 + shade % 4) % 88) 0

unfoldable pub action_of : (row kind : ℕ) → ℕ
action_of row kind = get_or actions ((row % 22 * 24 + kind % 24) % 528) 0

-- ---- Where the automaton stands.
-- Before the first token.
unfoldable pub first : Stand
first = record { place = 0; top = 0; len = 0; start = 0; matcher = 0; pattern = 0; cause = 0 }

unfoldable pub placed : Stand → (top start : ℕ) → Stand
placed s top start = record { place = s.place; top = top; len = s.len; start = start; matcher = s.matcher; pattern = s.pattern; cause = s.cause }

-- All that is tighter ends here, from the top down.
unfoldable pub settling : List Waiting → Stand → (reach : ℕ) → (top start : ℕ) → Stand
unfolding placed waiting_at
settling stack s reach zero start = placed s 0 start
settling stack s reach (suc top) start = cond (leb ((waiting_at stack top).tight % 8) reach) (placed s (suc top) start) (settling stack s reach top (waiting_at stack top).start)

unfoldable pub settled : List Waiting → Stand → (reach : ℕ) → Stand
unfolding settling
settled stack s reach = settling stack s reach s.top s.start

unfoldable pub refused : Stand → (cause : ℕ) → Stand
refused s c = record { place = s.place; top = s.top; len = s.len; start = s.start; matcher = s.matcher; pattern = s.pattern; cause = c }

unfoldable pub start_of : Stand → (tag : ℕ) → ℕ
start_of s tag = cond (eqb tag 0) s.start s.len

-- Whether a bracket's end has no words.
unfoldable pub bare_by : (kind count : ℕ) → Bool
bare_by kind count = cond (eqb kind 0) (eqb count 0) false

pub record View : Type 0 where
  pub stand : Stand
  pub stack : List Waiting
  pub words : List ℤ

unfoldable pub view : Stand → List Waiting → List ℤ → View
view s stack words = record { stand = s; stack = stack; words = words }

-- The bits of an action.
abbrev pub next_place : ℕ → ℕ
next_place a = a / 8 % 32

abbrev pub tag_bits : ℕ → ℕ
tag_bits a = a / 256 % 16

abbrev pub mode_bits : ℕ → ℕ
mode_bits a = a / 4096 % 4

abbrev pub tag_word : ℕ → ℕ
tag_word a = (tag_bits a + 15) % 16

-- A number that says one less, or nothing where it is 0; and the number that says it.
unfoldable pub one_lower : ℕ → Option ℕ
one_lower zero = None
one_lower (suc n) = Some n

unfoldable pub one_higher : Option ℕ → ℕ
one_higher None = 0
one_higher (Some n) = suc n

unfoldable pub mode_of : Option Numeral → ℕ
mode_of None = 0
mode_of (Some Plain) = 1
mode_of (Some Negative) = 2
mode_of (Some Variable) = 3

unfoldable pub zero_of : ℕ → Option ℕ
zero_of a = cond (eqb (a / 16384 % 2) 1) (Some 0) None

-- What a token does; nothing, where it cannot stand.
unfoldable pub deed_of : ℕ → Option Deed
deed_of n = cond (eqb n 1) (Some Append) (cond (eqb n 2) (Some Sign) (cond (eqb n 3) (Some Close) (cond (eqb n 4) (Some Comma) (cond (eqb n 5) (Some Empty) (cond (eqb n 6) (Some Section) None)))))

unfoldable pub appended : List Waiting → List ℤ → Stand → (a value : ℕ) → View
unfolding view putting_some bits_of pushed start_of
appended stack words s a value =
    let n : Puts = putting_some words s.len (tag_bits a) (tag_word a) in
    let m : Puts = putting_some n.words n.len (mode_bits a) (bits_of (mode_bits a) value) in
    let l : Puts = putting_some m.words m.len (a / 16384 % 2) 0 in
    let q : Pile = pushed stack s.top (a / 32768 % 16) s.len in
    view (record { place = next_place a; top = q.top; len = l.len; start = start_of s (tag_bits a); matcher = s.matcher; pattern = s.pattern; cause = 0 }) q.stack l.words

unfoldable pub too_large : (mode value : ℕ) → Bool
too_large mode value = cond (eqb mode 1) (leb 2147483648 value) (cond (eqb mode 2) (ltb 2147483648 value) false)

unfoldable pub appending : List Waiting → List ℤ → Stand → (a value : ℕ) → View
unfolding appended refused view too_large
appending stack words s a value = cond (too_large (mode_bits a) value) (view (refused s 8) stack words) (appended stack words s a value)

unfoldable pub signing : List Waiting → List ℤ → Stand → (a : ℕ) → View
unfolding view inserted pushed
signing stack words s a =
    let q : Pile = pushed stack s.top (a / 32768 % 16) s.start in
    view (record { place = next_place a; top = q.top; len = s.len + 1; start = s.start; matcher = s.matcher; pattern = s.pattern; cause = 0 }) q.stack (inserted words s.len s.start (to_z w32 (tag_word a)))

unfoldable pub closing : List Waiting → List ℤ → Stand → (a more : ℕ) → View
unfolding view heading bare_by waiting_at bits_of
closing stack words s a more =
    let j : ℕ = s.top - 1 in
    let h : Puts = heading words s.len (waiting_at stack j).start (bare_by (waiting_at stack j).tight (waiting_at stack j).parts) (tag_word a) (bits_of 0 ((waiting_at stack j).parts % 1048576 + more)) in
    view (record { place = next_place a; top = j; len = h.len; start = (waiting_at stack j).start; matcher = s.matcher; pattern = s.pattern; cause = 0 }) stack h.words

-- Whether a comma is one too many.
unfoldable pub crowded_by : (kind count : ℕ) → Bool
crowded_by kind count = cond (eqb kind 0) (leb 3 count) false

unfoldable pub crowded : List Waiting → Stand → Bool
unfolding waiting_at crowded_by
crowded stack s = crowded_by (waiting_at stack (s.top - 1)).tight (waiting_at stack (s.top - 1)).parts

unfoldable pub comma_stand : List Waiting → Stand → (a : ℕ) → Stand
unfolding crowded refused
comma_stand stack s a = cond (crowded stack s) (refused s 9)
    (record { place = next_place a; top = s.top; len = s.len; start = s.start; matcher = s.matcher; pattern = s.pattern; cause = 0 })

unfoldable pub comma_stack : List Waiting → Stand → List Waiting
unfolding crowded put_at waiting_at
comma_stack stack s = cond (crowded stack s) stack (put_at stack (s.top - 1) (record { tight = (waiting_at stack (s.top - 1)).tight; start = (waiting_at stack (s.top - 1)).start; parts = (waiting_at stack (s.top - 1)).parts % 1048576 + 1 }))

unfoldable pub sectioned : Stand → (a : ℕ) → Stand
sectioned s a = record { place = next_place a; top = s.top; len = s.len; start = s.start; matcher = s.pattern; pattern = s.len; cause = 0 }

unfoldable pub taking : List Waiting → List ℤ → Stand → (a value : ℕ) → View
unfolding view appending signing closing comma_stand comma_stack sectioned refused
taking stack words s a value = cond (eqb (a % 8) 1) (appending stack words s a value)
    (cond (eqb (a % 8) 2) (signing stack words s a)
    (cond (eqb (a % 8) 3) (closing stack words s a 1)
    (cond (eqb (a % 8) 4) (view (comma_stand stack s a) (comma_stack stack s) words)
    (cond (eqb (a % 8) 5) (closing stack words s a 0)
    (cond (eqb (a % 8) 6) (view (sectioned s a) stack words)
    (view (refused s 2) stack words))))))

unfoldable pub action_at : List Waiting → Stand → (kind : ℕ) → ℕ
unfolding action_of row_of shade_of
action_at stack s kind = action_of (row_of s.place (shade_of stack s.top)) kind

unfoldable pub stepped : List Waiting → List ℤ → Stand → (kind value : ℕ) → View
unfolding view refused taking action_at settled reach_of
stepped stack words s kind value = cond (leb 24 kind) (view (refused s (kind - 24)) stack words)
    (taking stack words (settled stack s (reach_of s.place kind)) (action_at stack (settled stack s (reach_of s.place kind)) kind) value)

unfoldable pub end_of : List Waiting → Stand → ℕ
unfolding settled
end_of stack s = cond (ltb 0 (settled stack s 0).top) 4 (get_or ends (s.place % 22) 0)
