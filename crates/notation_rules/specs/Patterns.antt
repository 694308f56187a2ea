-- Patterns: the notation's precedence, its writing with as few brackets as that allows, and its reading.
use Rattle.std.specs.Prelude.{ℕ, zero, suc, Bool, true, false, List, [], ◌∷◌, length, ltb, ℤ, pos, negsuc}
use Rattle.rules.specs.Limits.{largest_width}
use Rattle.rules.specs.Forms.{Pattern, wildcard, variable, constant, value, nil, cons, join, tuple, both, either, never, Patterns, no_patterns, ◌▸ᵖ◌}
use Rattle.notation_rules.specs.Tokens.{Cause, cut_short, bracket_open, over_limit, Sign, consing, joining, anding, oring}
use Rattle.notation_rules.specs.Tokens.{underscore, hash, bang, plus, minus, comma, opening, closing, left, right}
use Rattle.notation_rules.specs.Tokens.{Token, mark, sign, binds, uses, number, wrong, Step, next, no, Entry, ◌⇒◌, ◌refuses◌, look, numeral, ranged, Ended, is, lacks, Machine}

-- ---- Precedence: `|` 1, `&` 2, `::` and `++` 3, `!` 4; all signs group to the right.
unfoldable pub level : Sign → ℕ
level oring = 1
level anding = 2
level consing = 3
level joining = 3

unfoldable pub build : Sign → Pattern → Pattern → Pattern
build oring = either
build anding = both
build consing = cons
build joining = join

-- ---- Writing, in front of the tokens that follow. A pattern of level k stands in a place that asks for n bare or in brackets.
unfoldable pub wrap : ℕ → ℕ → (List Token → List Token) → List Token → List Token
wrap k n w ts = elim (ltb k n) [ true ↦ mark opening ∷ w (mark closing ∷ ts) | false ↦ w ts ]

unfoldable pub write_constant : ℤ → List Token → List Token
write_constant (pos n) ts = mark hash ∷ number n ∷ ts
write_constant (negsuc n) ts = mark hash ∷ mark minus ∷ number (suc n) ∷ ts

unfoldable pub write_value : ℤ → ℤ → List Token → List Token
write_value v (pos zero) ts = mark hash ∷ uses v ∷ ts
write_value v (pos (suc n)) ts = mark hash ∷ mark opening ∷ uses v ∷ mark plus ∷ number (suc n) ∷ mark closing ∷ ts
write_value v (negsuc n) ts = mark hash ∷ mark opening ∷ uses v ∷ mark minus ∷ number (suc n) ∷ mark closing ∷ ts

unfoldable mutual
  unfolding level wrap write_constant write_value

  pub write : ℕ → Pattern → List Token → List Token
  write n wildcard ts = mark underscore ∷ ts
  write n nil ts = mark left ∷ mark right ∷ ts
  write n (variable v) ts = binds v ∷ ts
  write n (constant c) ts = write_constant c ts
  write n (value v c) ts = write_value v c ts
  write n (cons p q) ts = wrap 3 n (λ us. write 4 p (sign consing ∷ write 3 q us)) ts
  write n (join p q) ts = wrap 3 n (λ us. write 4 p (sign joining ∷ write 3 q us)) ts
  write n (both p q) ts = wrap 2 n (λ us. write 3 p (sign anding ∷ write 2 q us)) ts
  write n (either p q) ts = wrap 1 n (λ us. write 2 p (sign oring ∷ write 1 q us)) ts
  write n (never p) ts = wrap 4 n (λ us. mark bang ∷ write 4 p us) ts
  write n (tuple ps) ts = mark opening ∷ write_parts ps ts

  pub write_parts : Patterns → List Token → List Token
  write_parts no_patterns ts = mark closing ∷ ts
  write_parts (p ▸ᵖ ps) ts = write 1 p (write_rest ps ts)

  pub write_rest : Patterns → List Token → List Token
  write_rest no_patterns ts = mark closing ∷ ts
  write_rest (p ▸ᵖ ps) ts = mark comma ∷ write 1 p (write_rest ps ts)

-- ---- Reading. What waits for its right end: a sign with its left side, a `!`, and a bracket with the parts before, the last one first.
pub data Frame : Type 0 where
  waiting : Sign → Pattern → Frame
  denied : Frame
  opened : List Pattern → Frame

-- Where the reader stands: before a pattern, after `[`, `#`, `# -`, `# (`, `# ( x`, `# ( x +` or `# ( x -`, and before the bracket after that.
pub data Place : Type 0 where
  want bracket hashed negative inner : Place
  named : ℤ → Place
  signed : ℤ → (negative : Bool) → Place
  shutting : Pattern → Place

pub data Mode : Type 0 where
  ◌on◌ : Place → List Frame → Mode
  have : Pattern → List Frame → Mode

infix 66 ◌on◌
unfoldable pub depth : Frame → ℕ
unfolding level
depth (waiting s p) = level s
depth denied = 4
depth (opened qs) = 0

unfoldable pub finish : Frame → Pattern → Pattern
unfolding build
finish (waiting s p) q = build s p q
finish denied q = never q
finish (opened qs) q = q

-- All that is tighter than l ends here.
unfoldable pub collapse : {A : Type 0} → ℕ → (Pattern → List Frame → A) → Pattern → List Frame → A
unfolding depth finish
collapse l k p [] = k p []
collapse l k p (f ∷ fs) = elim (ltb l (depth f)) [ true ↦ collapse l k (finish f p) fs | false ↦ k p (f ∷ fs) ]

unfoldable pub onto : List Pattern → Patterns → Patterns
onto [] ps = ps
onto (q ∷ qs) ps = onto qs (q ▸ᵖ ps)

-- What a bracket holds at its end: one pattern is that pattern.
unfoldable pub grouped : List Pattern → Pattern → Pattern
unfolding onto
grouped [] p = p
grouped (q ∷ qs) p = tuple (onto (q ∷ qs) (p ▸ᵖ no_patterns))

-- A comma after the part p, with qs before it.
unfoldable pub parts : Pattern → List Pattern → List Frame → Entry Mode
parts p qs fs = elim (ltb (suc (length qs)) largest_width) [ true ↦ comma ⇒ (want on opened (p ∷ qs) ∷ fs) | false ↦ comma refuses over_limit ]

unfoldable pub parted : Pattern → List Frame → List (Entry Mode)
unfolding grouped parts
parted p [] = []
parted p (waiting s q ∷ fs) = []
parted p (denied ∷ fs) = []
parted p (opened qs ∷ fs) = closing ⇒ have (grouped qs p) fs ∷ parts p qs fs ∷ []

unfoldable pub at_mark : Place → List Frame → List (Entry Mode)
at_mark want fs =
    underscore ⇒ have wildcard fs
    ∷ left ⇒ (bracket on fs)
    ∷ hash ⇒ (hashed on fs)
    ∷ bang ⇒ (want on denied ∷ fs)
    ∷ opening ⇒ (want on opened [] ∷ fs)
    ∷ []
at_mark bracket fs = right ⇒ have nil fs ∷ []
at_mark hashed fs = minus ⇒ (negative on fs) ∷ opening ⇒ (inner on fs) ∷ []
at_mark negative fs = []
at_mark inner fs = []
at_mark (named v) fs = plus ⇒ (signed v false on fs) ∷ minus ⇒ (signed v true on fs) ∷ []
at_mark (signed v b) fs = []
at_mark (shutting p) fs = closing ⇒ have p fs ∷ []

unfoldable pub at_binding : Place → List Frame → ℤ → Step Mode
at_binding want fs v = next (have (variable v) fs)
at_binding bracket fs v = no
at_binding hashed fs v = no
at_binding negative fs v = no
at_binding inner fs v = no
at_binding (named u) fs v = no
at_binding (signed u b) fs v = no
at_binding (shutting p) fs v = no

unfoldable pub at_use : Place → List Frame → ℤ → Step Mode
at_use want fs v = no
at_use bracket fs v = no
at_use hashed fs v = next (have (value v (pos 0)) fs)
at_use negative fs v = no
at_use inner fs v = next (named v on fs)
at_use (named u) fs v = no
at_use (signed u b) fs v = no
at_use (shutting p) fs v = no

unfoldable pub at_number : Place → List Frame → ℕ → Step Mode
unfolding numeral ranged
at_number want fs n = no
at_number bracket fs n = no
at_number hashed fs n = ranged (pos n) (have (constant (pos n)) fs)
at_number negative fs n = ranged (numeral true n) (have (constant (numeral true n)) fs)
at_number inner fs n = no
at_number (named v) fs n = no
at_number (signed v b) fs n = ranged (numeral b n) (shutting (value v (numeral b n)) on fs)
at_number (shutting p) fs n = no

-- How far a token reaches back after a pattern.
unfoldable pub reach : Token → ℕ
unfolding level
reach (mark m) = 0
reach (sign s) = level s
reach (binds v) = 0
reach (uses v) = 0
reach (number n) = 0
reach (wrong c) = 0

unfoldable pub after : Token → Pattern → List Frame → Step Mode
unfolding look parted
after (mark m) p fs = look (parted p fs) m
after (sign s) p fs = next (want on waiting s p ∷ fs)
after (binds v) p fs = no
after (uses v) p fs = no
after (number n) p fs = no
after (wrong c) p fs = no

unfoldable pub take : Mode → Token → Step Mode
unfolding look at_mark at_binding at_use at_number collapse reach after
take (have p fs) t = collapse (reach t) (after t) p fs
take (x on fs) (mark m) = look (at_mark x fs) m
take (x on fs) (sign s) = no
take (x on fs) (binds v) = at_binding x fs v
take (x on fs) (uses v) = at_use x fs v
take (x on fs) (number n) = at_number x fs n
take (x on fs) (wrong c) = no

-- Why a text may not end: a bracket is open, or there is none.
unfoldable pub lacking : List Frame → Cause
lacking [] = cut_short
lacking (waiting s p ∷ fs) = lacking fs
lacking (denied ∷ fs) = lacking fs
lacking (opened qs ∷ fs) = bracket_open

unfoldable pub unfinished : Place → List Frame → Cause
unfolding lacking
unfinished want fs = lacking fs
unfinished bracket fs = bracket_open
unfinished hashed fs = lacking fs
unfinished negative fs = lacking fs
unfinished inner fs = bracket_open
unfinished (named v) fs = bracket_open
unfinished (signed v b) fs = bracket_open
unfinished (shutting p) fs = bracket_open

unfoldable pub alone : Pattern → List Frame → Ended Pattern
unfolding lacking
alone p [] = is p
alone p (f ∷ fs) = lacks (lacking (f ∷ fs))

unfoldable pub ending : Mode → Ended Pattern
unfolding collapse alone unfinished
ending (have p fs) = collapse 0 alone p fs
ending (x on fs) = lacks (unfinished x fs)

unfoldable pub patterns : Machine Mode Pattern
unfolding take ending
patterns = record { step = take; end = ending }
