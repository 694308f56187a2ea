-- The compiler's lines are the program of the pattern: of a rule that is accepted each line means the instruction at its place.
use Prim.Native.Nat.{ℕ, zero, suc, ◌+◌, ◌-◌, ◌%◌, ◌<◌, ◌≤◌}
use Rattle.std.proofs.Common.{mod-eq_of_lt, arith, sym, ◌∙◌, ltb-true, le-ltb, ne_eqb, length-append}
use Rattle.std.specs.Prelude.{◌≡◌, Bool, true, false, cond, eqb, ltb, length, ℤ, pos}
use Rattle.std.proofs.Math.Path.{refl, ap}
use mathlib.Core.List.{List, [], ◌∷◌, ◌++◌, append_assoc}
use Rattle.rules.specs.Forms.{Matcher, something, integer, list, multiset, tuple_of, Matchers, no_matchers, ◌▸ᵐ◌, countᵐ}
use Rattle.rules.specs.Forms.{Pattern, wildcard, nil, variable, constant, value, tuple, both, either, never, Patterns, no_patterns, ◌▸ᵖ◌, countᵖ}
use Rattle.rules.specs.Fit.{members, without_something, is_integer, is_something}
use Rattle.forms.specs.Written.{pattern_words, pattern_words_all}
use Rattle.words.specs.Words.{tag_z, tag_at}
use Rattle.matchers.specs.Places.{matcher_end}
use Rattle.program_rules.specs.Points.{Kind, list_cons, multiset_cons, joins, over, first_by, whole, as_constant, as_value, as_nil, tested, test_by, Sound, Loose, loose_wildcard, loose_variable}
use Rattle.program_rules.specs.Points.{Instr, strip, keep, other, close, drop, bind, test, split, apart, choice, deny, cut_at, Item, item, or_else, end_or, stop, Point, point, else_place, end_place, cutting, finish, reserve, beyond, beside, from, reserved, first_of, others_of, items, parted}
use Rattle.program_rules.specs.Points.{Follows, strips, drops, binds, tests, splits, aparts, keeps, chooses, denies, cuts, elses, closes, reserves, ends, after_end_lem}
use Rattle.tables.specs.declared.line.Line.{Line}
use Rattle.program_rules.specs.Lines.{line, end_line, else_line, fi_line, cut_line, reserved_line, reserved_lines, op_of, operands_of, beyond_two, reserved_by, arg_of, con_of, strip_lines, leaf_line, first_under, second_under}
use Rattle.program_rules.specs.Lines.{Waiting, waits, slot_of, from_by, slot_by, behind_by, others, else_lines, close_line, resumed, divided, lines_from, lines_split, lines_leaf, binding, variables_in, binding_none}
use Rattle.program_rules.specs.Meaning.{MatcherAt, MatchersAt, tag_of, matcher_tag, list_inner, multiset_inner, tuple_inner, matchers_first, matchers_others}
use Rattle.program_rules.specs.Meaning.{Means, means_end, means_strip, means_drop, means_bind, means_constant, means_integer, means_value, means_nil, means_list, means_multiset, means_join, means_tuple, means_keep, means_choice, means_deny, means_cut, means_other, means_close, Leads}
use Rattle.program_rules.specs.Program.{follow_of}
use Rattle.program_rules.specs.Numbered.{Numbered, numbered, number_is, named_is}

-- ---- What waits.

-- The words of the later atoms' patterns.
unfoldable pub item_words : List Item → List ℤ
unfolding pattern_words
item_words [] = []
item_words (item p m c ∷ ts) = pattern_words p ++ item_words ts
item_words (or_else q m ∷ ts) = pattern_words q ++ item_words ts
item_words (end_or ∷ ts) = item_words ts
item_words (stop j ∷ ts) = item_words ts

pub data Parts (ms : List ℤ) : List Waiting → List Item → Type 0 where
  parts_none : Parts ms [] []
  parts : {i c n : ℕ} {p : Pattern} {m : Matcher} {us : List Waiting} {ts : List Item}
      → MatcherAt ms i m → n ≤ 2 → Parts ms (others ms i c n us) ts → Parts ms (waits i c n ∷ us) (item p m c ∷ ts)
  parts_else : {i c : ℕ} {q : Pattern} {m : Matcher} {us : List Waiting} {ts : List Item}
      → MatcherAt ms i m → c ≡ from ts → Parts ms us ts → Parts ms (waits i c 3 ∷ us) (or_else q m ∷ ts)
  parts_end : {i c : ℕ} {us : List Waiting} {ts : List Item} → c ≡ from ts → Parts ms us ts → Parts ms (waits i c 4 ∷ us) (end_or ∷ ts)
  parts_stop : {i j : ℕ} {us : List Waiting} {ts : List Item} → Parts ms us ts → Parts ms (waits i j 5 ∷ us) (stop j ∷ ts)

slot_from : {ms : List ℤ} {us : List Waiting} {ts : List Item} → Parts ms us ts → from ts ≡ slot_of us
unfolding slot_of from
slot_from parts_none = refl
slot_from (parts a l ps) = refl
slot_from (parts_else a e ps) = sym e
slot_from (parts_end e ps) = sym e
slot_from (parts_stop ps) = refl

-- The parts of a tuple after the first, n behind the second.
tuple_parts : (ps : Patterns) (ks : Matchers) {ms : List ℤ} {i c n : ℕ} {q : Pattern} {k : Matcher} {us : List Waiting} {ts : List Item}
    → MatchersAt ms i (k ▸ᵐ ks) → n ≤ 2 → countᵖ ps ≡ n → countᵐ ks ≡ n → Parts ms us ts → Parts ms (waits i c n ∷ us) (item q k c ∷ items ps ks (suc c) ts)
unfolding others items first_of others_of countᵖ countᵐ
tuple_parts no_patterns ks {n = zero} a l e f w = parts (matchers_first a) l w
tuple_parts no_patterns ks {n = suc n} a l e f w = absurd (omega arith)
tuple_parts (p ▸ᵖ ps) no_matchers {n = zero} a l e f w = absurd (omega arith)
tuple_parts (p ▸ᵖ ps) no_matchers {n = suc n} a l e f w = absurd (omega arith)
tuple_parts (p ▸ᵖ ps) (m ▸ᵐ ks) {n = zero} a l e f w = absurd (omega arith)
tuple_parts (p ▸ᵖ ps) (m ▸ᵐ ks) {ms = ms} {i = i} {c = c} {n = suc n} {us = us} {ts = ts} a l e f w =
    let e' : countᵖ ps ≡ n = omega arith in
    let f' : countᵐ ks ≡ n = omega arith in
    let z : others ms i c (suc n) us ≡ waits (matcher_end ms i) (suc c) n ∷ us = rw (ne_eqb n 2 (λ y. omega arith)) in
    let r : Parts ms (waits (matcher_end ms i) (suc c) n ∷ us) (item p m (suc c) ∷ items ps ks (suc (suc c)) ts)
    = tuple_parts ps ks (matchers_others a) (omega arith) e' f' w in
    parts (matchers_first a) l (rw (← z) at r)

item_words_lem : (ps : Patterns) (ks : Matchers) (c : ℕ) (ts : List Item) → item_words (items ps ks c ts) ≡ pattern_words_all ps ++ item_words ts
unfolding items item_words pattern_words_all
item_words_lem no_patterns ks c ts = refl
item_words_lem (p ▸ᵖ ps) ks c ts = rw (append_assoc (pattern_words p) (pattern_words_all ps) (item_words ts), item_words_lem ps (others_of ks) (suc c) ts)

-- ---- The lines of a tag without parts and its operands.

-- The lines of what waits, the first of which are at pc.
unfoldable pub later : List ℤ → List Waiting → ℕ → List ℤ → List Line
unfolding resumed
later ms us pc ws = resumed ms us pc (λ j vs q. lines_from ms 0 j vs q ws)

past : (ms : List ℤ) (ops : List ℤ) (i : ℕ) (us : List Waiting) (pc : ℕ) (ws : List ℤ) → lines_from ms (length ops) i us pc (ops ++ ws) ≡ lines_from ms 0 i us pc ws
unfolding lines_from
past ms [] i us pc ws = refl
past ms (x ∷ ops) i us pc ws = past ms ops i us pc ws

pub resumed_same : (ms : List ℤ) (us : List Waiting) (pc : ℕ) (f g : ℕ → List Waiting → ℕ → List Line) → ((j : ℕ) (vs : List Waiting) (q : ℕ) → f j vs q ≡ g j vs q)
    → resumed ms us pc f ≡ resumed ms us pc g
unfolding resumed
resumed_same ms [] pc f g h = refl
resumed_same ms (waits i c n ∷ us) pc f g h = rw (resumed_same ms us (suc pc) f g h, h i (others ms i c n us) (pc + length (else_lines n)))

past_all : (ms : List ℤ) (ops : List ℤ) (us : List Waiting) (pc : ℕ) (ws : List ℤ)
    → resumed ms us pc (λ j vs q. lines_from ms (length ops) j vs q (ops ++ ws)) ≡ later ms us pc ws
unfolding later
past_all ms ops us pc ws = resumed_same ms us pc _ _ (λ j vs q. past ms ops j vs q ws)

-- A part that waits is what comes.
part_lines : (ms : List ℤ) (i c n : ℕ) (us : List Waiting) (pc : ℕ) (ws : List ℤ) → n ≤ 2 → later ms (waits i c n ∷ us) pc ws ≡ lines_from ms 0 i (others ms i c n us) pc ws
unfolding later resumed else_lines
part_lines ms i c n us pc ws l = let z : pc + 0 ≡ pc = omega arith in rw (le-ltb 3 n (omega arith), ne_eqb n 3 (λ e. omega arith), z)

else_lines_lem : (ms : List ℤ) (i c : ℕ) (us : List Waiting) (pc : ℕ) (ws : List ℤ) → later ms (waits i c 3 ∷ us) pc ws ≡ else_line ∷ lines_from ms 0 i (waits i c 4 ∷ us) (suc pc) ws
unfolding later resumed else_lines others
else_lines_lem ms i c us pc ws = let z : pc + 1 ≡ suc pc = omega arith in rw z

module _ (ms : List ℤ) (i : ℕ) (us : List Waiting) (pc : ℕ) (w : ℤ) (ops ws : List ℤ) (k o : ℕ) (g : k ≡ tag_at ms i) (x : o ≡ op_of (tag_z w) k)
    (l : ltb 7 o ≡ false) (n : operands_of o ≡ length ops) where
  leaf_lines : lines_from ms 0 i us pc (w ∷ (ops ++ ws))
      ≡ strip_lines k o i ++ (leaf_line o i (slot_of us) (ops ++ ws) ∷ later ms us (suc (pc + length (strip_lines k o i))) ws)
  leaf_lines = lines_leaf ms i w k o g x l us pc (ops ++ ws) ∙ rw (n, past_all ms ops us (suc (pc + length (strip_lines k o i))) ws)

  plain_lines : strip_lines k o i ≡ [] → lines_from ms 0 i us pc (w ∷ (ops ++ ws)) ≡ leaf_line o i (slot_of us) (ops ++ ws) ∷ later ms us (suc pc) ws
  plain_lines z = let e : pc + 0 ≡ pc = omega arith in leaf_lines ∙ rw (z, e)

  stripped_lines : strip_lines k o i ≡ line 1 0 0 i (pos 0) ∷ []
      → lines_from ms 0 i us pc (w ∷ (ops ++ ws)) ≡ line 1 0 0 i (pos 0) ∷ leaf_line o i (slot_of us) (ops ++ ws) ∷ later ms us (suc (suc pc)) ws
  stripped_lines z = let e : pc + 1 ≡ suc pc = omega arith in leaf_lines ∙ rw (z, e)

-- ---- The lines from a place on stand for what is to do there; vars is the number of variables in all.

pub data Stands (ms : List ℤ) (vars : ℕ) : (pc : ℕ) → List Line → Point → Type 0 where
  at_tag : {pc : ℕ} {ks : List Matcher} {p : Pattern} {m : Matcher} {ts : List Item} {ls : List Line} (i : ℕ) (us : List Waiting)
      → MatcherAt ms i m → Parts ms us ts → ls ≡ lines_from ms 0 i us pc (pattern_words p ++ item_words ts) → vars ≡ length ks + variables_in ls
      → Stands ms vars pc ls (point ks p m m ts)
  at_wildcard : {pc : ℕ} {ks : List Matcher} {m : Matcher} {ts : List Item} {ls : List Line} (i : ℕ) (us : List Waiting)
      → Parts ms us ts → ls ≡ leaf_line 2 i (slot_of us) (item_words ts) ∷ later ms us (suc pc) (item_words ts) → vars ≡ length ks + variables_in ls
      → Stands ms vars pc ls (point ks wildcard something m ts)
  at_variable : {pc : ℕ} {ks : List Matcher} {x : ℤ} {m : Matcher} {ts : List Item} {ls : List Line} (i : ℕ) (us : List Waiting)
      → Parts ms us ts → ls ≡ leaf_line 3 i (slot_of us) (x ∷ item_words ts) ∷ later ms us (suc pc) (item_words ts) → vars ≡ length ks + variables_in ls
      → Stands ms vars pc ls (point ks (variable x) something m ts)
  at_else : {pc : ℕ} {ks : List Matcher} {q : Pattern} {m : Matcher} {ts : List Item} {ls : List Line} (i c : ℕ) (us : List Waiting)
      → MatcherAt ms i m → c ≡ from ts → Parts ms us ts → ls ≡ else_line ∷ lines_from ms 0 i (waits i c 4 ∷ us) (suc pc) (pattern_words q ++ item_words ts)
      → vars ≡ length ks + variables_in ls → Stands ms vars pc ls (else_place ks q m ts)
  at_close : {pc : ℕ} {ks : List Matcher} {ts : List Item} {ls : List Line} (us : List Waiting)
      → Parts ms us ts → ls ≡ fi_line ∷ later ms us (suc pc) (item_words ts) → vars ≡ length ks + variables_in ls → Stands ms vars pc ls (end_place ks ts)
  at_cut : {pc : ℕ} {ks : List Matcher} {j : ℕ} {ts : List Item} {ls : List Line} (us : List Waiting)
      → Parts ms us ts → ls ≡ cut_line j ∷ later ms us (suc pc) (item_words ts) → vars ≡ length ks + variables_in ls → Stands ms vars pc ls (cutting ks j ts)
  at_reserve : {pc : ℕ} {P : Point} {ls : List Line} → Stands ms vars (suc pc) ls P → Stands ms vars pc (reserved_line ∷ ls) (reserve P)
  at_end : {pc : ℕ} {ks : List Matcher} → vars ≡ length ks → Stands ms vars pc (end_line ∷ []) (finish ks)
  at_beyond : {pc : ℕ} → Stands ms vars pc [] beyond

enters : {ms : List ℤ} {vars pc : ℕ} (ks : List Matcher) {us : List Waiting} {ts : List Item} → Parts ms us ts
    → vars ≡ length ks + variables_in (later ms us pc (item_words ts)) → Stands ms vars pc (later ms us pc (item_words ts)) (beside ks ts)
unfolding later resumed close_line beside item_words variables_in binding
enters {vars = vars} ks parts_none v = let e : vars ≡ length ks = omega arith in at_end e
enters {ms} {pc = pc} ks (parts {i = i} {c = c} {n = n} {us = us} {ts = ts} a l ps) v = at_tag i (others ms i c n us) a ps (part_lines ms i c n us pc _ l) v
enters {ms} {pc = pc} ks (parts_else {i = i} {c = c} {us = us} a e ps) v = at_else i c us a e ps (else_lines_lem ms i c us pc _) v
enters ks (parts_end {us = us} e ps) v = at_close us ps refl v
enters ks (parts_stop {us = us} ps) v = at_cut us ps refl v

reserved_stands : {ms : List ℤ} {vars : ℕ} (n : ℕ) {pc : ℕ} {P : Point} {ls : List Line} → Stands ms vars (suc (pc + n)) ls P
    → Stands ms vars (suc pc) (reserved_lines n ++ ls) (reserved n P)
unfolding reserved_lines reserved
reserved_stands zero {pc} s = let z : pc + 0 ≡ pc = omega arith in rw z at s
reserved_stands (suc n) {pc} s = let z : pc + suc n ≡ suc pc + n = omega arith in at_reserve (reserved_stands n (rw z at s))

pub reserved_vars : (n : ℕ) (ls : List Line) → variables_in (reserved_lines n ++ ls) ≡ variables_in ls
unfolding reserved_lines variables_in binding
reserved_vars zero ls = refl
reserved_vars (suc n) ls = let h = reserved_vars n ls in omega arith

-- What an instruction makes of lines that stand for P: the first means the instruction, and the others stand for what is to do next.
pub record Goes (ms : List ℤ) (vars pc : ℕ) (ls : List Line) (I : Instr) (Q : Point) : Type 0 where
  pub first : Line
  pub others : List Line
  pub lines : ls ≡ first ∷ others
  pub means : (to : ℕ) → Leads to I → Means ms vars first to I
  pub stands : Stands ms vars (suc pc) others Q

-- A tag without parts, whose atom is dropped; ks' are the matchers of the variables with the one that it binds.
leaf_goes : {ms : List ℤ} {vars pc : ℕ} (ks ks' : List Matcher) {us : List Waiting} {ts : List Item} {ls : List Line} {I : Instr} (o i : ℕ) (ws : List ℤ)
    → Parts ms us ts → ls ≡ leaf_line o i (slot_of us) ws ∷ later ms us (suc pc) (item_words ts) → vars ≡ length ks + variables_in ls
    → length ks' ≡ length ks + binding o → ((to : ℕ) → Leads to I → Means ms vars (leaf_line o i (slot_of us) ws) to I)
    → Goes ms vars pc ls I (beside ks' ts)
unfolding leaf_line variables_in
leaf_goes ks ks' o i ws ps e v n t =
    let u = ap variables_in e in
    record { first = _; others = _; lines = e; means = t; stands = enters ks' ps (omega arith) }

-- ---- By the instruction.

absent : {A : Type 0} → ◌≡◌ {A = Bool} true false → A
absent e = let z : ◌≡◌ {A = ℕ} 0 1 = cc in absurd (omega arith)

-- A wildcard or a variable under a matcher other than something: two lines.
loose_strip : (m : Matcher) (o i : ℕ) → is_something m ≡ false → ltb o 4 ≡ true → strip_lines (tag_of m) o i ≡ line 1 0 0 i (pos 0) ∷ []
unfolding is_something tag_of strip_lines
loose_strip something o i h l = absent h
loose_strip integer o i h l = rw l
loose_strip (list m) o i h l = rw l
loose_strip (multiset m) o i h l = rw l
loose_strip (tuple_of ks) o i h l = rw l

-- The lines of any other tag are one.
tight_strip : (k o i : ℕ) → ltb o 4 ≡ false → strip_lines k o i ≡ []
unfolding strip_lines
tight_strip k o i l = go (eqb k 0)
  where
    go : (b : Bool) → cond b [] (cond (ltb o 4) (line 1 0 0 i (pos 0) ∷ []) []) ≡ []
    go true = refl
    go false = rw l

bare_strip : (o i : ℕ) → strip_lines 0 o i ≡ []
unfolding strip_lines
bare_strip o i = refl

bind_means : {ms : List ℤ} {vars : ℕ} (i f n : ℕ) (x : ℤ) (ws : List ℤ) → x ≡ pos n → n < 16 → (to : ℕ) → Means ms vars (leaf_line 3 i f (x ∷ ws)) to (bind n f to)
unfolding leaf_line operands_of arg_of con_of tag_at
bind_means i f n x ws e l to = let z : n % 16 ≡ n = mod-eq_of_lt l in rw (e, z) (means_bind refl)

integer_means : {ms : List ℤ} {vars : ℕ} (i f n : ℕ) (c : ℤ) (ws : List ℤ) → n < 16 → (to : ℕ) → Means ms vars (leaf_line 5 i f (pos n ∷ c ∷ ws)) to (test (as_value integer n c) f to)
unfolding leaf_line operands_of arg_of con_of tag_at
integer_means i f n c ws l to = let z : n % 16 ≡ n = mod-eq_of_lt l in rw z (means_integer refl)

value_means : {ms : List ℤ} {vars : ℕ} (i f n : ℕ) (c : ℤ) (ws : List ℤ) → n < 16 → (m : Matcher) → is_integer m ≡ false → MatcherAt ms i m
    → (to : ℕ) → Means ms vars (leaf_line 6 i f (pos n ∷ c ∷ ws)) to (test (as_value m n c) f to)
unfolding leaf_line operands_of arg_of con_of tag_at
value_means i f n c ws l m t a to = let z : n % 16 ≡ n = mod-eq_of_lt l in rw z (means_value m refl t a)

-- ---- Tags with parts.

no_operands : (o : ℕ) → ltb 7 o ≡ true → eqb o 11 ≡ false → operands_of o ≡ 0
unfolding operands_of
no_operands o l h =
    let g = ltb-true 7 o l in
    rw (h, le-ltb o 3 (omega arith), le-ltb o 5 (omega arith), le-ltb o 7 (omega arith))

two_parts : (ms : List ℤ) (o i : ℕ) (us : List Waiting) (pc : ℕ) (ws : List ℤ) (again : ℕ → ℕ → List Waiting → ℕ → List Line) → eqb o 11 ≡ false → operands_of o ≡ 0
    → divided ms (reserved_by o ws) o i us pc again
    ≡ line o (from_by o us) 0 i (pos 0) ∷ again 0 (first_under o i) (waits i (slot_by o pc us) (behind_by o 0) ∷ us) (suc pc)
unfolding divided reserved_by reserved_lines second_under
two_parts ms o i us pc ws again h e =
    let a : o + 0 ≡ o = omega arith in
    let b : pc + 0 ≡ pc = omega arith in
    rw (e, h, a, b)

split_lines : (ms : List ℤ) (i : ℕ) (us : List Waiting) (pc : ℕ) (w : ℤ) (k o : ℕ) → k ≡ tag_at ms i → o ≡ op_of (tag_z w) k → ltb 7 o ≡ true → eqb o 11 ≡ false
    → (p q : Pattern) (ts : List Item) → lines_from ms 0 i us pc (w ∷ ((pattern_words p ++ pattern_words q) ++ item_words ts))
    ≡ line o (from_by o us) 0 i (pos 0)
    ∷ lines_from ms 0 (first_under o i) (waits i (slot_by o pc us) (behind_by o 0) ∷ us) (suc pc) (pattern_words p ++ (pattern_words q ++ item_words ts))
split_lines ms i us pc w k o g x l h p q ts =
    lines_split ms i w k o g x l us pc ((pattern_words p ++ pattern_words q) ++ item_words ts)
    ∙ two_parts ms o i us pc _ _ h (no_operands o l h) ∙ rw (append_assoc (pattern_words p) (pattern_words q) (item_words ts))

-- A tuple's width is read back, and then its parts.
beyond_two_lem : (n : ℕ) → n ≤ 2 → beyond_two (suc (suc n)) ≡ n
unfolding beyond_two
beyond_two_lem zero h = refl
beyond_two_lem (suc zero) h = refl
beyond_two_lem (suc (suc zero)) h = refl
beyond_two_lem (suc (suc (suc n))) h = absurd (omega arith)

tuple_lines : (ms : List ℤ) (i : ℕ) (us : List Waiting) (pc : ℕ) → 4 ≡ tag_at ms i → (p q : Pattern) (ps : Patterns) (k : Matcher) (ks : Matchers) (ts : List Item) → countᵖ ps ≤ 2
    → lines_from ms 0 i us pc (pos 7 ∷ pos (suc (suc (countᵖ ps))) ∷ ((pattern_words p ++ (pattern_words q ++ pattern_words_all ps)) ++ item_words ts))
    ≡ line (11 + countᵖ ps) 0 0 i (pos 0) ∷ (reserved_lines (countᵖ ps) ++ lines_from ms 0 (i + 2) (waits (matcher_end ms (i + 2)) pc (countᵖ ps) ∷ us) (suc (pc + countᵖ ps))
    (pattern_words p ++ (pattern_words q ++ item_words (items ps ks (suc pc) ts))))
unfolding divided reserved_by second_under first_under from_by slot_by behind_by operands_of tag_at op_of
tuple_lines ms i us pc g p q ps k ks ts d =
    lines_split ms i (pos 7) 4 11 g refl refl us pc _
    ∙ rw (beyond_two_lem (countᵖ ps) d, item_words_lem ps ks (suc pc) ts, append_assoc (pattern_words p) (pattern_words q ++ pattern_words_all ps) (item_words ts), append_assoc (pattern_words q) (pattern_words_all ps) (item_words ts))
    (ap (λ l. line (11 + countᵖ ps) 0 0 i (pos 0) ∷ (reserved_lines (countᵖ ps) ++ l)) (past ms (pos (suc (suc (countᵖ ps))) ∷ []) (i + 2) _ _ _))

tuple_next : (pc : ℕ) (p q : Pattern) (ps : Patterns) (m k : Matcher) (ks : Matchers) (ms : List Matcher) (ts : List Item)
    → follow_of pc (point ms (tuple (p ▸ᵖ q ▸ᵖ ps)) (tuple_of (m ▸ᵐ k ▸ᵐ ks)) (tuple_of (m ▸ᵐ k ▸ᵐ ks)) ts)
    ≡ reserved (countᵖ ps) (point ms p m m (item q k pc ∷ items ps ks (suc pc) ts))
unfolding follow_of members parted items first_of others_of countᵖ
tuple_next pc p q ps m k ks ms ts = let e : suc (suc (countᵖ ps)) - 2 ≡ countᵖ ps = omega arith in rw e

module _ {ms : List ℤ} {vars pc : ℕ} where
  strip_goes : {p : Pattern} {ks : List Matcher} {m m' : Matcher} {ts : List Item} {ls : List Line} → Loose p → is_something m ≡ false
      → Stands ms vars pc ls (point ks p m m' ts) → Goes ms vars pc ls strip (point ks p something m ts)
  unfolding pattern_words variables_in binding op_of operands_of is_something
  strip_goes {ks = ks} {m} {ts} loose_wildcard h (at_tag {ls = ls} i us a ps e v) =
      let r : ls ≡ line 1 0 0 i (pos 0) ∷ leaf_line 2 i (slot_of us) (item_words ts) ∷ later ms us (suc (suc pc)) (item_words ts)
      = e ∙ stripped_lines ms i us pc (pos 0) [] (item_words ts) (tag_of m) 2 (matcher_tag m a) refl refl refl (loose_strip m 2 i h refl) in
      let u = ap variables_in r in
      record { first = _; others = _; lines = r; means = λ to y. means_strip refl; stands = at_wildcard {pc = suc pc} {ks = ks} i us ps refl (omega arith) }
  strip_goes {ks = ks} {m} {ts} (loose_variable {x}) h (at_tag {ls = ls} i us a ps e v) =
      let r : ls ≡ line 1 0 0 i (pos 0) ∷ leaf_line 3 i (slot_of us) (x ∷ item_words ts) ∷ later ms us (suc (suc pc)) (item_words ts)
      = e ∙ stripped_lines ms i us pc (pos 1) (x ∷ []) (item_words ts) (tag_of m) 3 (matcher_tag m a) refl refl refl (loose_strip m 3 i h refl) in
      let u = ap variables_in r in
      record { first = _; others = _; lines = r; means = λ to y. means_strip refl; stands = at_variable {pc = suc pc} {ks = ks} {x = x} i us ps refl (omega arith) }
  strip_goes loose_wildcard h (at_wildcard i us ps e v) = absent h
  strip_goes loose_variable h (at_variable i us ps e v) = absent h

  drop_goes : {ks : List Matcher} {m : Matcher} {ts : List Item} {ls : List Line}
      → Stands ms vars pc ls (point ks wildcard something m ts) → (t : ℕ) → Goes ms vars pc ls (drop (from ts) t) (beside ks ts)
  unfolding pattern_words binding op_of operands_of leaf_line tag_of Leads
  drop_goes {ks} {m} {ts} (at_tag i us a ps e v) t =
      let r = e ∙ plain_lines ms i us pc (pos 0) [] (item_words ts) 0 2 (matcher_tag something a) refl refl refl (bare_strip 2 i) in
      leaf_goes ks ks 2 i (item_words ts) ps r v (omega arith) (λ to y. rw (slot_from ps, y) (means_drop refl))
  drop_goes {ks} {m} {ts} (at_wildcard i us ps e v) t = leaf_goes ks ks 2 i (item_words ts) ps e v (omega arith) (λ to y. rw (slot_from ps, y) (means_drop refl))

  bind_goes : {ks : List Matcher} {x : ℤ} {m : Matcher} {ts : List Item} {ls : List Line} → Numbered (point ks (variable x) something m ts)
      → Stands ms vars pc ls (point ks (variable x) something m ts) → (t : ℕ) → Goes ms vars pc ls (bind (length ks) (from ts) t) (beside (ks ++ (m ∷ [])) ts)
  unfolding pattern_words binding op_of operands_of leaf_line tag_of Leads
  bind_goes {ks} {x} {m} {ts} (numbered {k = k} may at l h w) (at_tag i us a ps e v) t =
      let r = e ∙ plain_lines ms i us pc (pos 1) (x ∷ []) (item_words ts) 0 3 (matcher_tag something a) refl refl refl (bare_strip 3 i) in
      leaf_goes ks (ks ++ (m ∷ [])) 3 i (x ∷ item_words ts) ps r v (length-append ks (m ∷ []))
      (λ to y. let c = number_is x may at (length ks) k h in rw (slot_from ps, y) (bind_means i (slot_of us) (length ks) x (item_words ts) c.0 c.1 to))
  bind_goes {ks} {x} {m} {ts} (numbered {k = k} may at l h w) (at_variable i us ps e v) t =
      leaf_goes ks (ks ++ (m ∷ [])) 3 i (x ∷ item_words ts) ps e v (length-append ks (m ∷ []))
      (λ to y. let c = number_is x may at (length ks) k h in rw (slot_from ps, y) (bind_means i (slot_of us) (length ks) x (item_words ts) c.0 c.1 to))

  constant_goes : {ks : List Matcher} {c : ℤ} {ts : List Item} {ls : List Line}
      → Stands ms vars pc ls (point ks (constant c) integer integer ts) → (t : ℕ) → Goes ms vars pc ls (test (as_constant c) (from ts) t) (beside ks ts)
  unfolding pattern_words binding op_of operands_of leaf_line tag_of Leads
  constant_goes {ks} {c} {ts} (at_tag i us a ps e v) t =
      let r = e ∙ plain_lines ms i us pc (pos 2) (c ∷ []) (item_words ts) 1 4 (matcher_tag integer a) refl refl refl (tight_strip 1 4 i refl) in
      leaf_goes ks ks 4 i (c ∷ item_words ts) ps r v (omega arith) (λ to y. rw (slot_from ps, y) (means_constant refl))

  nil_goes : {ks : List Matcher} {m m' : Matcher} {ts : List Item} {ls : List Line}
      → Stands ms vars pc ls (point ks nil m m' ts) → (t : ℕ) → Goes ms vars pc ls (test (as_nil m) (from ts) t) (beside ks ts)
  unfolding pattern_words binding op_of operands_of leaf_line Leads
  nil_goes {ks} {m} {ts} (at_tag i us a ps e v) t =
      let r = e ∙ plain_lines ms i us pc (pos 4) [] (item_words ts) (tag_of m) 7 (matcher_tag m a) refl refl refl (tight_strip (tag_of m) 7 i refl) in
      leaf_goes ks ks 7 i (item_words ts) ps r v (omega arith) (λ to y. rw (slot_from ps, y) (means_nil m refl))

  value_goes : {ks : List Matcher} (x : ℕ) (c : ℤ) (m : Matcher) {m' : Matcher} {ts : List Item} {ls : List Line} → x < 16 → without_something m ≡ true
      → Stands ms vars pc ls (point ks (value (pos x) c) m m' ts) → (t : ℕ) → Goes ms vars pc ls (test (as_value m x c) (from ts) t) (beside ks ts)
  unfolding pattern_words binding op_of operands_of leaf_line tag_of without_something is_integer Leads
  value_goes x c something l z s t = absent (sym z)
  value_goes {ks} x c integer {ts} l z (at_tag i us a ps e v) t =
      let r = e ∙ plain_lines ms i us pc (pos 3) (pos x ∷ c ∷ []) (item_words ts) 1 5 (matcher_tag integer a) refl refl refl (tight_strip 1 5 i refl) in
      leaf_goes ks ks 5 i (pos x ∷ c ∷ item_words ts) ps r v (omega arith) (λ to y. rw (slot_from ps, y) (integer_means i (slot_of us) x c (item_words ts) l to))
  value_goes {ks} x c (list m) {ts} l z (at_tag i us a ps e v) t =
      let r = e ∙ plain_lines ms i us pc (pos 3) (pos x ∷ c ∷ []) (item_words ts) 2 6 (matcher_tag (list m) a) refl refl refl (tight_strip 2 6 i refl) in
      leaf_goes ks ks 6 i (pos x ∷ c ∷ item_words ts) ps r v (omega arith) (λ to y. rw (slot_from ps, y) (value_means i (slot_of us) x c (item_words ts) l (list m) refl a to))
  value_goes {ks} x c (multiset m) {ts} l z (at_tag i us a ps e v) t =
      let r = e ∙ plain_lines ms i us pc (pos 3) (pos x ∷ c ∷ []) (item_words ts) 3 6 (matcher_tag (multiset m) a) refl refl refl (tight_strip 3 6 i refl) in
      leaf_goes ks ks 6 i (pos x ∷ c ∷ item_words ts) ps r v (omega arith) (λ to y. rw (slot_from ps, y) (value_means i (slot_of us) x c (item_words ts) l (multiset m) refl a to))
  value_goes {ks} x c (tuple_of m) {ts} l z (at_tag i us a ps e v) t =
      let r = e ∙ plain_lines ms i us pc (pos 3) (pos x ∷ c ∷ []) (item_words ts) 4 6 (matcher_tag (tuple_of m) a) refl refl refl (tight_strip 4 6 i refl) in
      leaf_goes ks ks 6 i (pos x ∷ c ∷ item_words ts) ps r v (omega arith) (λ to y. rw (slot_from ps, y) (value_means i (slot_of us) x c (item_words ts) l (tuple_of m) refl a to))

  split_goes : {ks : List Matcher} (d : Kind) {p q : Pattern} {m : Matcher} {ts : List Item} {ls : List Line}
      → Stands ms vars pc ls (point ks (whole d p q) (over d) m ts)
      → Goes ms vars pc ls (split d) (point ks p (first_by d) (first_by d) (item q (over d) pc ∷ ts))
  unfolding whole over first_by pattern_words variables_in binding op_of first_under from_by slot_by behind_by tag_of item_words others
  split_goes {ks} (list_cons m) {p} {q} {ts} (at_tag i us a ps e v) =
      let r = e ∙ split_lines ms i us pc (pos 5) 2 8 (matcher_tag (list m) a) refl refl refl p q ts in
      let u = ap variables_in r in
      record { first = _; others = _; lines = r; means = λ to y. means_list m refl; stands = at_tag {pc = suc pc} {ks = ks} {p = p} (i + 1) (waits i pc 0 ∷ us) (list_inner a) (parts {n = 0} {p = q} a (omega arith) ps) refl (omega arith) }
  split_goes {ks} (multiset_cons m) {p} {q} {ts} (at_tag i us a ps e v) =
      let r = e ∙ split_lines ms i us pc (pos 5) 3 9 (matcher_tag (multiset m) a) refl refl refl p q ts in
      let u = ap variables_in r in
      record { first = _; others = _; lines = r; means = λ to y. means_multiset m refl (multiset_inner a); stands = at_tag {pc = suc pc} {ks = ks} {p = p} (i + 1) (waits i pc 0 ∷ us) (multiset_inner a) (parts {n = 0} {p = q} a (omega arith) ps) refl (omega arith) }
  split_goes {ks} (joins m) {p} {q} {ts} (at_tag i us a ps e v) =
      let r = e ∙ split_lines ms i us pc (pos 6) 2 10 (matcher_tag (list m) a) refl refl refl p q ts in
      let u = ap variables_in r in
      record { first = _; others = _; lines = r; means = λ to y. means_join m refl; stands = at_tag {pc = suc pc} {ks = ks} {p = p} i (waits i pc 0 ∷ us) a (parts {n = 0} {p = q} a (omega arith) ps) refl (omega arith) }

  tuple_goes : {ks : List Matcher} (p q : Pattern) (ps : Patterns) (m k : Matcher) (ms' : Matchers) {m' : Matcher} {ts : List Item} {ls : List Line} → countᵖ ps ≡ countᵐ ms' → countᵖ ps ≤ 2
      → Stands ms vars pc ls (point ks (tuple (p ▸ᵖ q ▸ᵖ ps)) (tuple_of (m ▸ᵐ k ▸ᵐ ms')) m' ts)
      → Goes ms vars pc ls (apart (countᵖ ps)) (reserved (countᵖ ps) (point ks p m m (item q k pc ∷ items ps ms' (suc pc) ts)))
  unfolding pattern_words pattern_words_all variables_in binding item_words tag_of
  tuple_goes {ks} p q ps m k ms' {ts} c d (at_tag {ls = ls} i us a w e v) =
      let n = countᵖ ps in
      let b = tuple_inner a in
      let vs = waits (matcher_end ms (i + 2)) pc n ∷ us in
      let r : ls ≡ line (11 + n) 0 0 i (pos 0) ∷ (reserved_lines n ++ lines_from ms 0 (i + 2) vs (suc (pc + n)) (pattern_words p ++ item_words (item q k pc ∷ items ps ms' (suc pc) ts)))
      = e ∙ tuple_lines ms i us pc (matcher_tag (tuple_of (m ▸ᵐ k ▸ᵐ ms')) a) p q ps k ms' ts d in
      let u = ap variables_in r in
      let x = binding_none (11 + n) (omega arith) in
      let y = reserved_vars n (lines_from ms 0 (i + 2) vs (suc (pc + n)) (pattern_words p ++ item_words (item q k pc ∷ items ps ms' (suc pc) ts))) in
      record {
        first = _;
        others = _;
        lines = r;
        means = λ to y. means_tuple n refl d;
        stands = reserved_stands n (at_tag {pc = suc (pc + n)} {ks = ks} {p = p} (i + 2) vs (matchers_first b) (tuple_parts ps ms' (matchers_others b) d refl (sym c) w) refl (omega arith));
      }

  keep_goes : {ks : List Matcher} {p q : Pattern} {m m' : Matcher} {ts : List Item} {ls : List Line}
      → Stands ms vars pc ls (point ks (both p q) m m' ts) → Goes ms vars pc ls keep (point ks p m m (item q m pc ∷ ts))
  unfolding pattern_words variables_in binding op_of first_under from_by slot_by behind_by item_words others
  keep_goes {ks} {p} {q} {m} {ts} (at_tag i us a ps e v) =
      let r = e ∙ split_lines ms i us pc (pos 8) (tag_of m) 14 (matcher_tag m a) refl refl refl p q ts in
      let u = ap variables_in r in
      record { first = _; others = _; lines = r; means = λ to y. means_keep refl; stands = at_tag {pc = suc pc} {ks = ks} {p = p} i (waits i pc 0 ∷ us) a (parts {n = 0} {p = q} a (omega arith) ps) refl (omega arith) }

  choice_goes : {ks : List Matcher} {p q : Pattern} {m m' : Matcher} {ts : List Item} {ls : List Line}
      → Stands ms vars pc ls (point ks (either p q) m m' ts) → (t : ℕ) → Goes ms vars pc ls (choice t) (point ks p m m (or_else q m ∷ ts))
  unfolding pattern_words variables_in binding op_of first_under from_by slot_by behind_by item_words Leads
  choice_goes {ks} {p} {q} {m} {ts} (at_tag i us a ps e v) t =
      let r = e ∙ split_lines ms i us pc (pos 9) (tag_of m) 15 (matcher_tag m a) refl refl refl p q ts in
      let u = ap variables_in r in
      record { first = _; others = _; lines = r; means = λ to y. rw y (means_choice refl); stands = at_tag {pc = suc pc} {ks = ks} {p = p} i (waits i (slot_of us) 3 ∷ us) a (parts_else {q = q} a (sym (slot_from ps)) ps) refl (omega arith) }

  deny_goes : {ks : List Matcher} {p : Pattern} {m m' : Matcher} {ts : List Item} {ls : List Line}
      → Stands ms vars pc ls (point ks (never p) m m' ts) → (t : ℕ) → Goes ms vars pc ls (deny (from ts) t) (point ks p m m (stop pc ∷ ts))
  unfolding pattern_words variables_in binding op_of first_under from_by slot_by behind_by item_words Leads
  deny_goes {ks} {p} {m} {ts} (at_tag i us a ps e v) t =
      let r = e ∙ lines_split ms i (pos 10) (tag_of m) 16 (matcher_tag m a) refl refl us pc (pattern_words p ++ item_words ts)
      ∙ two_parts ms 16 i us pc _ _ refl (no_operands 16 refl refl) in
      let u = ap variables_in r in
      record { first = _; others = _; lines = r; means = λ to y. rw (slot_from ps, y) (means_deny refl); stands = at_tag {pc = suc pc} {ks = ks} {p = p} i (waits i pc 5 ∷ us) a (parts_stop ps) refl (omega arith) }

  -- The places of an or and of a not at which no atom is taken up.
  else_goes : {ks : List Matcher} {q : Pattern} {m : Matcher} {ts : List Item} {ls : List Line}
      → Stands ms vars pc ls (else_place ks q m ts) → Goes ms vars pc ls other (point ks q m m (end_or ∷ ts))
  unfolding variables_in binding item_words
  else_goes {ks} {q} (at_else i c us a x ps e v) =
      let u = ap variables_in e in
      record { first = _; others = _; lines = e; means = λ to y. means_other refl; stands = at_tag {pc = suc pc} {ks = ks} {p = q} i (waits i c 4 ∷ us) a (parts_end x ps) refl (omega arith) }

  close_goes : {ks : List Matcher} {ts : List Item} {ls : List Line} → Stands ms vars pc ls (end_place ks ts) → Goes ms vars pc ls close (beside ks ts)
  unfolding variables_in binding
  close_goes {ks} (at_close us ps e v) =
      let u = ap variables_in e in record { first = _; others = _; lines = e; means = λ to y. means_close refl; stands = enters ks ps (omega arith) }

  cut_goes : {ks : List Matcher} {j : ℕ} {ts : List Item} {ls : List Line} → Stands ms vars pc ls (cutting ks j ts) → Goes ms vars pc ls (cut_at j) (beside ks ts)
  unfolding variables_in binding
  cut_goes {ks} (at_cut us ps e v) =
      let u = ap variables_in e in record { first = _; others = _; lines = e; means = λ to y. means_cut refl; stands = enters ks ps (omega arith) }

  -- Every instruction but the one beyond the end.
  pub goes : {points : ℕ → Point} {I : Instr} {P : Point} {ls : List Line} → Follows points pc I P → points (suc pc) ≡ follow_of pc P → Numbered P → (P ≡ beyond → ⊥)
      → Stands ms vars pc ls P → Goes ms vars pc ls I (points (suc pc))
  unfolding tested test_by Sound follow_of is_something
  goes (strips z h pt) f n b s = rw pt (strip_goes z h s)
  goes (drops {to = t} l pt) f n b s = rw f (drop_goes s t)
  goes (binds {to = t} l pt) f n b s = rw f (bind_goes n s t)
  goes (tests {to = t} (as_constant c) y l pt) f n b s = rw f (constant_goes s t)
  goes (tests {to = t} (as_value m x c) y l pt) f (numbered {k = k} may at d h w) b s =
      let r = named_is (pos x) c may at _ k h in
      let z : x ≡ r.0 = cc r.1 in
      rw f (value_goes x c m (omega (arith, r.2)) y.3 s t)
  goes (tests {to = t} (as_nil m) y l pt) f n b s = rw f (nil_goes s t)
  goes (splits d p q pt) f n b s = rw pt (split_goes d s)
  goes (aparts {ms = hs} {ts = ts} p q ps m k ks c d pt) f n b s = rw (f ∙ tuple_next pc p q ps m k ks hs ts) (tuple_goes p q ps m k ks c d s)
  goes (keeps p q pt) f n b s = rw pt (keep_goes s)
  goes (chooses {to = t} p q l pt qt) f n b s = rw pt (choice_goes s t)
  goes (denies {to = t} p l pt qt) f n b s = rw pt (deny_goes s t)
  goes cuts f n b s = rw f (cut_goes s)
  goes elses f n b s = rw f (else_goes s)
  goes closes f n b s = rw f (close_goes s)
  goes reserves f n b (at_reserve s) = rw f (record { first = reserved_line; others = _; lines = refl; means = λ to y. means_strip refl; stands = s })
  goes ends f n b (at_end e) = rw f (record { first = end_line; others = []; lines = refl; means = λ to y. rw (← e) (means_end refl); stands = at_beyond })
  goes after_end_lem f n b s = absurd (b refl)
