-- The program of a rule that is accepted: how long it is, and what each of its lines means.
use Prim.Native.Nat.{ℕ, zero, suc, ◌+◌, ◌*◌, ◌≤◌}
use native.Mathlib.Omega.{arith}
use Rattle.std.proofs.Common.{add-one, sym, ap, ◌∙◌, length-drop, drop-drop, get_or-drop}
use Rattle.std.specs.Prelude.{◌≡◌, Bool, true, false, length, get_or, drop, ℤ}
use Rattle.std.proofs.Math.Path.{refl}
use mathlib.Core.List.{List, [], ◌∷◌, ◌++◌, append-nil}
use Rattle.rules.specs.Forms.{Matcher, Matchers, Pattern, wildcard, nil, variable, constant, value, cons, join, tuple, both, either, never, Patterns, no_patterns, ◌▸ᵖ◌, countᵖ, span, span_all}
use Rattle.rules.specs.Fit.{element, members, is_something}
use Rattle.rules.specs.Services.{accepted, Rule, rule_of}
use Rattle.forms.specs.Written.{pattern_words, length_pattern_words, IsWidth, Widthsᵖ, WidthsAllᵖ}
use Rattle.forms.specs.ReadMatcher.{matcher_read}
use Rattle.forms.specs.ReadPattern.{pattern_read}
use Rattle.forms.specs.Faults.{WellFormed, rule_accepted}
use Rattle.program_rules.specs.Points.{Instr, Point, point, else_place, end_place, cutting, finish, reserve, beyond, first_of, others_of, Follows, after_end_lem}
use Rattle.program_rules.specs.Length.{instrs, instrs_parts, to_come, all_some}
use Rattle.program_rules.specs.Program.{point_at, follow_of, program}
use Rattle.program_rules.specs.Walk.{in_range_lem}
use Rattle.program_rules.specs.Closed.{Closed, closed_is}
use Rattle.program_rules.specs.Fitted.{program_follows}
use Rattle.tables.specs.declared.line.Line.{Line}
use Rattle.program_rules.specs.Lines.{end_line, lines_from, lines_of, variables_in}
use Rattle.program_rules.specs.Meaning.{MatcherAt, whole_matcher, Means, Leads}
use Rattle.program_rules.specs.Numbered.{Numbered, numbered_end, numbered_reserve, numbered_at}
use Rattle.program_rules.specs.Compiled.{item_words, parts_none, Stands, at_tag, at_wildcard, at_variable, at_else, at_close, at_cut, at_reserve, at_end, at_beyond, Goes, goes}

-- ---- 256 words make at most 639 instructions before the end.

one_or_two : (b : Bool) → (1 ≤ elim b as (λ _. ℕ) [ true ↦ 1 | false ↦ 2 ]) × (elim b as (λ _. ℕ) [ true ↦ 1 | false ↦ 2 ] ≤ 2)
one_or_two true = (omega arith, omega arith)
one_or_two false = (omega arith, omega arith)

pub some_instrs : (p : Pattern) (m : Matcher) → 1 ≤ instrs p m
unfolding instrs
some_instrs wildcard m = (one_or_two (is_something m)).0
some_instrs (variable x) m = (one_or_two (is_something m)).0
some_instrs nil m = omega arith
some_instrs (constant c) m = omega arith
some_instrs (value x c) m = omega arith
some_instrs (cons p q) m = omega arith
some_instrs (join p q) m = omega arith
some_instrs (tuple ps) m = omega arith
some_instrs (both p q) m = omega arith
some_instrs (either p q) m = omega arith
some_instrs (never p) m = omega arith

mutual
  unfolding instrs span Widthsᵖ IsWidth countᵖ

  pub instrs_span : (p : Pattern) (m : Matcher) → Widthsᵖ p → 2 * instrs p m + 1 ≤ 5 * span p
  instrs_span wildcard m w = let h = (one_or_two (is_something m)).1 in omega arith
  instrs_span (variable x) m w = let h = (one_or_two (is_something m)).1 in omega arith
  instrs_span nil m w = omega arith
  instrs_span (constant c) m w = omega arith
  instrs_span (value x c) m w = omega arith
  instrs_span (cons p q) m w = let a = instrs_span p (element m) w.0 in let b = instrs_span q m w.1 in omega arith
  instrs_span (join p q) m w = let a = instrs_span p m w.0 in let b = instrs_span q m w.1 in omega arith
  instrs_span (both p q) m w = let a = instrs_span p m w.0 in let b = instrs_span q m w.1 in omega arith
  instrs_span (either p q) m w = let a = instrs_span p m w.0 in let b = instrs_span q m w.1 in omega arith
  instrs_span (never p) m w = let a = instrs_span p m w in omega arith
  instrs_span (tuple ps) m w = let a = instrs_span_all ps (members m) w.1 in omega (arith, w.0.1)

  instrs_span_all : (ps : Patterns) (ks : Matchers) → WidthsAllᵖ ps → 2 * instrs_parts ps ks + countᵖ ps ≤ 5 * span_all ps
  instrs_span_all no_patterns ks w = omega arith
  instrs_span_all (p ▸ᵖ ps) ks w = let a = instrs_span p (first_of ks) w.0 in let b = instrs_span_all ps (others_of ks) w.1 in omega arith

-- ---- The words are few enough for the compiler.

module _ (ms ps : List ℤ) (r : Rule) (a : rule_of ms ps ≡ accepted r) where
  pub matcher_short : length ms ≤ 64
  matcher_short = ((matcher_read ms r.matcher).0 ((rule_accepted ms ps r).0 a).matcher).1

  pub pattern_short : length ps ≤ 256
  pattern_short = ((pattern_read ps r.pattern).0 ((rule_accepted ms ps r).0 a).pattern).1

-- ---- Place after place.

-- Nothing is to do beyond the end, and something before.
not_beyond : (P : Point) → 1 ≤ to_come P → P ≡ beyond → ⊥
unfolding to_come
not_beyond P h e = let z : to_come P ≡ 0 = rw e in omega arith

none_beyond : (P : Point) → to_come P ≡ 0 → P ≡ beyond
unfolding to_come
none_beyond (point ks p m b ts) e = let h = all_some ts in absurd (omega arith)
none_beyond (else_place ks q m ts) e = absurd (omega arith)
none_beyond (end_place ks ts) e = absurd (omega arith)
none_beyond (cutting ks j ts) e = absurd (omega arith)
none_beyond (finish ks) e = absurd (omega arith)
none_beyond (reserve P) e = absurd (omega arith)
none_beyond beyond e = refl

-- At the last instruction only the row is left.
pub one_finish : (P : Point) → Numbered P → to_come P ≡ 1 → (ks : List Matcher) × (P ≡ finish ks)
unfolding to_come
one_finish (point ks p m b ts) n e = let h = all_some ts in let l = some_instrs p m in absurd (omega arith)
one_finish (else_place ks q m ts) n e = absurd (omega arith)
one_finish (end_place ks ts) n e = let h = all_some ts in absurd (omega arith)
one_finish (cutting ks j ts) n e = let h = all_some ts in absurd (omega arith)
one_finish (finish ks) n e = (ks, refl)
one_finish (reserve P) (numbered_reserve l n) e = absurd (omega arith)
one_finish beyond n e = absurd (omega arith)

stands_beyond : {ms : List ℤ} {vars pc : ℕ} {ls : List Line} {P : Point} → Stands ms vars pc ls P → P ≡ beyond → ls ≡ []
stands_beyond at_beyond e = refl
stands_beyond (at_reserve s) e = let z : ◌≡◌ {A = ℕ} 0 1 = cc in absurd (omega arith)
stands_beyond (at_end v) e = let z : ◌≡◌ {A = ℕ} 0 1 = cc in absurd (omega arith)
stands_beyond (at_tag i us a ps l v) e = let z : ◌≡◌ {A = ℕ} 0 1 = cc in absurd (omega arith)
stands_beyond (at_else i c us a x ps l v) e = let z : ◌≡◌ {A = ℕ} 0 1 = cc in absurd (omega arith)
stands_beyond (at_close us ps l v) e = let z : ◌≡◌ {A = ℕ} 0 1 = cc in absurd (omega arith)
stands_beyond (at_cut us ps l v) e = let z : ◌≡◌ {A = ℕ} 0 1 = cc in absurd (omega arith)
stands_beyond (at_wildcard i us ps l v) e = let z : ◌≡◌ {A = ℕ} 0 1 = cc in absurd (omega arith)
stands_beyond (at_variable i us ps l v) e = let z : ◌≡◌ {A = ℕ} 0 1 = cc in absurd (omega arith)

stands_finish : {ms : List ℤ} {vars pc : ℕ} {ls : List Line} {P : Point} (ks : List Matcher) → Stands ms vars pc ls P → P ≡ finish ks → vars ≡ length ks
stands_finish {vars = vars} ks s e = go (rw e at s)
  where
    go : {ms : List ℤ} {pc : ℕ} {ls : List Line} → Stands ms vars pc ls (finish ks) → vars ≡ length ks
    go (at_end v) = v

numbered_finish : {P : Point} (ks : List Matcher) → Numbered P → P ≡ finish ks → length ks ≤ 16
numbered_finish ks n e = go (rw e at n)
  where
    go : Numbered (finish ks) → length ks ≤ 16
    go (numbered_end l) = l

onward : {ms : List ℤ} {vars pc : ℕ} {points : ℕ → Point} {I : Instr} {P : Point} {ls : List Line} → Follows points pc I P → points (suc pc) ≡ follow_of pc P → Numbered P
    → Stands ms vars pc ls P → Stands ms vars (suc pc) (drop 1 ls) (points (suc pc))
unfolding follow_of
onward {P = point ks p m b ts} f h n s = let g = goes f h n (λ e. let z : ◌≡◌ {A = ℕ} 0 1 = cc in omega arith) s in rw g.lines g.stands
onward {P = else_place ks q m ts} f h n s = let g = goes f h n (λ e. let z : ◌≡◌ {A = ℕ} 0 1 = cc in omega arith) s in rw g.lines g.stands
onward {P = end_place ks ts} f h n s = let g = goes f h n (λ e. let z : ◌≡◌ {A = ℕ} 0 1 = cc in omega arith) s in rw g.lines g.stands
onward {P = cutting ks j ts} f h n s = let g = goes f h n (λ e. let z : ◌≡◌ {A = ℕ} 0 1 = cc in omega arith) s in rw g.lines g.stands
onward {P = finish ks} f h n s = let g = goes f h n (λ e. let z : ◌≡◌ {A = ℕ} 0 1 = cc in omega arith) s in rw g.lines g.stands
onward {P = reserve P} f h n s = let g = goes f h n (λ e. let z : ◌≡◌ {A = ℕ} 0 1 = cc in omega arith) s in rw g.lines g.stands
onward {P = beyond} after_end_lem h n at_beyond = rw h at_beyond

suc_drop : {A : Type 0} (l : List A) (n : ℕ) → drop 1 (drop n l) ≡ drop (suc n) l
suc_drop l n = drop-drop 1 n l ∙ rw (add-one n)

head_drop : {A : Type 0} (l : List A) (n : ℕ) (d x : A) (xs : List A) → drop n l ≡ x ∷ xs → get_or l n d ≡ x
head_drop l n d x xs e = let z : n + 0 ≡ n = omega arith in ap (λ k. get_or l k d) (sym z) ∙ sym (get_or-drop n l 0 d) ∙ ap (λ k. get_or k 0 d) e

module _ (ms ps : List ℤ) (r : Rule) (w : WellFormed ms ps r) where
  vars : ℕ
  vars = variables_in (lines_of ms ps)

  numbers : (pc : ℕ) → Numbered (point_at r.matcher r.pattern pc)
  numbers = numbered_at r.matcher r.pattern 0 w.numbered.0 w.numbered.1

  closed : Closed r.pattern
  closed = closed_is r.pattern true 0 0 w.numbered.0 w.numbered.1

  pub follows : (pc : ℕ) → Follows (point_at r.matcher r.pattern) pc (program r.matcher r.pattern pc) (point_at r.matcher r.pattern pc)
  follows = program_follows r.matcher r.pattern 0 w.fitting.0 w.fitting.1 ((pattern_read ps r.pattern).0 w.pattern).2 closed

  next : (pc : ℕ) → point_at r.matcher r.pattern (suc pc) ≡ follow_of pc (point_at r.matcher r.pattern pc)
  unfolding point_at
  next pc = refl

  stands : (pc : ℕ) → Stands ms vars pc (drop pc (lines_of ms ps)) (point_at r.matcher r.pattern pc)
  unfolding point_at lines_of item_words vars
  stands zero =
      let m = (matcher_read ms r.matcher).0 w.matcher in
      let p = ((pattern_read ps r.pattern).0 w.pattern).0 in
      let a : MatcherAt ms 0 r.matcher = rw m.0 (whole_matcher r.matcher m.3) in
      let e : lines_from ms 0 0 [] 0 ps ≡ lines_from ms 0 0 [] 0 (pattern_words r.pattern ++ []) = rw (append-nil (pattern_words r.pattern), p) in
      at_tag {ks = []} {p = r.pattern} 0 [] a parts_none e (omega arith)
  stands (suc pc) = rw (← suc_drop (lines_of ms ps) pc) (onward (follows pc) (next pc) (numbers pc) (stands pc))

  at : (pc : ℕ) → pc ≤ instrs r.pattern r.matcher
      → Goes ms vars pc (drop pc (lines_of ms ps)) (program r.matcher r.pattern pc) (point_at r.matcher r.pattern (suc pc))
  at pc l =
      let n = in_range_lem r.matcher r.pattern pc in
      goes (follows pc) (next pc) (numbers pc) (not_beyond (point_at r.matcher r.pattern pc) (omega arith)) (stands pc)

  -- The program has as many lines as instructions, and the end.
  pub lines_length : length (lines_of ms ps) ≡ instrs r.pattern r.matcher + 1
  lines_length =
      let l = instrs r.pattern r.matcher in
      let a : drop l (lines_of ms ps) ≡ (at l (omega arith)).first ∷ (at l (omega arith)).others = (at l (omega arith)).lines in
      let b = stands_beyond (stands (suc l)) (none_beyond _ (in_range_lem r.matcher r.pattern (suc l) ∙ omega arith)) in
      let c = ap length a in
      let d = ap length b in
      let e = length-drop l (lines_of ms ps) in
      let f = length-drop (suc l) (lines_of ms ps) in
      omega arith

  -- Each means the instruction at its place, when the place that this names is told.
  pub line_means : (pc : ℕ) → pc ≤ instrs r.pattern r.matcher → (to : ℕ) → Leads to (program r.matcher r.pattern pc)
      → Means ms (variables_in (lines_of ms ps)) (get_or (lines_of ms ps) pc end_line) to (program r.matcher r.pattern pc)
  unfolding vars
  line_means pc l to e = let g = at pc l in rw (head_drop (lines_of ms ps) pc end_line _ _ g.lines) (g.means to e)

  pub few_variables : variables_in (lines_of ms ps) ≤ 16
  unfolding vars
  few_variables =
      let l = instrs r.pattern r.matcher in
      let f = one_finish (point_at r.matcher r.pattern l) (numbers l) (in_range_lem r.matcher r.pattern l ∙ omega arith) in
      let e = stands_finish f.0 (stands l) f.1 in
      let n = numbered_finish f.0 (numbers l) f.1 in
      omega arith

  pub program_fits : instrs r.pattern r.matcher ≤ 639
  program_fits =
      let p = (pattern_read ps r.pattern).0 w.pattern in
      let s = instrs_span r.pattern r.matcher p.2 in
      let e = ap length p.0 ∙ length_pattern_words r.pattern in
      let l = p.1 in
      omega arith

  -- Nothing is to do after the last line.
  pub last_beyond : point_at r.matcher r.pattern (instrs r.pattern r.matcher + 1) ≡ beyond
  last_beyond = none_beyond _ (in_range_lem r.matcher r.pattern (instrs r.pattern r.matcher + 1) ∙ omega arith)
