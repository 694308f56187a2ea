-- How many slots the program of a pattern has: fewer than the pattern has words.
use Rattle.std.specs.Prelude.{ℕ, zero, suc, ◌+◌, ◌-◌, ◌<◌, ◌≤◌, ◌≡◌, refl, Bool, true, false, List, [], ◌∷◌, ◌++◌, length, get_or, ℤ, pos, negsuc}
use Rattle.std.proofs.Common.{arith, sym, ap, ◌∙◌}
use Rattle.rules.specs.Forms.{Matcher, something, integer, list, multiset, tuple_of, Matchers}
use Rattle.rules.specs.Forms.{Pattern, wildcard, nil, variable, constant, value, cons, join, tuple, both, either, never, Patterns, no_patterns, ◌▸ᵖ◌, countᵖ, span, span_all}
use Rattle.rules.specs.Fit.{members, is_something}
use Rattle.rules.specs.Services.{accepted, Rule, rule_of}
use Rattle.forms.specs.Written.{length_pattern_words}
use Rattle.forms.specs.ReadPattern.{pattern_read}
use Rattle.forms.specs.Faults.{WellFormed, rule_accepted}
use Rattle.program_rules.specs.Points.{Instr, strip, keep, other, close, drop, bind, test, split, apart, choice, deny, cut_at, end}
use Rattle.program_rules.specs.Points.{Item, item, or_else, end_or, stop, Point, point, else_place, end_place, cutting, finish, reserve, beyond, beside, reserved, others_of, items, parted}
use Rattle.program_rules.specs.Length.{instrs}
use Rattle.program_rules.specs.Program.{instr_of, follow_of, point_at, program}
use Rattle.tables.specs.declared.line.Line.{Line}
use Rattle.program_rules.specs.Lines.{end_line, lines_of}
use Rattle.program_rules.specs.Link.{ops_of, tos_of}
use Rattle.program_rules.specs.Linked.{link_leads}
use Rattle.program_rules.specs.Meaning.{Means, means_end, means_strip, means_drop, means_bind, means_constant, means_integer, means_value, means_nil, means_list, means_multiset, means_join, means_tuple}
use Rattle.program_rules.specs.Meaning.{means_keep, means_choice, means_deny, means_cut, means_other, means_close}
use Rattle.program_rules.specs.Accepted.{lines_length, line_means}
use Rattle.program_rules.specs.Slots.{width, slots_in}
use Rattle.program_rules.specs.SlotLaws.{width_low, width_high, width_tuple, width_parts, width_sides, widths, slots_widths}

-- ---- Of a pattern.

unfoldable mutual
  unfolding countᵖ

  pub slots_of : Pattern → ℕ
  slots_of wildcard = 0
  slots_of (variable x) = 0
  slots_of nil = 0
  slots_of (constant c) = 0
  slots_of (value x c) = 0
  slots_of (cons p q) = 1 + (slots_of p + slots_of q)
  slots_of (join p q) = 1 + (slots_of p + slots_of q)
  slots_of (tuple ps) = 1 + ((countᵖ ps - 2) + slots_parts ps)
  slots_of (both p q) = 1 + (slots_of p + slots_of q)
  slots_of (either p q) = 1 + (slots_of p + slots_of q)
  slots_of (never p) = 1 + slots_of p

  pub slots_parts : Patterns → ℕ
  slots_parts no_patterns = 0
  slots_parts (p ▸ᵖ ps) = slots_of p + slots_parts ps

mutual
  unfolding slots_of span countᵖ

  slots_span : (p : Pattern) → slots_of p + 1 ≤ span p
  slots_span wildcard = omega arith
  slots_span (variable x) = omega arith
  slots_span nil = omega arith
  slots_span (constant c) = omega arith
  slots_span (value x c) = omega arith
  slots_span (cons p q) = let a = slots_span p in let b = slots_span q in omega arith
  slots_span (join p q) = let a = slots_span p in let b = slots_span q in omega arith
  slots_span (both p q) = let a = slots_span p in let b = slots_span q in omega arith
  slots_span (either p q) = let a = slots_span p in let b = slots_span q in omega arith
  slots_span (never p) = let a = slots_span p in omega arith
  slots_span (tuple ps) = let a = slots_span_all ps in omega arith

  slots_span_all : (ps : Patterns) → slots_parts ps + countᵖ ps ≤ span_all ps
  slots_span_all no_patterns = omega arith
  slots_span_all (p ▸ᵖ ps) = let a = slots_span p in let b = slots_span_all ps in omega arith

-- ---- Of what is to do from a place on.

unfoldable slots_all : List Item → ℕ
unfolding slots_of
slots_all [] = 0
slots_all (item p m c ∷ ts) = slots_of p + slots_all ts
slots_all (or_else q m ∷ ts) = slots_of q + slots_all ts
slots_all (end_or ∷ ts) = slots_all ts
slots_all (stop j ∷ ts) = slots_all ts

unfoldable slots_left : Point → ℕ
unfolding slots_of slots_all
slots_left (point ms p m k ts) = slots_of p + slots_all ts
slots_left (else_place ms q m ts) = slots_of q + slots_all ts
slots_left (end_place ms ts) = slots_all ts
slots_left (cutting ms j ts) = slots_all ts
slots_left (finish ms) = 0
slots_left (reserve P) = slots_left P
slots_left beyond = 0

left_beside : (ms : List Matcher) (ts : List Item) → slots_left (beside ms ts) ≡ slots_all ts
unfolding slots_left beside
left_beside ms [] = refl
left_beside ms (item p m c ∷ ts) = refl
left_beside ms (or_else q m ∷ ts) = refl
left_beside ms (end_or ∷ ts) = refl
left_beside ms (stop j ∷ ts) = refl

left_reserved : (n : ℕ) (P : Point) → slots_left (reserved n P) ≡ slots_left P
unfolding slots_left reserved
left_reserved zero P = refl
left_reserved (suc n) P = left_reserved n P

left_items : (ps : Patterns) (ks : Matchers) (c : ℕ) (ts : List Item) → slots_all (items ps ks c ts) ≡ slots_parts ps + slots_all ts
unfolding slots_all items
left_items no_patterns ks c ts = omega arith
left_items (p ▸ᵖ ps) ks c ts = let h = left_items ps (others_of ks) (suc c) ts in omega arith

left_parted : (ms : List Matcher) (ps : Patterns) (ks : Matchers) (pc : ℕ) (ts : List Item) → slots_left (parted ms ps ks pc ts) ≡ slots_parts ps + slots_all ts
unfolding slots_left parted
left_parted ms no_patterns ks pc ts = left_beside ms ts ∙ omega arith
left_parted ms (p ▸ᵖ ps) ks pc ts = let h = left_items ps (others_of ks) pc ts in omega arith

-- ---- An instruction uses up its own.

unfoldable slots_by : Instr → ℕ
slots_by strip = 0
slots_by keep = 1
slots_by other = 0
slots_by close = 0
slots_by (drop f t) = 0
slots_by (bind n f t) = 0
slots_by (test s f t) = 0
slots_by (split k) = 1
slots_by (apart n) = suc n
slots_by (choice t) = 1
slots_by (deny f t) = 1
slots_by (cut_at j) = 0
slots_by (end n) = 0

left_less : (pc : ℕ) (P : Point) → slots_by (instr_of pc P) + slots_left (follow_of pc P) ≤ slots_left P
unfolding slots_by instr_of slots_left follow_of
left_less pc (finish ms) = omega arith
left_less pc (reserve P) = omega arith
left_less pc beyond = omega arith
left_less pc (else_place ms q m ts) = omega arith
left_less pc (end_place ms ts) = let e = left_beside ms ts in omega arith
left_less pc (cutting ms j ts) = let e = left_beside ms ts in omega arith
left_less pc (point ms wildcard something k ts) = let e = left_beside ms ts in omega arith
left_less pc (point ms wildcard integer k ts) = omega arith
left_less pc (point ms wildcard (list m) k ts) = omega arith
left_less pc (point ms wildcard (multiset m) k ts) = omega arith
left_less pc (point ms wildcard (tuple_of ks) k ts) = omega arith
left_less pc (point ms (variable x) something k ts) = let e = left_beside (ms ++ (k ∷ [])) ts in omega arith
left_less pc (point ms (variable x) integer k ts) = omega arith
left_less pc (point ms (variable x) (list m) k ts) = omega arith
left_less pc (point ms (variable x) (multiset m) k ts) = omega arith
left_less pc (point ms (variable x) (tuple_of ks) k ts) = omega arith
left_less pc (point ms nil m k ts) = let e = left_beside ms ts in omega arith
left_less pc (point ms (constant c) m k ts) = let e = left_beside ms ts in omega arith
left_less pc (point ms (value (pos x) c) m k ts) = let e = left_beside ms ts in omega arith
left_less pc (point ms (value (negsuc x) c) m k ts) = let e = left_beside ms ts in omega arith
left_less pc (point ms (cons p q) something k ts) = omega arith
left_less pc (point ms (cons p q) integer k ts) = omega arith
left_less pc (point ms (cons p q) (list m) k ts) = omega arith
left_less pc (point ms (cons p q) (multiset m) k ts) = omega arith
left_less pc (point ms (cons p q) (tuple_of ks) k ts) = omega arith
left_less pc (point ms (join p q) something k ts) = omega arith
left_less pc (point ms (join p q) integer k ts) = omega arith
left_less pc (point ms (join p q) (list m) k ts) = omega arith
left_less pc (point ms (join p q) (multiset m) k ts) = omega arith
left_less pc (point ms (join p q) (tuple_of ks) k ts) = omega arith
left_less pc (point ms (tuple ps) m k ts) =
    let a = left_reserved (countᵖ ps - 2) (parted ms ps (members m) pc ts) in
    let b = left_parted ms ps (members m) pc ts in
    omega arith
left_less pc (point ms (both p q) m k ts) = omega arith
left_less pc (point ms (either p q) m k ts) = omega arith
left_less pc (point ms (never p) m k ts) = omega arith

means_width : {ms : List ℤ} {vars to : ℕ} {l : Line} {i : Instr} → Means ms vars l to i → width l.op 0 ≡ slots_by i
unfolding slots_by
means_width (means_end e) = rw e (width_low 0 0 (omega arith))
means_width (means_strip e) = rw e (width_low 1 0 (omega arith))
means_width (means_drop e) = rw e (width_low 2 0 (omega arith))
means_width (means_bind e) = rw e (width_low 3 0 (omega arith))
means_width (means_constant e) = rw e (width_low 4 0 (omega arith))
means_width (means_integer e) = rw e (width_low 5 0 (omega arith))
means_width (means_value m e f a) = rw e (width_low 6 0 (omega arith))
means_width (means_nil m e) = rw e (width_low 7 0 (omega arith))
means_width (means_list m e) = rw e (width_parts 8 0 (omega arith) (omega arith))
means_width (means_multiset m e a) = rw e (width_parts 9 0 (omega arith) (omega arith))
means_width (means_join m e) = rw e (width_parts 10 0 (omega arith) (omega arith))
means_width (means_tuple n e d) = rw e (width_tuple (11 + n) 0 (omega arith) (omega arith) ∙ omega arith)
means_width (means_keep e) = rw e (width_sides 14 0 (omega arith) (omega arith))
means_width (means_choice e) = rw e (width_sides 15 0 (omega arith) (omega arith))
means_width (means_deny e) = rw e (width_sides 16 0 (omega arith) (omega arith))
means_width (means_cut e) = rw e (width_high 17 0 (omega arith))
means_width (means_other e) = rw e (width_high 18 0 (omega arith))
means_width (means_close e) = rw e (width_high 19 0 (omega arith))

-- ---- Of a rule that is accepted.

widths_most : (ls : List Line) (s : ℕ → ℕ) (pc : ℕ) → ((j : ℕ) → j < length ls → width (get_or ls j end_line).op 0 + s (suc (pc + j)) ≤ s (pc + j)) → widths (ops_of ls) ≤ s pc
unfolding ops_of widths
widths_most [] s pc h = omega arith
widths_most (l ∷ ls) s pc h =
    let e : pc + 0 ≡ pc = omega arith in
    let a : width l.op 0 + s (suc pc) ≤ s pc = rw e at (h 0 (omega arith)) in
    let b = widths_most ls s (suc pc) (λ j l. let f : pc + suc j ≡ suc pc + j = omega arith in rw f at (h (suc j) (omega arith))) in
    omega arith

pub slots_few : (ms ps : List ℤ) (r : Rule) → rule_of ms ps ≡ accepted r → slots_in 0 (ops_of (lines_of ms ps)) ≤ 255
unfolding point_at program slots_left slots_all
slots_few ms ps r a =
    let w = (rule_accepted ms ps r).0 a in
    let p = (pattern_read ps r.pattern).0 w.pattern in
    let e = ap length p.0 ∙ length_pattern_words r.pattern in
    let n = p.1 in
    let g = slots_span r.pattern in
    let c = lines_length ms ps r w in
    let d = slots_widths 0 (ops_of (lines_of ms ps)) in
    let b = widths_most (lines_of ms ps) (λ pc. slots_left (point_at r.matcher r.pattern pc)) 0
    (λ j h. let z : 0 + j ≡ j = omega arith in
    let m = means_width (line_means ms ps r w j (omega arith) (get_or (tos_of (lines_of ms ps)) j 0) (link_leads ms ps r w j (omega arith))) in
    rw (z, m) (left_less j (point_at r.matcher r.pattern j))) in
    omega arith
