-- The second pass finds the places that the instructions of a rule's program name.
use Prim.Native.Nat.{ℕ, zero, suc, ◌+◌, ◌-◌, ◌<◌, ◌≤◌}
use native.Mathlib.Omega.{arith}
use Rattle.std.specs.Prelude.{◌≡◌, Bool, true, false, eqb, ℤ}
use Rattle.std.proofs.Math.Path.{refl, ap}
use Rattle.std.proofs.Common.{sym, ◌∙◌, ne_eqb, drop-cons}
use mathlib.Core.List.{List, [], ◌∷◌, ◌++◌}
use Rattle.std.proofs.Math.ListN.{length, get_or, drop, drop_of_length-le}
use Rattle.rules.specs.Forms.{Matcher, something, Matchers, Pattern, wildcard, variable, either, never, both, tuple, Patterns, no_patterns, ◌▸ᵖ◌, countᵖ}
use Rattle.rules.specs.Fit.{element, is_something, members}
use Rattle.rules.specs.Services.{Rule}
use Rattle.forms.specs.Faults.{WellFormed}
use Rattle.program_rules.specs.Points.{Kind, list_cons, multiset_cons, joins, over, first_by, whole, Test, as_constant, as_value, as_nil, tested, test_by, Loose, loose_wildcard, loose_variable}
use Rattle.program_rules.specs.Points.{Instr, strip, keep, other, close, drop as drops-to, bind, test, split, apart, choice, deny, cut_at, end}
use Rattle.program_rules.specs.Points.{Item, item, or_else, end_or, stop, Point, point, else_place, end_place, cutting, finish, reserve, beyond, beside, from, reserved, first_of, others_of, items, parted}
use Rattle.program_rules.specs.Points.{Follows, strips, drops, binds, tests, splits, aparts, keeps, chooses, denies, cuts, elses, closes, reserves, ends, after_end_lem}
use Rattle.program_rules.specs.Length.{instrs, instrs_parts, skip}
use Rattle.program_rules.specs.Program.{instr_of, point_at, follow_of, program}
use Rattle.tables.specs.declared.line.Line.{Line}
use Rattle.program_rules.specs.Lines.{end_line, lines_of, variables_in}
use Rattle.program_rules.specs.Link.{keeps as keeping, takes, top, under, to_by, land_by, kept_by, Linked, linked, linked_by, link_from, ops_of, tos_of}
use Rattle.program_rules.specs.Meaning.{Means, means_end, means_strip, means_drop, means_bind, means_constant, means_integer, means_value, means_nil, means_list, means_multiset, means_join, means_tuple, means_keep, means_choice, means_deny, means_cut, means_other, means_close, Leads}
use Rattle.program_rules.specs.Accepted.{follows, lines_length, line_means, last_beyond}

-- ---- What the pass has found when it comes to a place.

-- The places kept, pc being the place where what waits begins.
unfoldable pub marks : (pc : ℕ) → List Item → List ℕ
unfolding instrs skip
marks pc [] = []
marks pc (item p m c ∷ ts) = marks (pc + instrs p m) ts
marks pc (or_else q m ∷ ts) = suc pc ∷ marks (pc + (1 + (instrs q m + 1))) ts
marks pc (end_or ∷ ts) = (suc pc + skip ts) ∷ marks (suc pc) ts
marks pc (stop j ∷ ts) = (suc pc + skip ts) ∷ marks (suc pc) ts

unfoldable pub marks_of : (pc : ℕ) → Point → List ℕ
unfolding marks instrs
marks_of pc (point ms p m k ts) = marks (pc + instrs p m) ts
marks_of pc (else_place ms q m ts) = marks pc (or_else q m ∷ ts)
marks_of pc (end_place ms ts) = marks pc (end_or ∷ ts)
marks_of pc (cutting ms j ts) = marks pc (stop j ∷ ts)
marks_of pc (finish ms) = []
marks_of pc (reserve P) = marks_of (suc pc) P
marks_of pc beyond = []

-- Where a state stands that comes to the place pc.
unfoldable pub land_of : (pc : ℕ) → Point → ℕ
unfolding skip
land_of pc (point ms p m k ts) = pc
land_of pc (else_place ms q m ts) = pc + skip (or_else q m ∷ ts)
land_of pc (end_place ms ts) = pc + skip (end_or ∷ ts)
land_of pc (cutting ms j ts) = pc
land_of pc (finish ms) = pc
land_of pc (reserve P) = pc
land_of pc beyond = pc

marks_beside : (pc : ℕ) (ms : List Matcher) (ts : List Item) → marks_of pc (beside ms ts) ≡ marks pc ts
unfolding marks_of marks beside
marks_beside pc ms [] = refl
marks_beside pc ms (item p m c ∷ ts) = refl
marks_beside pc ms (or_else q m ∷ ts) = refl
marks_beside pc ms (end_or ∷ ts) = refl
marks_beside pc ms (stop j ∷ ts) = refl

land_beside : (pc : ℕ) (ms : List Matcher) (ts : List Item) → land_of pc (beside ms ts) ≡ pc + skip ts
unfolding land_of skip beside
land_beside pc ms [] = omega arith
land_beside pc ms (item p m c ∷ ts) = omega arith
land_beside pc ms (or_else q m ∷ ts) = refl
land_beside pc ms (end_or ∷ ts) = refl
land_beside pc ms (stop j ∷ ts) = omega arith

marks_at_lem : (x y : ℕ) (ts : List Item) → x ≡ y → marks x ts ≡ marks y ts
marks_at_lem x y ts e = ap (λ n. marks n ts) e

marks_items : (pc : ℕ) (ps : Patterns) (ks : Matchers) (c : ℕ) (ts : List Item) → marks pc (items ps ks c ts) ≡ marks (pc + instrs_parts ps ks) ts
unfolding marks items instrs_parts
marks_items pc no_patterns ks c ts = marks_at_lem pc (pc + 0) ts (omega arith)
marks_items pc (p ▸ᵖ ps) ks c ts = marks_items (pc + instrs p (first_of ks)) ps (others_of ks) (suc c) ts ∙ marks_at_lem _ _ ts (omega arith)

marks_reserved : (pc n : ℕ) (P : Point) → marks_of pc (reserved n P) ≡ marks_of (pc + n) P
unfolding marks_of reserved
marks_reserved pc zero P = let e : pc + 0 ≡ pc = omega arith in rw e
marks_reserved pc (suc n) P = let e : pc + suc n ≡ suc pc + n = omega arith in rw e (marks_reserved (suc pc) n P)

marks_parted : (pc : ℕ) (ms : List Matcher) (ps : Patterns) (ks : Matchers) (c : ℕ) (ts : List Item) → marks_of pc (parted ms ps ks c ts) ≡ marks (pc + instrs_parts ps ks) ts
unfolding marks_of parted instrs_parts
marks_parted pc ms no_patterns ks c ts = marks_beside pc ms ts ∙ marks_at_lem pc (pc + 0) ts (omega arith)
marks_parted pc ms (p ▸ᵖ ps) ks c ts = marks_items (pc + instrs p (first_of ks)) ps (others_of ks) c ts ∙ marks_at_lem _ _ ts (omega arith)

-- ---- By the instruction of a line.

unfoldable OpBy : Instr → ℕ → Type 0
OpBy strip o = o ≤ 14
OpBy keep o = o ≤ 14
OpBy other o = o ≡ 18
OpBy close o = o ≡ 19
OpBy (drops-to f t) o = o ≤ 14
OpBy (bind n f t) o = o ≤ 14
OpBy (test s f t) o = o ≤ 14
OpBy (split k) o = o ≤ 14
OpBy (apart n) o = o ≤ 14
OpBy (choice t) o = o ≡ 15
OpBy (deny f t) o = o ≡ 16
OpBy (cut_at j) o = o ≡ 17
OpBy (end n) o = o ≤ 14

op_by : {ms : List ℤ} {vars : ℕ} {l : Line} {to : ℕ} {I : Instr} → Means ms vars l to I → OpBy I l.op
unfolding OpBy
op_by (means_end e) = omega arith
op_by (means_strip e) = omega arith
op_by (means_drop e) = omega arith
op_by (means_bind e) = omega arith
op_by (means_constant e) = omega arith
op_by (means_integer e) = omega arith
op_by (means_value m e h a) = omega arith
op_by (means_nil m e) = omega arith
op_by (means_list m e) = omega arith
op_by (means_multiset m e a) = omega arith
op_by (means_join m e) = omega arith
op_by (means_tuple n e h) = omega arith
op_by (means_keep e) = omega arith
op_by (means_choice e) = e
op_by (means_deny e) = e
op_by (means_cut e) = e
op_by (means_other e) = e
op_by (means_close e) = e

some_to : (I : Instr) → (to : ℕ) × Leads to I
unfolding Leads
some_to strip = (0, tt)
some_to keep = (0, tt)
some_to other = (0, tt)
some_to close = (0, tt)
some_to (drops-to f t) = (t, refl)
some_to (bind n f t) = (t, refl)
some_to (test s f t) = (t, refl)
some_to (split k) = (0, tt)
some_to (apart n) = (0, tt)
some_to (choice t) = (t, refl)
some_to (deny f t) = (t, refl)
some_to (cut_at j) = (0, tt)
some_to (end n) = (0, tt)

-- A line of another instruction keeps and takes none.
plain_by : (o pc : ℕ) (r : Linked) → o ≤ 14 → linked_by o pc r ≡ linked pc r.kept (r.land ∷ r.tos)
unfolding linked_by to_by land_by kept_by keeping takes
plain_by o pc r l = rw (ne_eqb o 15 (λ e. omega arith), ne_eqb o 16 (λ e. omega arith), ne_eqb o 17 (λ e. omega arith), ne_eqb o 18 (λ e. omega arith), ne_eqb o 19 (λ e. omega arith))

choice_by : (o pc : ℕ) (r : Linked) → o ≡ 15 → linked_by o pc r ≡ linked pc (under r.kept) (top r.kept ∷ r.tos)
unfolding linked_by to_by land_by kept_by keeping takes
choice_by o pc r e = rw e

deny_by : (o pc : ℕ) (r : Linked) → o ≡ 16 → linked_by o pc r ≡ linked pc (under r.kept) (top r.kept ∷ r.tos)
unfolding linked_by to_by land_by kept_by keeping takes
deny_by o pc r e = rw e

cut_by : (o pc : ℕ) (r : Linked) → o ≡ 17 → linked_by o pc r ≡ linked pc (r.land ∷ r.kept) (r.land ∷ r.tos)
unfolding linked_by to_by land_by kept_by keeping takes
cut_by o pc r e = rw e

other_by : (o pc : ℕ) (r : Linked) → o ≡ 18 → linked_by o pc r ≡ linked (top r.kept) (suc pc ∷ under r.kept) (top r.kept ∷ r.tos)
unfolding linked_by to_by land_by kept_by keeping takes
other_by o pc r e = rw e

close_by : (o pc : ℕ) (r : Linked) → o ≡ 19 → linked_by o pc r ≡ linked r.land (r.land ∷ r.kept) (r.land ∷ r.tos)
unfolding linked_by to_by land_by kept_by keeping takes
close_by o pc r e = rw e

-- ---- One line.

pub record Ready (pc : ℕ) (P : Point) (r : Linked) : Type 0 where
  pub land : r.land ≡ land_of pc P
  pub kept : r.kept ≡ marks_of pc P

pub record Found (o pc : ℕ) (P : Point) (r : Linked) : Type 0 where
  pub ready : Ready pc P (linked_by o pc r)
  pub leads : Leads (to_by o r.land r.kept) (instr_of pc P)

plain_to : (o land : ℕ) (xs : List ℕ) → o ≤ 14 → to_by o land xs ≡ land
unfolding to_by takes
plain_to o land xs l = rw (ne_eqb o 15 (λ e. omega arith), ne_eqb o 16 (λ e. omega arith), ne_eqb o 18 (λ e. omega arith))

plain_found : {o pc : ℕ} {P : Point} {r : Linked} → o ≤ 14 → land_of pc P ≡ pc → r.kept ≡ marks_of pc P → Leads r.land (instr_of pc P) → Found o pc P r
plain_found {o} {pc} {P} {r} l a k d = record {
  ready = rw (plain_by o pc r l) (record { land = sym a; kept = k });
  leads = rw (plain_to o r.land r.kept l) d;
}

module _ {o pc : ℕ} {r : Linked} where
  -- A tag without parts.
  leaf_found : (ms : List Matcher) (ts : List Item) {ks : List Matcher} {p : Pattern} {m k : Matcher} → Ready (suc pc) (beside ms ts) r → o ≤ 14 → instrs p m ≡ 1
      → ((to : ℕ) → suc pc + skip ts ≡ to → Leads to (instr_of pc (point ks p m k ts))) → Found o pc (point ks p m k ts) r
  unfolding land_of marks_of
  leaf_found ms ts h l e d =
      plain_found l refl (h.kept ∙ marks_beside (suc pc) ms ts ∙ marks_at_lem _ _ ts (omega arith)) (d r.land (sym (h.land ∙ land_beside (suc pc) ms ts)))

  -- A tag with one part or more, whose lines follow.
  parts_found : {ks : List Matcher} {p : Pattern} {m k : Matcher} {ts : List Item} (n : ℕ) → r.kept ≡ marks n ts → o ≤ 14 → n ≡ pc + instrs p m
      → Leads r.land (instr_of pc (point ks p m k ts)) → Found o pc (point ks p m k ts) r
  unfolding land_of marks_of
  parts_found {ts = ts} n h l e d = plain_found l refl (h ∙ marks_at_lem n _ ts e) d

loose_two : {p : Pattern} (m : Matcher) → Loose p → is_something m ≡ false → (instrs p m ≡ 2) × (instrs p something ≡ 1)
unfolding instrs
loose_two m loose_wildcard h = (ap (λ b. elim b as (λ _. ℕ) [ true ↦ 1 | false ↦ 2 ]) h, refl)
loose_two m loose_variable h = (ap (λ b. elim b as (λ _. ℕ) [ true ↦ 1 | false ↦ 2 ]) h, refl)

loose_strip : {p : Pattern} (m : Matcher) (pc : ℕ) (ks : List Matcher) (k : Matcher) (ts : List Item) → Loose p → is_something m ≡ false
    → instr_of pc (point ks p m k ts) ≡ strip
unfolding instr_of
loose_strip m pc ks k ts loose_wildcard h = ap (λ b. elim b as (λ _. Instr) [ true ↦ drops-to (from ts) (suc pc + skip ts) | false ↦ strip ]) h
loose_strip m pc ks k ts loose_variable h = ap (λ b. elim b as (λ _. Instr) [ true ↦ bind (length ks) (from ts) (suc pc + skip ts) | false ↦ strip ]) h

test_one : (t : Test) → instrs (tested t) (test_by t) ≡ 1
unfolding instrs tested test_by
test_one (as_constant c) = refl
test_one (as_value m x c) = refl
test_one (as_nil m) = refl

test_leads : (t : Test) (pc to : ℕ) (ks : List Matcher) (ts : List Item) → suc pc + skip ts ≡ to → Leads to (instr_of pc (point ks (tested t) (test_by t) (test_by t) ts))
unfolding instr_of Leads tested test_by
test_leads (as_constant c) pc to ks ts e = e
test_leads (as_value m x c) pc to ks ts e = e
test_leads (as_nil m) pc to ks ts e = e

test_next : (t : Test) (pc : ℕ) (ms : List Matcher) (ts : List Item) → follow_of pc (point ms (tested t) (test_by t) (test_by t) ts) ≡ beside ms ts
unfolding follow_of tested test_by
test_next (as_constant c) pc ms ts = refl
test_next (as_value m x c) pc ms ts = refl
test_next (as_nil m) pc ms ts = refl

whole_size : (d : Kind) (p q : Pattern) → instrs (whole d p q) (over d) ≡ 1 + (instrs p (first_by d) + instrs q (over d))
unfolding instrs whole over first_by element
whole_size (list_cons m) p q = refl
whole_size (multiset_cons m) p q = refl
whole_size (joins m) p q = refl

whole_leads : (d : Kind) (p q : Pattern) (pc to : ℕ) (ks : List Matcher) (ts : List Item) → Leads to (instr_of pc (point ks (whole d p q) (over d) (over d) ts))
unfolding instr_of Leads whole over
whole_leads (list_cons m) p q pc to ks ts = tt
whole_leads (multiset_cons m) p q pc to ks ts = tt
whole_leads (joins m) p q pc to ks ts = tt

module _ {o pc : ℕ} {r : Linked} where
  -- An or: its first place kept is that of the second side, which stands after the first and one place more.
  choice_found : {ks : List Matcher} {p q : Pattern} {m k : Matcher} {ts : List Item} → Ready (suc pc) (point ks p m m (or_else q m ∷ ts)) r → o ≡ 15
      → Found o pc (point ks (either p q) m k ts) r
  unfolding marks_of marks land_of instrs instr_of Leads to_by takes top under
  choice_found {p = p} {q = q} {m = m} {ts = ts} h e = record {
    ready = rw (choice_by o pc r e, h.kept) (record { land = refl; kept = marks_at_lem _ _ ts (omega arith) });
    leads = rw (e, h.kept) (omega arith);
  }

  deny_found : {ks : List Matcher} {p : Pattern} {m k : Matcher} {j : ℕ} {ts : List Item} → Ready (suc pc) (point ks p m m (stop j ∷ ts)) r → o ≡ 16
      → Found o pc (point ks (never p) m k ts) r
  unfolding marks_of marks land_of instrs instr_of Leads to_by takes top under
  deny_found {p = p} {m = m} {ts = ts} h e = record {
    ready = rw (deny_by o pc r e, h.kept) (record { land = refl; kept = marks_at_lem _ _ ts (omega arith) });
    leads = rw (e, h.kept) (omega arith);
  }

  cut_found : (ms : List Matcher) (ts : List Item) {ks : List Matcher} {j : ℕ} → Ready (suc pc) (beside ms ts) r → o ≡ 17 → Found o pc (cutting ks j ts) r
  unfolding marks_of marks land_of instr_of Leads
  cut_found ms ts h e = record {
    ready = rw (cut_by o pc r e) (record { land = refl; kept = rw (h.land ∙ land_beside (suc pc) ms ts, h.kept ∙ marks_beside (suc pc) ms ts) });
    leads = tt;
  }

  close_found : (ms : List Matcher) (ts : List Item) {ks : List Matcher} → Ready (suc pc) (beside ms ts) r → o ≡ 19 → Found o pc (end_place ks ts) r
  unfolding marks_of marks land_of instr_of Leads skip
  close_found ms ts h e =
      let a = h.land ∙ land_beside (suc pc) ms ts in
      record {
        ready = rw (close_by o pc r e) (record { land = omega arith; kept = rw (a, h.kept ∙ marks_beside (suc pc) ms ts) });
        leads = tt;
      }

  other_found : {ks : List Matcher} {q : Pattern} {m : Matcher} {ts : List Item} → Ready (suc pc) (point ks q m m (end_or ∷ ts)) r → o ≡ 18
      → Found o pc (else_place ks q m ts) r
  unfolding marks_of marks land_of instr_of Leads skip top under
  other_found {ks} {q} {m} {ts} h e = record {
    ready = rw (other_by o pc r e, h.kept) (record { land = omega arith; kept = ap (λ x. suc pc ∷ x) (marks_at_lem _ _ ts (omega arith)) });
    leads = tt;
  }

  tuple_found : {ms : List Matcher} {m k : Matcher} (ps : Patterns) {ts : List Item} → Ready (suc pc) (reserved (countᵖ ps - 2) (parted ms ps (members m) pc ts)) r → o ≤ 14
      → Found o pc (point ms (tuple ps) m k ts) r
  unfolding instrs instr_of Leads
  tuple_found {ms} {m} {k} ps {ts} h l =
      parts_found (suc pc + (countᵖ ps - 2) + instrs_parts ps (members m))
      (h.kept ∙ marks_reserved (suc pc) (countᵖ ps - 2) (parted ms ps (members m) pc ts) ∙ marks_parted (suc pc + (countᵖ ps - 2)) ms ps (members m) pc ts) l (omega arith) tt

  found : {points : ℕ → Point} {I : Instr} {P : Point} → Follows points pc I P → points (suc pc) ≡ follow_of pc P → OpBy I o → Ready (suc pc) (points (suc pc)) r → Found o pc P r
  unfolding follow_of OpBy is_something instrs instr_of Leads marks_of marks land_of
  found (strips {ms = ms} {p = p} {m = m} {ts = ts} z h pt) f l y =
      let e = loose_two m z h in
      let g = (rw pt at y).kept in
      parts_found (suc pc + instrs p something) g l (omega (arith, e.0, e.1)) (rw (loose_strip m pc ms m ts z h) tt)
  found (drops {ms = ms} {ts = ts} d pt) f l y = leaf_found ms ts (rw f at y) l refl (λ to e. e)
  found (binds {ms = ms} {m = m} {ts = ts} d pt) f l y = leaf_found (ms ++ (m ∷ [])) ts (rw f at y) l refl (λ to e. e)
  found (tests {ms = ms} {ts = ts} t s d pt) f l y = leaf_found ms ts (rw (f ∙ test_next t pc ms ts) at y) l (test_one t) (λ to e. test_leads t pc to ms ts e)
  found (splits {ms = ms} {ts = ts} d p q pt) f l y =
      let e = whole_size d p q in
      parts_found (suc pc + instrs p (first_by d) + instrs q (over d)) (rw pt at y).kept l (omega arith) (whole_leads d p q pc r.land ms ts)
  found (aparts p q ps m k ks c d pt) f l y = tuple_found (p ▸ᵖ q ▸ᵖ ps) (rw f at y) l
  found (keeps {m = m} p q pt) f l y = parts_found (suc pc + instrs p m + instrs q m) (rw pt at y).kept l (omega arith) tt
  found (chooses p q d pt qt) f l y = choice_found (rw pt at y) l
  found (denies p d pt qt) f l y = deny_found (rw pt at y) l
  found (cuts {ms = ms} {ts = ts}) f l y = cut_found ms ts (rw f at y) l
  found elses f l y = other_found (rw f at y) l
  found (closes {ms = ms} {ts = ts}) f l y = close_found ms ts (rw f at y) l
  found reserves f l y = plain_found l refl (rw f at y).kept tt
  found ends f l y = plain_found l refl (rw f at y).kept tt
  found after_end_lem f l y = plain_found l refl (rw f at y).kept tt

-- ---- All lines.

pub tos_at : (j pc : ℕ) (os : List ℕ) → get_or (link_from pc os).tos j 0 ≡ get_or (link_from (pc + j) (drop j os)).tos 0 0
unfolding link_from linked_by
tos_at zero pc os = let e : pc + 0 ≡ pc = omega arith in rw e
tos_at (suc j) pc [] = refl
tos_at (suc j) pc (o ∷ os) = let e : pc + suc j ≡ suc pc + j = omega arith in rw e (tos_at j (suc pc) os)

pub ops_drop : (n : ℕ) (ls : List Line) → ops_of (drop n ls) ≡ drop n (ops_of ls)
unfolding ops_of
ops_drop zero ls = refl
ops_drop (suc n) [] = refl
ops_drop (suc n) (l ∷ ls) = ops_drop n ls

ops_one : (l : Line) (ls : List Line) → ops_of (l ∷ ls) ≡ l.op ∷ ops_of ls
unfolding ops_of
ops_one l ls = refl

link_one : (pc o : ℕ) (os : List ℕ) → link_from pc (o ∷ os) ≡ linked_by o pc (link_from (suc pc) os)
unfolding link_from
link_one pc o os = refl

first_to : (o pc : ℕ) (r : Linked) → get_or (linked_by o pc r).tos 0 0 ≡ to_by o r.land r.kept
unfolding linked_by
first_to o pc r = refl

module _ (ms ps : List ℤ) (r : Rule) (w : WellFormed ms ps r) where
  size : ℕ
  size = instrs r.pattern r.matcher

  from_here : (pc : ℕ) → Linked
  from_here pc = link_from pc (ops_of (drop pc (lines_of ms ps)))

  here : (pc : ℕ) → pc ≤ size → from_here pc ≡ linked_by (get_or (lines_of ms ps) pc end_line).op pc (from_here (suc pc))
  unfolding from_here size
  here pc l =
      let n = lines_length ms ps r w in
      ap (λ ls. link_from pc (ops_of ls)) (drop-cons (lines_of ms ps) pc end_line (omega arith)) ∙ ap (link_from pc) (ops_one _ _) ∙ link_one pc _ _

  one : (pc : ℕ) → pc ≤ size → Ready (suc pc) (point_at r.matcher r.pattern (suc pc)) (from_here (suc pc))
      → Found (get_or (lines_of ms ps) pc end_line).op pc (point_at r.matcher r.pattern pc) (from_here (suc pc))
  unfolding point_at size
  one pc l y =
      let t = some_to (program r.matcher r.pattern pc) in
      found (follows ms ps r w pc) refl (op_by (line_means ms ps r w pc l t.0 t.1)) y

  ready : (k pc : ℕ) → pc + k ≡ size + 1 → Ready pc (point_at r.matcher r.pattern pc) (from_here pc)
  unfolding from_here size ops_of link_from land_of marks_of
  ready zero pc e =
      let n = lines_length ms ps r w in
      let z : pc ≡ size + 1 = omega arith in
      let a : point_at r.matcher r.pattern pc ≡ beyond = rw z (last_beyond ms ps r w) in
      let y : length (lines_of ms ps) ≤ pc = omega arith in
      let b : drop pc (lines_of ms ps) ≡ [] = drop_of_length-le (lines_of ms ps) y in
      rw (a, b) (record { land = refl; kept = refl })
  ready (suc k) pc e = rw (here pc (omega arith)) (one pc (omega arith) (ready k (suc pc) (omega arith))).ready

  at_zero : (n : ℕ) → get_or (link_from (0 + n) (drop n (ops_of (lines_of ms ps)))).tos 0 0 ≡ get_or (from_here n).tos 0 0
  unfolding from_here
  at_zero n = let z : 0 + n ≡ n = omega arith in rw (z, ops_drop n (lines_of ms ps))

  -- Each `to` is the place that the instruction names.
  pub link_leads : (pc : ℕ) → pc ≤ instrs r.pattern r.matcher → Leads (get_or (tos_of (lines_of ms ps)) pc 0) (program r.matcher r.pattern pc)
  unfolding tos_of program size
  link_leads pc l =
      let y = one pc l (ready (size - pc) (suc pc) (omega arith)) in
      let e : get_or (tos_of (lines_of ms ps)) pc 0 ≡ to_by (get_or (lines_of ms ps) pc end_line).op (from_here (suc pc)).land (from_here (suc pc)).kept =
      tos_at pc 0 (ops_of (lines_of ms ps)) ∙ at_zero pc ∙ ap (λ x. get_or x.tos 0 0) (here pc l) ∙ first_to (get_or (lines_of ms ps) pc end_line).op pc (from_here (suc pc)) in
      rw e y.leads
