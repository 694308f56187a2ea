-- The lines of a rule that is accepted have none that can fail exactly if its pattern is always true.
use Prim.Native.Nat.{ℕ, zero, suc, ◌+◌, ◌-◌, ◌≤◌, ◌<◌}
use Rattle.std.proofs.Common.{arith, add-one, ◌∙◌, append_assoc, append-nil}
use Rattle.std.proofs.Math.Decide.{dec_le}
use Rattle.std.specs.Prelude.{◌≡◌, Bool, List, [], ◌∷◌, ◌++◌, eqb, get_or, ℤ}
use Rattle.std.proofs.Math.Path.{refl, sym, ap}
use Rattle.std.proofs.Math.Bool.{true, false, cond}
use Rattle.rules.specs.Forms.{Matcher, tuple_of, Matchers, ◌▸ᵐ◌, tuple, Patterns, no_patterns, ◌▸ᵖ◌, countᵖ}
use Rattle.rules.specs.Fit.{is_something, members}
use Rattle.rules.specs.Always.{tags, tags_all, none_fails, always_true}
use Rattle.rules.specs.Services.{accepted, Rule, rule_of}
use Rattle.forms.specs.Faults.{WellFormed, rule_accepted}
use Rattle.words.specs.Words.{entries}
use Rattle.program_rules.specs.Points.{as_constant, as_value, as_nil, tested, test_by, Kind, list_cons, multiset_cons, joins, whole, over, first_by, loose_wildcard, loose_variable}
use Rattle.program_rules.specs.Points.{Instr, strip, keep, other, close, drop, bind, test, split, apart, choice, deny, cut_at, end, Item, item, or_else, end_or, stop}
use Rattle.program_rules.specs.Points.{Point, point, else_place, end_place, cutting, finish, reserve, beyond, beside, reserved, others_of, items, parted}
use Rattle.program_rules.specs.Points.{Follows, strips, drops, binds, tests, splits, aparts, keeps, chooses, denies, cuts, elses, closes, reserves, ends, after_end_lem}
use Rattle.program_rules.specs.Length.{instrs}
use Rattle.program_rules.specs.Program.{follow_of, point_at}
use Rattle.tables.specs.declared.line.Line.{Line}
use Rattle.tables.specs.Line.{Columns}
use Rattle.program_rules.specs.Meaning.{Means, means_end, means_strip, means_drop, means_bind, means_constant, means_integer, means_value, means_nil, means_list, means_multiset, means_join, means_tuple, means_keep, means_choice, means_deny, means_cut, means_other, means_close}
use Rattle.program_rules.specs.Accepted.{follows, last_beyond}
use Rattle.program_rules.specs.Columns.{line_in, Holds}
use Rattle.review_count.specs.Scan.{line_fails, none_from}

-- ---- What a line tells of its instruction.

unfoldable is_end : Instr → Bool
is_end strip = false
is_end keep = false
is_end other = false
is_end close = false
is_end (drop f t) = false
is_end (bind n f t) = false
is_end (test s f t) = false
is_end (split k) = false
is_end (apart n) = false
is_end (choice t) = false
is_end (deny f t) = false
is_end (cut_at j) = false
is_end (end n) = true

unfoldable divides : Kind → Bool
divides (list_cons m) = true
divides (multiset_cons m) = true
divides (joins m) = false

unfoldable can_fail : Instr → Bool
unfolding divides
can_fail strip = false
can_fail keep = false
can_fail other = false
can_fail close = false
can_fail (drop f t) = false
can_fail (bind n f t) = false
can_fail (test s f t) = true
can_fail (split k) = divides k
can_fail (apart n) = false
can_fail (choice t) = false
can_fail (deny f t) = true
can_fail (cut_at j) = false
can_fail (end n) = false

-- A number told by a line.
tuple_told : (n : ℕ) → n ≤ 2 → (eqb (11 + n) 0 ≡ false) × (line_fails (11 + n) ≡ false)
unfolding line_fails
tuple_told zero h = (refl, refl)
tuple_told (suc zero) h = (refl, refl)
tuple_told (suc (suc zero)) h = (refl, refl)
tuple_told (suc (suc (suc n))) h = absurd (omega arith)

abbrev Told : ℕ → Instr → Type 0
Told o I = (eqb o 0 ≡ is_end I) × (line_fails o ≡ can_fail I)

told : {ms : List ℤ} {vars to : ℕ} {l : Line} {I : Instr} → Means ms vars l to I → Told l.op I
unfolding is_end can_fail line_fails
told (means_end e) = (rw e, rw e)
told (means_strip e) = (rw e, rw e)
told (means_drop e) = (rw e, rw e)
told (means_bind e) = (rw e, rw e)
told (means_constant e) = (rw e, rw e)
told (means_integer e) = (rw e, rw e)
told (means_value m e h a) = (rw e, rw e)
told (means_nil m e) = (rw e, rw e)
told (means_list m e) = (rw e, rw e)
told (means_multiset m e a) = (rw e, rw e)
told (means_join m e) = (rw e, rw e)
told (means_tuple n e h) = let t = tuple_told n h in (ap (λ o. eqb o 0) e ∙ t.0, ap line_fails e ∙ t.1)
told (means_keep e) = (rw e, rw e)
told (means_choice e) = (rw e, rw e)
told (means_deny e) = (rw e, rw e)
told (means_cut e) = (rw e, rw e)
told (means_other e) = (rw e, rw e)
told (means_close e) = (rw e, rw e)

-- ---- The tags of what is still to do.

unfoldable tags_later : List Item → List ℕ
unfolding tags
tags_later [] = []
tags_later (item p m c ∷ ts) = tags p ++ tags_later ts
tags_later (or_else q m ∷ ts) = tags q ++ tags_later ts
tags_later (end_or ∷ ts) = tags_later ts
tags_later (stop j ∷ ts) = tags_later ts

unfoldable tags_at : Point → List ℕ
unfolding tags tags_later
tags_at (point ms p m k ts) = tags p ++ tags_later ts
tags_at (else_place ms q m ts) = tags q ++ tags_later ts
tags_at (end_place ms ts) = tags_later ts
tags_at (cutting ms j ts) = tags_later ts
tags_at (finish ms) = []
tags_at (reserve P) = tags_at P
tags_at beyond = []

beside_tags : (ms : List Matcher) (ts : List Item) → tags_at (beside ms ts) ≡ tags_later ts
unfolding tags_at beside
beside_tags ms [] = refl
beside_tags ms (item p m c ∷ ts) = refl
beside_tags ms (or_else q m ∷ ts) = refl
beside_tags ms (end_or ∷ ts) = refl
beside_tags ms (stop j ∷ ts) = refl

reserved_tags : (n : ℕ) (P : Point) → tags_at (reserved n P) ≡ tags_at P
unfolding tags_at reserved
reserved_tags zero P = refl
reserved_tags (suc n) P = reserved_tags n P

items_tags : (ps : Patterns) (ks : Matchers) (c : ℕ) (ts : List Item) → tags_later (items ps ks c ts) ≡ tags_all ps ++ tags_later ts
unfolding items tags_later tags
items_tags no_patterns ks c ts = refl
items_tags (p ▸ᵖ ps) ks c ts =
    ap {B = List ℕ} (λ l. tags p ++ l) (items_tags ps (others_of ks) (suc c) ts) ∙ sym (append_assoc (tags p) (tags_all ps) (tags_later ts))

parted_tags : (ms : List Matcher) (ps : Patterns) (ks : Matchers) (pc : ℕ) (ts : List Item) → tags_at (parted ms ps ks pc ts) ≡ tags_all ps ++ tags_later ts
unfolding parted tags_at tags
parted_tags ms no_patterns ks pc ts = beside_tags ms ts
parted_tags ms (p ▸ᵖ ps) ks pc ts =
    ap {B = List ℕ} (λ l. tags p ++ l) (items_tags ps (others_of ks) pc ts) ∙ sym (append_assoc (tags p) (tags_all ps) (tags_later ts))

tuple_tags : (pc : ℕ) (ms : List Matcher) (ps : Patterns) (m k : Matcher) (ts : List Item)
    → tags_at (follow_of pc (point ms (tuple ps) m k ts)) ≡ tags_all ps ++ tags_later ts
unfolding follow_of
tuple_tags pc ms ps m k ts = reserved_tags (countᵖ ps - 2) (parted ms ps (members m) pc ts) ∙ parted_tags ms ps (members m) pc ts

-- ---- One line.

-- What the tags at a place say is what the line says, and then the tags at the next place.
abbrev Says : Instr → Point → Point → Type 0
Says I P Q = none_fails (tags_at P) ≡ cond (is_end I) true (cond (can_fail I) false (none_fails (tags_at Q)))

module _ (pc : ℕ) where
  says : {points : ℕ → Point} {I : Instr} {P : Point} → Follows points pc I P → points (suc pc) ≡ follow_of pc P → Says I P (points (suc pc))
  unfolding is_end can_fail divides none_fails tags_at tags_later tags tested test_by whole over first_by follow_of is_something
  says (strips loose_wildcard h pt) f = rw pt
  says (strips loose_variable h pt) f = rw pt
  says (drops {ms} {m} {ts} l pt) f = rw f (ap none_fails (sym (beside_tags ms ts)))
  says (binds {ms} {x} {m} {ts} l pt) f = rw f (ap none_fails (sym (beside_tags (ms ++ (m ∷ [])) ts)))
  says (tests (as_constant c) y l pt) f = refl
  says (tests (as_value m x c) y l pt) f = refl
  says (tests (as_nil m) y l pt) f = refl
  says (splits (list_cons m) p q pt) f = refl
  says (splits (multiset_cons m) p q pt) f = refl
  says (splits {ms} {ts} (joins m) p q pt) f = rw pt (ap none_fails (append_assoc (tags p) (tags q) (tags_later ts)))
  says (aparts {ms} {ts} p q ps m k ks c d pt) f =
      let g = tuple_tags pc ms (p ▸ᵖ q ▸ᵖ ps) (tuple_of (m ▸ᵐ k ▸ᵐ ks)) (tuple_of (m ▸ᵐ k ▸ᵐ ks)) ts in ap none_fails (sym g) ∙ ap (λ Q. none_fails (tags_at Q)) (sym f)
  says (keeps {ms} {m} {ts} p q pt) f = rw pt (ap none_fails (append_assoc (tags p) (tags q) (tags_later ts)))
  says (chooses {ms} {m} {ts} p q l pt qt) f = rw pt (ap none_fails (append_assoc (tags p) (tags q) (tags_later ts)))
  says (denies p l pt qt) f = refl
  says (cuts {ms} {j} {ts}) f = rw f (ap none_fails (sym (beside_tags ms ts)))
  says elses f = rw f
  says (closes {ms} {ts}) f = rw f (ap none_fails (sym (beside_tags ms ts)))
  says reserves f = rw f
  says ends f = refl
  says after_end_lem f = refl

-- ---- All lines.

module _ (ms ps : List ℤ) (r : Rule) (w : WellFormed ms ps r) (vars : ℕ) (t : Columns) (holds : Holds ms r vars t) where
  at : ℕ → Point
  at pc = point_at r.matcher r.pattern pc

  last : ℕ
  last = instrs r.pattern r.matcher

  -- Where nothing is to do.
  beyond_none : (pc : ℕ) → pc ≡ last + 1 → none_fails (tags_at (at pc)) ≡ true
  unfolding at last tags_at none_fails
  beyond_none pc e = rw (e, last_beyond ms ps r w)

  line : (pc : ℕ) → pc ≤ last
      → none_fails (tags_at (at pc)) ≡ cond (eqb (get_or t.op pc 0) 0) true (cond (line_fails (get_or t.op pc 0)) false (none_fails (tags_at (at (suc pc)))))
  unfolding at last point_at line_in
  line pc h =
      let i = told (holds.means pc h) in
      let s = says pc (follows ms ps r w pc) refl in
      s ∙ rw (i.0, i.1)

  after : (pc : ℕ) → last < pc → get_or t.op pc 0 ≡ 0
  unfolding last line_in
  after pc h = ap (λ (l : Line). l.op) (holds.after pc h)

  scan : (left pc : ℕ) → pc ≤ last + 1 → last < pc + left → none_from t.op pc left ≡ none_fails (tags_at (at pc))
  unfolding none_from
  scan zero pc h k = sym (beyond_none pc (omega arith))
  scan (suc left) pc h k = go (dec_le pc last) (λ l. scan left (suc pc) (omega arith) (omega arith))
    where
      go : Dec (pc ≤ last) → (pc ≤ last → none_from t.op (suc pc) left ≡ none_fails (tags_at (at (suc pc)))) → none_from t.op pc (suc left) ≡ none_fails (tags_at (at pc))
      go (no n) s = let e = after pc (omega arith) in rw e (sym (beyond_none pc (omega arith)))
      go (yes l) s = ap (λ b. cond (eqb (get_or t.op pc 0) 0) true (cond (line_fails (get_or t.op pc 0)) false b)) (rw (add-one pc) (s l)) ∙ sym (line pc l)

-- What the scan tells of the lines of a rule that is accepted.
pub plain_is : (ms ps : List ℤ) (r : Rule) → rule_of ms ps ≡ accepted r → (vars : ℕ) (t : Columns) → Holds ms r vars t
    → none_from t.op 0 entries ≡ always_true r.pattern
unfolding always_true at last point_at tags_at tags_later
plain_is ms ps r a vars t h =
    let w = (rule_accepted ms ps r).0 a in
    let l = h.last in
    scan ms ps r w vars t h entries 0 (omega arith) (omega arith) ∙ ap none_fails (append-nil (tags r.pattern))
