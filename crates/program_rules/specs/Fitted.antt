-- If the pattern fits its matcher, each instruction of its program asks of the places after it what is to do there.
use Prim.Native.Nat.{ℕ, zero, suc, ◌+◌, ◌-◌, ◌<◌}
use Rattle.std.specs.Prelude.{◌≡◌, refl, Bool, true, false, ◌&&◌, ◌||◌, List, [], ◌∷◌, ◌++◌, length, T, eqb, ℤ, pos, negsuc}
use Rattle.std.proofs.Common.{ap, ◌∙◌, arith, eqb→eq}
use Rattle.std.proofs.Math.Option.{Option, none, some}
use Rattle.rules.specs.Forms.{Matcher, something, integer, list, multiset, tuple_of, Matchers, no_matchers, ◌▸ᵐ◌, countᵐ}
use Rattle.rules.specs.Forms.{Pattern, wildcard, nil, variable, constant, value, cons, join, tuple, both, either, never, Patterns, no_patterns, ◌▸ᵖ◌, countᵖ, span}
use Rattle.rules.specs.Reading.{Verdict, ok, fault, ◌then◌, entry}
use Rattle.rules.specs.Numbers.{same}
use Rattle.rules.specs.Variables.{demand}
use Rattle.rules.specs.Fit.{anywhere, tags_of, among, takes, element, members, is_integer, is_something, without_something, same_shape, alike, comparable, fits, fits_parts, fits_in, fits_parts_in, told_apart}
use Rattle.forms.specs.Tests.{is_true, and_split}
use Rattle.forms.specs.Readers.{then_ok}
use Rattle.forms.specs.Numbering.{demand_ok}
use Rattle.forms.specs.Written.{IsWidth, Widthsᵖ, WidthsAllᵖ}
use Rattle.program_rules.specs.Points.{list_cons, multiset_cons, joins, over, first_by, whole, as_constant, as_value, as_nil, tested, test_by, Sound, Loose, loose_wildcard, loose_variable}
use Rattle.program_rules.specs.Points.{Item, item, or_else, end_or, stop, Point, point, else_place, end_place, cutting, finish, reserve, beyond, enter, beside, reserved, first_of, others_of, items, parted}
use Rattle.program_rules.specs.Points.{Follows, strips, drops, binds, tests, splits, aparts, keeps, chooses, denies, cuts, elses, closes, reserves, ends, after_end_lem}
use Rattle.program_rules.specs.Length.{instrs, skip}
use Rattle.program_rules.specs.Program.{instr_of, follow_of, point_at, program}
use Rattle.program_rules.specs.Walk.{walk, walk_at, then_walk, first_walk, walk_reserved, binds_of, Shut, shut_none, shut_item, shut_else, shut_end, shut_stop, side_through, lands}
use Rattle.program_rules.specs.Closed.{Closed, ClosedAll, none_closed, none_binds}

-- ---- What is to do fits, its tuples have widths from 2 to 4, and no variable stands inside an or or a not.
pub record Fits (p : Pattern) (m : Matcher) (ms ks : List Matcher) : Type 0 where
  pub at : ℕ
  pub fit : fits p m at ms ≡ ok ks
  pub widths : Widthsᵖ p
  pub closed : Closed p

pub data Goods : List Matcher → List Item → Type 0 where
  goods_none : {ms : List Matcher} → Goods ms []
  goods : {ms ks : List Matcher} {p : Pattern} {m : Matcher} {c : ℕ} {ts : List Item} → Fits p m ms ks → Goods ks ts → Goods ms (item p m c ∷ ts)
  goods_else : {ms ks : List Matcher} {q : Pattern} {m : Matcher} {ts : List Item} → Fits q m ms ks → binds_of q m ≡ [] → Goods ks ts → Goods ms (or_else q m ∷ ts)
  goods_end : {ms : List Matcher} {ts : List Item} → Goods ms ts → Goods ms (end_or ∷ ts)
  goods_stop : {ms : List Matcher} {j : ℕ} {ts : List Item} → Goods ms ts → Goods ms (stop j ∷ ts)

pub data Good : Point → Type 0 where
  good : {ms ks : List Matcher} {p : Pattern} {m : Matcher} {ts : List Item} → Fits p m ms ks → Goods ks ts → Good (point ms p m m ts)
  good_bare : {ms ks : List Matcher} {p : Pattern} {m : Matcher} {ts : List Item} → Loose p → Fits p m ms ks → Goods ks ts
      → Good (point ms p something m ts)
  good_else : {ms ks : List Matcher} {q : Pattern} {m : Matcher} {ts : List Item} → Fits q m ms ks → Goods ks ts → Good (else_place ms q m ts)
  good_close : {ms : List Matcher} {ts : List Item} → Goods ms ts → Good (end_place ms ts)
  good_cut : {ms : List Matcher} {j : ℕ} {ts : List Item} → Goods ms ts → Good (cutting ms j ts)
  good_end : {ms : List Matcher} → Good (finish ms)
  good_reserve : {P : Point} → Good P → Good (reserve P)
  good_beyond : Good beyond

good_beside : {ms : List Matcher} {ts : List Item} → Goods ms ts → Good (beside ms ts)
unfolding beside
good_beside goods_none = good_end
good_beside (goods h g) = good h g
good_beside (goods_else h e g) = good_else h g
good_beside (goods_end g) = good_close g
good_beside (goods_stop g) = good_cut g

goods_shut : {ms : List Matcher} {ts : List Item} → Goods ms ts → Shut ts
goods_shut goods_none = shut_none
goods_shut (goods h g) = shut_item (goods_shut g)
goods_shut (goods_else h e g) = shut_else e (goods_shut g)
goods_shut (goods_end g) = shut_end (goods_shut g)
goods_shut (goods_stop g) = shut_stop (goods_shut g)

good_reserved : (n : ℕ) {P : Point} → Good P → Good (reserved n P)
unfolding reserved
good_reserved zero g = g
good_reserved (suc n) g = good_reserve (good_reserved n g)

-- The parts of a tuple, as many as the matchers.
goods_parts : (ps : Patterns) (ks : Matchers) {ms ls : List Matcher} {ts : List Item} (at c : ℕ) → countᵖ ps ≡ countᵐ ks → fits_parts ps ks at ms ≡ ok ls
    → WidthsAllᵖ ps → ClosedAll ps → Goods ls ts → Goods ms (items ps ks c ts)
unfolding fits_parts_in fits_in told_apart WidthsAllᵖ ClosedAll items first_of others_of countᵖ countᵐ
goods_parts no_patterns ks {ms} {ls} at c n h w d g = let e : ms ≡ ls = cc in rw e g
goods_parts (p ▸ᵖ ps) no_matchers at c n h w d g = absurd (omega arith)
goods_parts (p ▸ᵖ ps) (k ▸ᵐ ks) {ls = ls} at c n h w d g =
    let r = then_ok (fits p k at _) (λ l. fits_parts ps ks (at + span p) l) ls h in
    let z : countᵖ ps ≡ countᵐ ks = omega arith in
    goods (record { at = at; fit = r.1; widths = w.0; closed = d.0 }) (goods_parts ps ks (at + span p) (suc c) z r.2 w.1 d.1 g)

alike_ok : (m : Matcher) (o : Option Matcher) → T (alike m o) → (k : Matcher) × (o ≡ some k) × (same_shape m k ≡ true)
unfolding alike
alike_ok m none h = absurd h
alike_ok m (some k) h = (k, refl, is_true (same_shape m k) h)

value_ok : (v c : ℤ) (m : Matcher) (at : ℕ) (ms ks : List Matcher) → demand (takes m 3 && comparable v c m ms) at ms ≡ ok ks
    → (without_something m ≡ true) × ((k : Matcher) × (entry ms v ≡ some k) × (same_shape m k ≡ true)) × (ms ≡ ks)
unfolding comparable
value_ok v c m at ms ks h =
    let r = demand_ok (takes m 3 && comparable v c m ms) at ms ks h in
    let b = (and_split (takes m 3) (comparable v c m ms) r.0).1 in
    let t = and_split (without_something m) (alike m (entry ms v)) (and_split (without_something m && alike m (entry ms v)) (is_integer m || same c (pos 0)) b).0 in
    (is_true (without_something m) t.0, alike_ok m (entry ms v) t.1, r.1)

-- ---- Where the states that follow stand.

-- At the places after pc, where P is to do, is what the walk on from there says.
pub record Ahead (points : ℕ → Point) (pc : ℕ) (P : Point) : Type 0 where
  pub walked : (n : ℕ) → points (suc pc + n) ≡ walk n (suc pc) (follow_of pc P)

pub record Next (points : ℕ → Point) (pc : ℕ) (P : Point) : Type 0 where
  pub follows : Follows points pc (instr_of pc P) P
  pub fine : Good (follow_of pc P)

one : {points : ℕ → Point} {pc : ℕ} {P : Point} → Ahead points pc P → points (suc pc) ≡ follow_of pc P
unfolding walk
one {points} {pc} a = let e : suc pc ≡ suc pc + 0 = omega arith in ap points e ∙ a.walked 0

land : {points : ℕ → Point} {pc : ℕ} {P : Point} (ms : List Matcher) {ls : List Matcher} {ts : List Item} → Ahead points pc P → follow_of pc P ≡ beside ms ts
    → Goods ls ts → points (suc pc + skip ts) ≡ enter ms ts
land {pc = pc} ms {ts = ts} a e g = a.walked (skip ts) ∙ ap (walk (skip ts) (suc pc)) e ∙ lands ms (suc pc) (goods_shut g)

past : (pc n : ℕ) → pc < suc pc + n
past pc n = omega arith

absent : {A : Type 0} (ms : List Matcher) (i : ℕ) → ◌≡◌ {A = Verdict (List Matcher)} (fault i) (ok ms) → A
absent ms i h = let z : ◌≡◌ {A = ℕ} 0 1 = cc in absurd (omega arith)

kept : {ms ks : List Matcher} {ts : List Item} → ok ms ≡ ok ks → Goods ks ts → Good (beside ms ts)
kept {ms} {ks} h g = let e : ms ≡ ks = cc in rw e (good_beside g)

-- Both parts of a cons, a join or an and.
two : {p q : Pattern} {m k : Matcher} {ms ls ks : List Matcher} {ts : List Item} (pc i j : ℕ) → fits p k i ms ≡ ok ls → fits q m j ls ≡ ok ks
    → Widthsᵖ p × Widthsᵖ q → Closed p × Closed q → Goods ks ts → Good (point ms p k k (item q m pc ∷ ts))
two pc i j h l w d g = good (record { at = i; fit = h; widths = w.0; closed = d.0 }) (goods (record { at = j; fit = l; widths = w.1; closed = d.1 }) g)

-- A tuple's tag and width, and then its parts.
tuple_ok : (ps : Patterns) (ks : Matchers) (at : ℕ) (ms ls : List Matcher) → fits (tuple ps) (tuple_of ks) at ms ≡ ok ls
    → (countᵖ ps ≡ countᵐ ks) × (fits_parts ps ks (at + 2) ms ≡ ok ls)
unfolding fits_in fits_parts_in told_apart members takes tags_of among
tuple_ok ps ks at ms ls h =
    let r = then_ok (demand (eqb (countᵖ ps) (countᵐ ks)) at ms) (λ l. fits_parts ps ks (at + 2) l) ls h in
    let d = demand_ok (eqb (countᵖ ps) (countᵐ ks)) at ms r.0 r.1 in
    (eqb→eq (countᵖ ps) (countᵐ ks) d.0, rw d.1 r.2)

-- The tag is taken, and then one part fits or two do.
one_ok : (b : Bool) (at : ℕ) (ms ks : List Matcher) (f : List Matcher → Verdict (List Matcher)) → (demand b at ms then f) ≡ ok ks → f ms ≡ ok ks
one_ok b at ms ks f h = let r = then_ok (demand b at ms) f ks h in let d = demand_ok b at ms r.0 r.1 in rw d.1 r.2

two_ok : (b : Bool) (at : ℕ) (ms ks : List Matcher) (f : List Matcher → Verdict (List Matcher)) (g : List Matcher → Verdict (List Matcher))
    → (demand b at ms then λ l. f l then g) ≡ ok ks → (ls : List Matcher) × (f ms ≡ ok ls) × (g ls ≡ ok ks)
two_ok b at ms ks f g h = then_ok (f ms) g ks (one_ok b at ms ks (λ l. f l then g) h)

tuple_next : {points : ℕ → Point} (pc : ℕ) (ps : Patterns) (ks : Matchers) {ms ls : List Matcher} {ts : List Item} (at : ℕ) → countᵖ ps ≡ countᵐ ks → fits_parts ps ks at ms ≡ ok ls
    → IsWidth (countᵖ ps) → WidthsAllᵖ ps → ClosedAll ps → Ahead points pc (point ms (tuple ps) (tuple_of ks) (tuple_of ks) ts) → Goods ls ts
    → Next points pc (point ms (tuple ps) (tuple_of ks) (tuple_of ks) ts)
unfolding instr_of follow_of members parted items first_of others_of IsWidth countᵖ countᵐ fits_parts_in fits_in told_apart WidthsAllᵖ ClosedAll walk
tuple_next pc no_patterns ks at n h w v d a g = absurd (omega (arith, w.0))
tuple_next pc (p ▸ᵖ no_patterns) ks at n h w v d a g = absurd (omega (arith, w.0))
tuple_next pc (p ▸ᵖ q ▸ᵖ ps) no_matchers at n h w v d a g = absurd (omega arith)
tuple_next pc (p ▸ᵖ q ▸ᵖ ps) (m ▸ᵐ no_matchers) at n h w v d a g = absurd (omega arith)
tuple_next {points} pc (p ▸ᵖ q ▸ᵖ ps) (m ▸ᵐ k ▸ᵐ ks) {ms} {ls} {ts} at n h w v d a g =
    let r = then_ok (fits p m at ms) (λ l. fits_parts (q ▸ᵖ ps) (k ▸ᵐ ks) (at + span p) l) ls h in
    let z : countᵖ ps ≡ countᵐ ks = omega arith in
    let y : countᵖ (q ▸ᵖ ps) ≡ countᵐ (k ▸ᵐ ks) = omega arith in
    let e : suc (suc (countᵖ ps)) - 2 ≡ countᵖ ps = omega arith in
    let f : suc (pc + countᵖ ps) ≡ suc pc + (countᵖ ps + 0) = omega arith in
    let there : points (suc (pc + countᵖ ps)) ≡ point ms p m m (item q k pc ∷ items ps ks (suc pc) ts) = ap points f ∙ a.walked (countᵖ ps + 0) ∙ rw e (walk_reserved (countᵖ ps) 0 (suc pc) (point ms p m m (item q k pc ∷ items ps ks (suc pc) ts)) _ (λ i. refl)) in
    record {
      follows = rw e (aparts p q ps m k ks z (omega (arith, w.1)) there);
      fine = rw e (good_reserved (countᵖ ps) (good (record { at = at; fit = r.1; widths = v.0; closed = d.0 }) (goods_parts (q ▸ᵖ ps) (k ▸ᵐ ks) (at + span p) pc y r.2 v.1 d.1 g)));
    }

next : {points : ℕ → Point} (pc : ℕ) (p : Pattern) (m : Matcher) {ms ks : List Matcher} {ts : List Item} (at : ℕ) → fits p m at ms ≡ ok ks → Widthsᵖ p → Closed p
    → Ahead points pc (point ms p m m ts) → Goods ks ts → Next points pc (point ms p m m ts)
unfolding instr_of follow_of fits_in fits_parts_in told_apart is_something element members takes tags_of among demand ◌then◌ over first_by whole tested test_by Sound entry Widthsᵖ Closed anywhere walk beside
next pc wildcard something {ms} at h w d a g = record { follows = drops (past pc _) (land ms a refl g); fine = kept h g }
next pc wildcard integer at h w d a g = record { follows = strips loose_wildcard refl (one a); fine = good_bare loose_wildcard (record { at = at; fit = h; widths = w; closed = d }) g }
next pc wildcard (list m) at h w d a g = record { follows = strips loose_wildcard refl (one a); fine = good_bare loose_wildcard (record { at = at; fit = h; widths = w; closed = d }) g }
next pc wildcard (multiset m) at h w d a g = record { follows = strips loose_wildcard refl (one a); fine = good_bare loose_wildcard (record { at = at; fit = h; widths = w; closed = d }) g }
next pc wildcard (tuple_of m) at h w d a g = record { follows = strips loose_wildcard refl (one a); fine = good_bare loose_wildcard (record { at = at; fit = h; widths = w; closed = d }) g }
next pc (variable x) something {ms} at h w d a g = record { follows = binds (past pc _) (land (ms ++ (something ∷ [])) a refl g); fine = kept h g }
next pc (variable x) integer at h w d a g = record { follows = strips loose_variable refl (one a); fine = good_bare loose_variable (record { at = at; fit = h; widths = w; closed = d }) g }
next pc (variable x) (list m) at h w d a g = record { follows = strips loose_variable refl (one a); fine = good_bare loose_variable (record { at = at; fit = h; widths = w; closed = d }) g }
next pc (variable x) (multiset m) at h w d a g = record { follows = strips loose_variable refl (one a); fine = good_bare loose_variable (record { at = at; fit = h; widths = w; closed = d }) g }
next pc (variable x) (tuple_of m) at h w d a g = record { follows = strips loose_variable refl (one a); fine = good_bare loose_variable (record { at = at; fit = h; widths = w; closed = d }) g }
next pc nil m {ms} {ks} at h w d a g = let r = demand_ok (takes m 4) at ms ks h in record { follows = tests (as_nil m) (is_true (takes m 4) r.0) (past pc _) (land ms a refl g); fine = rw r.1 (good_beside g) }
next pc (constant c) something {ks = ks} at h w d a g = absent ks at h
next pc (constant c) integer {ms} at h w d a g = record { follows = tests (as_constant c) tt (past pc _) (land ms a refl g); fine = kept h g }
next pc (constant c) (list m) {ks = ks} at h w d a g = absent ks at h
next pc (constant c) (multiset m) {ks = ks} at h w d a g = absent ks at h
next pc (constant c) (tuple_of m) {ks = ks} at h w d a g = absent ks at h
next pc (value (pos x) c) m {ms} {ks} at h w d a g =
    let r = value_ok (pos x) c m at ms ks h in
    record { follows = tests (as_value m x c) (r.1.0, r.1.1, r.1.2, r.0) (past pc _) (land ms a refl g); fine = rw r.2 (good_beside g) }
next pc (value (negsuc x) c) m {ms} {ks} at h w d a g =
    let r = value_ok (negsuc x) c m at ms ks h in
    let z : ◌≡◌ {A = ℕ} 0 1 = cc r.1.1 in absurd (omega arith)
next pc (cons p q) something {ks = ks} at h w d a g = absent ks at h
next pc (cons p q) integer {ks = ks} at h w d a g = absent ks at h
next pc (cons p q) (list m) {ks = ks} at h w d a g = let r = then_ok _ _ ks h in record { follows = splits (list_cons m) p q (one a); fine = two pc _ _ r.1 r.2 w d g }
next pc (cons p q) (multiset m) {ks = ks} at h w d a g = let r = then_ok _ _ ks h in record { follows = splits (multiset_cons m) p q (one a); fine = two pc _ _ r.1 r.2 w d g }
next pc (cons p q) (tuple_of m) {ks = ks} at h w d a g = absent ks at h
next pc (join p q) something {ks = ks} at h w d a g = absent ks at h
next pc (join p q) integer {ks = ks} at h w d a g = absent ks at h
next pc (join p q) (list m) {ks = ks} at h w d a g = let r = then_ok _ _ ks h in record { follows = splits (joins m) p q (one a); fine = two pc _ _ r.1 r.2 w d g }
next pc (join p q) (multiset m) {ks = ks} at h w d a g = absent ks at h
next pc (join p q) (tuple_of m) {ks = ks} at h w d a g = absent ks at h
next pc (tuple ps) something {ks = ks} at h w d a g = absent ks at h
next pc (tuple ps) integer {ks = ks} at h w d a g = absent ks at h
next pc (tuple ps) (list m) {ks = ks} at h w d a g = absent ks at h
next pc (tuple ps) (multiset m) {ks = ks} at h w d a g = absent ks at h
next pc (tuple ps) (tuple_of m) {ms} {ks} at h w d a g = let r = tuple_ok ps m at ms ks h in tuple_next pc ps m (at + 2) r.0 r.1 w.0 w.1 d a g
next pc (both p q) m {ms} {ks} at h w d a g =
    let r = two_ok (takes m 8) at ms ks (λ l. fits p m (at + 1) l) (λ l. fits q m (at + 1 + span p) l) h in record { follows = keeps p q (one a); fine = two pc (at + 1) (at + 1 + span p) r.1 r.2 w d g }
next pc (either p q) m {ms} {ks} {ts} at h w d a g =
    let r = two_ok (takes m 9) at ms ks (λ l. fits p m (at + 1) l) (λ l. fits q m (at + 1 + span p) l) h in
    let f = a.walked (instrs p m + 1) ∙ then_walk (instrs p m) 1 (suc pc) _ _ (point ms q m m (end_or ∷ ts)) (side_through p m ms (or_else q m ∷ ts) (suc pc) (none_binds p m d.0)) (λ i. refl) in
    record {
      follows = chooses p q (past pc _) (one a) f;
      fine = good (record { at = at + 1; fit = r.1; widths = w.0; closed = none_closed p d.0 })
          (goods_else (record { at = at + 1 + span p; fit = r.2; widths = w.1; closed = none_closed q d.1 }) (none_binds q m d.1) g);
    }
next pc (never p) m {ms} {ks} {ts} at h w d a g =
    let r = one_ok (takes m 10) at ms ks (λ l. fits p m (at + 1) l) h in
    let f = a.walked (instrs p m + (1 + skip ts))
    ∙ then_walk (instrs p m) (1 + skip ts) (suc pc) _ _ (enter ms ts) (side_through p m ms (stop pc ∷ ts) (suc pc) (none_binds p m d))
    (λ i. first_walk (skip ts) i (cutting ms pc ts) _ (lands ms (suc i) (goods_shut g))) in
    record { follows = denies p (past pc _) (one a) f; fine = good (record { at = at + 1; fit = r; widths = w; closed = none_closed p d }) (goods_stop g) }

pub good_next : {points : ℕ → Point} (pc : ℕ) {P : Point} → Ahead points pc P → Good P → Next points pc P
unfolding instr_of follow_of fits_in fits_parts_in told_apart is_something
good_next pc a (good {p = p} {m = m} f g) = next pc p m f.at f.fit f.widths f.closed a g
good_next pc a (good_bare {ms} {ks} {m = m} loose_wildcard f g) =
    record { follows = drops (past pc _) (land ms a refl g); fine = rw (demand_ok (takes m 0) f.at ms ks f.fit).1 (good_beside g) }
good_next pc a (good_bare {ms} {ks} {m = m} loose_variable f g) = record {
  follows = binds (past pc _) (land (ms ++ (m ∷ [])) a refl g);
  fine = rw (demand_ok (takes m 1) f.at (ms ++ (m ∷ [])) ks f.fit).1 (good_beside g);
}
good_next pc a (good_else f g) = record { follows = elses; fine = good f (goods_end g) }
good_next pc a (good_close g) = record { follows = closes; fine = good_beside g }
good_next pc a (good_cut g) = record { follows = cuts; fine = good_beside g }
good_next pc a good_end = record { follows = ends; fine = good_beyond }
good_next pc a (good_reserve g) = record { follows = reserves; fine = g }
good_next pc a good_beyond = record { follows = after_end_lem; fine = good_beyond }

module _ (m : Matcher) (p : Pattern) (at : ℕ) (ks : List Matcher) (fit : fits p m at [] ≡ ok ks) (wide : Widthsᵖ p) (closed : Closed p) where
  ahead : (pc : ℕ) → Ahead (point_at m p) pc (point_at m p pc)
  unfolding point_at
  ahead pc = record { walked = λ n. walk_at m p n (suc pc) }

  pub good_at : (pc : ℕ) → Good (point_at m p pc)
  unfolding point_at
  good_at zero = good (record { at = at; fit = fit; widths = wide; closed = closed }) goods_none
  good_at (suc pc) = (good_next pc (ahead pc) (good_at pc)).fine

  pub program_follows : (pc : ℕ) → Follows (point_at m p) pc (program m p pc) (point_at m p pc)
  unfolding program
  program_follows pc = (good_next pc (ahead pc) (good_at pc)).follows
