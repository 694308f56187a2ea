-- The variables at each place of a program: what is to do there numbers on from the variables bound so far, and there are never more than 16.
use Rattle.std.specs.Prelude.{ℕ, zero, suc, ◌+◌, ◌-◌, ◌<◌, ◌≤◌, ◌≡◌, refl, Bool, true, false, ◌&&◌, List, [], ◌∷◌, ◌++◌, length, ltb, ℤ, pos, negsuc}
use Rattle.std.proofs.Common.{arith, sym, ◌∙◌, length-append, ltb→lt}
use Rattle.rules.specs.Numbers.{same}
use Rattle.rules.specs.Forms.{Matcher, something, Matchers, Pattern, wildcard, nil, variable, constant, value, cons, join, tuple, both, either, never, Patterns, no_patterns, ◌▸ᵖ◌, countᵖ, span}
use Rattle.rules.specs.Reading.{Verdict, ok}
use Rattle.rules.specs.Variables.{is_next, is_left, variables, variables_all}
use Rattle.rules.specs.Fit.{members, is_something}
use Rattle.forms.specs.Tests.{and_split}
use Rattle.forms.specs.Readers.{then_ok}
use Rattle.forms.specs.Written.{variable_tags}
use Rattle.forms.specs.Pairing.{same_eq}
use Rattle.forms.specs.Numbering.{variables_found, demand_ok}
use Rattle.program_rules.specs.Points.{Item, item, or_else, end_or, stop, Point, point, else_place, end_place, cutting, finish, reserve, beyond, beside, reserved, first_of, others_of, items, parted}
use Rattle.program_rules.specs.Program.{follow_of, point_at}
use Rattle.program_rules.specs.Length.{to_come, come_reserved, come_parted, all_some}

-- n variables stand to the left of what waits.
pub data Waits : ℕ → List Item → Type 0 where
  waits_none : {n : ℕ} → Waits n []
  waits : {n k : ℕ} {p : Pattern} {m : Matcher} {c : ℕ} {ts : List Item} (may : Bool) (at : ℕ) → variables p may at n ≡ ok k → Waits k ts → Waits n (item p m c ∷ ts)
  waits_else : {n k : ℕ} {q : Pattern} {m : Matcher} {ts : List Item} (may : Bool) (at : ℕ) → variables q may at n ≡ ok k → Waits k ts → Waits n (or_else q m ∷ ts)
  waits_end : {n : ℕ} {ts : List Item} → Waits n ts → Waits n (end_or ∷ ts)
  waits_stop : {n j : ℕ} {ts : List Item} → Waits n ts → Waits n (stop j ∷ ts)

pub data Numbered : Point → Type 0 where
  numbered : {ms : List Matcher} {p : Pattern} {m b : Matcher} {ts : List Item} {k : ℕ} (may : Bool) (at : ℕ)
      → length ms ≤ 16 → variables p may at (length ms) ≡ ok k → Waits k ts → Numbered (point ms p m b ts)
  numbered_else : {ms : List Matcher} {q : Pattern} {m : Matcher} {ts : List Item} {k : ℕ} (may : Bool) (at : ℕ)
      → length ms ≤ 16 → variables q may at (length ms) ≡ ok k → Waits k ts → Numbered (else_place ms q m ts)
  numbered_close : {ms : List Matcher} {ts : List Item} → length ms ≤ 16 → Waits (length ms) ts → Numbered (end_place ms ts)
  numbered_cut : {ms : List Matcher} {j : ℕ} {ts : List Item} → length ms ≤ 16 → Waits (length ms) ts → Numbered (cutting ms j ts)
  numbered_end : {ms : List Matcher} → length ms ≤ 16 → Numbered (finish ms)
  numbered_reserve : {P : Point} → 1 ≤ to_come P → Numbered P → Numbered (reserve P)
  numbered_beyond : Numbered beyond

enters : (ms : List Matcher) {n : ℕ} {ts : List Item} → length ms ≤ 16 → length ms ≡ n → Waits n ts → Numbered (beside ms ts)
unfolding beside
enters ms l e waits_none = numbered_end l
enters ms l e (waits {k = k} {p = p} may at h w) = let g : variables p may at (length ms) ≡ ok k = rw e h in numbered {ms = ms} {p = p} may at l g w
enters ms l e (waits_else {k = k} {q = q} may at h w) = let g : variables q may at (length ms) ≡ ok k = rw e h in numbered_else {ms = ms} {q = q} may at l g w
enters ms l e (waits_end {ts = ts} w) = numbered_close {ms = ms} {ts = ts} l (rw e w)
enters ms l e (waits_stop {ts = ts} w) = numbered_cut {ms = ms} {ts = ts} l (rw e w)

-- A tag without parts: what is found is the number of variables to the left of what follows.
kept : (ms : List Matcher) {n : ℕ} {ts : List Item} → length ms ≤ 16 → ◌≡◌ {A = Verdict ℕ} (ok (length ms)) (ok n) → Waits n ts → Numbered (beside ms ts)
kept ms {n} l h w = let e : length ms ≡ n = cc in enters ms l e w

bound : (ms : List Matcher) (may : Bool) (at : ℕ) {n : ℕ} {ts : List Item} (x : ℤ) (b : Matcher) → length ms ≤ 16 → variables (variable x) may at (length ms) ≡ ok n → Waits n ts
    → Numbered (beside (ms ++ (b ∷ [])) ts)
unfolding variable_tags
bound ms may at {n} x b l h w =
    let r = variables_found (variable x) may at (length ms) n h in
    let z : length (ms ++ (b ∷ [])) ≡ length ms + 1 = length-append ms (b ∷ []) in
    let y = r.1 l in
    let f : n ≡ length ms + 1 = r.0 in
    let e : length (ms ++ (b ∷ [])) ≡ n = z ∙ sym f in
    enters (ms ++ (b ∷ [])) (omega arith) e w

-- The parts of a tuple.
part_waits : (ps : Patterns) (ks : Matchers) {n k : ℕ} {ts : List Item} (may : Bool) (at c : ℕ) → variables_all ps may at n ≡ ok k → Waits k ts → Waits n (items ps ks c ts)
unfolding variables_all items
part_waits no_patterns ks {n} {k} may at c h w = let e : n ≡ k = cc in rw e w
part_waits (p ▸ᵖ ps) ks {k = k} may at c h w =
    let r = then_ok _ _ k h in
    waits {p = p} {m = first_of ks} {c = c} may at r.1 (part_waits ps (others_of ks) may (at + span p) (suc c) r.2 w)

parted_numbered : (ms : List Matcher) (ps : Patterns) (ks : Matchers) {k : ℕ} {ts : List Item} (may : Bool) (at pc : ℕ) → length ms ≤ 16
    → variables_all ps may at (length ms) ≡ ok k → Waits k ts → Numbered (parted ms ps ks pc ts)
unfolding variables_all parted
parted_numbered ms no_patterns ks may at pc l h w = kept ms l h w
parted_numbered ms (p ▸ᵖ ps) ks {k = k} may at pc l h w =
    let r = then_ok _ _ k h in
    numbered {ms = ms} {p = p} may at l r.1 (part_waits ps (others_of ks) may (at + span p) pc r.2 w)

reserved_numbered : (n : ℕ) {P : Point} → 1 ≤ to_come P → Numbered P → Numbered (reserved n P)
unfolding reserved
reserved_numbered zero l h = h
reserved_numbered (suc n) {P} l h = let e = come_reserved n P in numbered_reserve {P = reserved n P} (omega arith) (reserved_numbered n l h)

next : (pc : ℕ) (p : Pattern) (ms : List Matcher) (m b : Matcher) (ts : List Item) {k : ℕ} (may : Bool) (at : ℕ)
    → length ms ≤ 16 → variables p may at (length ms) ≡ ok k → Waits k ts → Numbered (follow_of pc (point ms p m b ts))
unfolding follow_of variables
next pc wildcard ms m b ts may at l h w = go (is_something m)
  where
    go : (s : Bool) → Numbered (elim s as (λ _. Point) [ true ↦ beside ms ts | false ↦ point ms wildcard something b ts ])
    go true = kept ms l h w
    go false = numbered may at l h w
next pc (variable x) ms m b ts may at l h w = go (is_something m)
  where
    go : (s : Bool) → Numbered (elim s as (λ _. Point) [ true ↦ beside (ms ++ (b ∷ [])) ts | false ↦ point ms (variable x) something b ts ])
    go true = bound ms may at x b l h w
    go false = numbered may at l h w
next pc nil ms m b ts may at l h w = kept ms l h w
next pc (constant c) ms m b ts may at l h w = kept ms l h w
next pc (value x c) ms m b ts {k = k} may at l h w = enters ms l (demand_ok (is_left x (length ms)) at (length ms) k h).1 w
next pc (cons p q) ms m b ts {k = k} may at l h w = let r = then_ok _ _ k h in numbered may _ l r.1 (waits may _ r.2 w)
next pc (join p q) ms m b ts {k = k} may at l h w = let r = then_ok _ _ k h in numbered may _ l r.1 (waits may _ r.2 w)
next pc (both p q) ms m b ts {k = k} may at l h w = let r = then_ok _ _ k h in numbered may _ l r.1 (waits may _ r.2 w)
next pc (either p q) ms m b ts {k = k} may at l h w = let r = then_ok _ _ k h in numbered false _ l r.1 (waits_else false _ r.2 w)
next pc (never p) ms m b ts may at l h w = numbered false _ l h (waits_stop w)
next pc (tuple ps) ms m b ts may at l h w =
    let a = come_parted ms ps (members m) pc ts in
    let b = all_some ts in
    reserved_numbered (countᵖ ps - 2) (omega arith) (parted_numbered ms ps (members m) may (at + 2) pc l h w)

pub numbered_at : (m : Matcher) (p : Pattern) (at k : ℕ) → variables p true at 0 ≡ ok k → (pc : ℕ) → Numbered (point_at m p pc)
unfolding point_at follow_of
numbered_at m p at k h zero = numbered {ms = []} {p = p} true at (omega arith) h waits_none
numbered_at m p at k h (suc pc) = go (point_at m p pc) (numbered_at m p at k h pc)
  where
    go : (P : Point) → Numbered P → Numbered (follow_of pc P)
    go (point ms q j b ts) (numbered may i l e w) = next pc q ms j b ts may i l e w
    go (else_place ms q j ts) (numbered_else may i l e w) = numbered may i l e (waits_end w)
    go (end_place ms ts) (numbered_close l w) = enters ms l refl w
    go (cutting ms j ts) (numbered_cut l w) = enters ms l refl w
    go (finish ms) (numbered_end l) = numbered_beyond
    go (reserve Q) (numbered_reserve l n) = n
    go beyond numbered_beyond = numbered_beyond

-- What a variable's number is, and which one tag 3 names.
pub number_is : (x : ℤ) (may : Bool) (at n k : ℕ) → variables (variable x) may at n ≡ ok k → (x ≡ pos n) × (n < 16)
unfolding variables is_next
number_is x may at n k h =
    let r = and_split (same x (pos n)) (ltb n 16) (and_split may (is_next x n) (demand_ok (may && is_next x n) at (suc n) k h).0).1 in
    (same_eq x (pos n) r.0, ltb→lt n 16 r.1)

pub named_is : (x c : ℤ) (may : Bool) (at n k : ℕ) → variables (value x c) may at n ≡ ok k → (j : ℕ) × (x ≡ pos j) × (j < n)
unfolding variables is_left
named_is (pos j) c may at n k h = (j, refl, ltb→lt j n (demand_ok (is_left (pos j) n) at n k h).0)
named_is (negsuc j) c may at n k h = absurd (demand_ok (is_left (negsuc j) n) at n k h).0
