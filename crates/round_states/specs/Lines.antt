-- Of every place of a program: the lines at which values wait have slots of their own, and no more variables are known than there are.
use Prim.Native.Nat.{ℕ, zero, suc, ◌+◌, ◌-◌, ◌≤◌, ◌<◌}
use native.Mathlib.Omega.{arith}
use Rattle.std.specs.Prelude.{◌≡◌, Bool, length, ℤ, pos, negsuc}
use Rattle.std.proofs.Math.Path.{refl}
use Rattle.std.proofs.Common.{sym, ap, ◌∙◌, subst, length-append}
use Rattle.std.proofs.Math.Bool.{true, false}
use mathlib.Core.List.{List, [], ◌∷◌, ◌++◌}
use Rattle.rules.specs.Forms.{Matcher, something, integer, list, multiset, tuple_of, Matchers}
use Rattle.rules.specs.Forms.{Pattern, wildcard, nil, variable, constant, value, cons, join, tuple, both, either, never, Patterns, no_patterns, ◌▸ᵖ◌, countᵖ}
use Rattle.rules.specs.Fit.{element, members, is_something}
use Rattle.program_rules.specs.Points.{list_cons, multiset_cons, joins, Kind, Instr, strip, keep, other, close, drop, bind, test, split, apart, choice, deny, cut_at, end, Item, item, or_else, end_or, stop, Point, point, else_place, end_place, cutting, finish, reserve, beyond, beside, known, reserved, first_of, others_of, items, parted, Follows, strips, drops, binds, tests, splits, aparts, keeps, chooses, denies, cuts, elses, closes, reserves, ends, after_end_lem}
use Rattle.program_rules.specs.Length.{instrs, instrs_all, to_come, all_some}
use Rattle.program_rules.specs.Walk.{in_range_lem}
use Rattle.program_rules.specs.Program.{instr_of, follow_of, point_at, program}
use Rattle.program_rules.specs.Meaning.{Means, means_end}
use Rattle.tables.specs.declared.line.Line.{Line}
use Rattle.round_states.specs.Kept.{Owned, OwnedAt}

-- ---- Slots.

-- An end stands at no place where a pattern is to do.
unfoldable Apart : Instr → Point → Type 0
Apart strip P = Unit {0}
Apart keep P = Unit {0}
Apart other P = Unit {0}
Apart close P = Unit {0}
Apart (drop n to) P = Unit {0}
Apart (bind i n to) P = Unit {0}
Apart (test t n to) P = Unit {0}
Apart (split k) P = Unit {0}
Apart (apart n) P = Unit {0}
Apart (choice to) P = Unit {0}
Apart (deny n to) P = Unit {0}
Apart (cut_at j) P = Unit {0}
Apart (end n) (point ms p m k ts) = ⊥
Apart (end n) (else_place ms q m ts) = Unit {0}
Apart (end n) (end_place ms ts) = Unit {0}
Apart (end n) (cutting ms j ts) = Unit {0}
Apart (end n) (finish ms) = Unit {0}
Apart (end n) (reserve P) = Unit {0}
Apart (end n) beyond = Unit {0}

follows_apart : {points : ℕ → Point} {pc : ℕ} {i : Instr} {P : Point} → Follows points pc i P → Apart i P
unfolding Apart
follows_apart (strips h n pt) = tt
follows_apart (drops r pt) = tt
follows_apart (binds r pt) = tt
follows_apart (tests t h r pt) = tt
follows_apart (splits k p q pt) = tt
follows_apart (aparts p q ps m k ks n t pt) = tt
follows_apart (keeps p q pt) = tt
follows_apart (chooses p q r pt pt₂) = tt
follows_apart (denies p r pt pt₂) = tt
follows_apart cuts = tt
follows_apart elses = tt
follows_apart closes = tt
follows_apart reserves = tt
follows_apart ends = tt
follows_apart after_end_lem = tt

module _ (Q : ℕ → Type 0) where
  beside_owned : (ms : List Matcher) (ts : List Item) → Owned Q ts → OwnedAt Q (beside ms ts)
  unfolding Owned OwnedAt beside
  beside_owned ms [] h = tt
  beside_owned ms (item p m c ∷ ts) h = h.1
  beside_owned ms (or_else q m ∷ ts) h = h
  beside_owned ms (end_or ∷ ts) h = h
  beside_owned ms (stop j ∷ ts) h = h.1

  items_owned : (ps : Patterns) (ks : Matchers) (c : ℕ) (ts : List Item) → ((i : ℕ) → i < countᵖ ps → Q (c + i)) → Owned Q ts → Owned Q (items ps ks c ts)
  unfolding Owned items countᵖ
  items_owned no_patterns ks c ts f h = h
  items_owned (p ▸ᵖ ps) ks c ts f h =
      let e : c + 0 ≡ c = omega arith in
      (rw e at (f 0 (omega arith)), items_owned ps (others_of ks) (suc c) ts (λ i l. let g : c + suc i ≡ suc c + i = omega arith in rw g at (f (suc i) (omega arith))) h)

  reserved_owned : (n : ℕ) (P : Point) → OwnedAt Q P → OwnedAt Q (reserved n P)
  unfolding OwnedAt reserved
  reserved_owned zero P h = h
  reserved_owned (suc n) P h = reserved_owned n P h

  parted_owned : (ms : List Matcher) (ps : Patterns) (ks : Matchers) (pc : ℕ) (ts : List Item) → ((i : ℕ) → i ≤ countᵖ ps - 2 → Q (pc + i)) → Owned Q ts
      → OwnedAt Q (parted ms ps ks pc ts)
  unfolding OwnedAt parted countᵖ
  parted_owned ms no_patterns ks pc ts f h = beside_owned ms ts h
  parted_owned ms (p ▸ᵖ ps) ks pc ts f h = items_owned ps (others_of ks) pc ts (λ i l. f i (omega arith)) h

  module _ (points : ℕ → Point) where
    -- Where a program follows a pattern, a cons and a join divide.
    cons_divides : (pc : ℕ) (ms : List Matcher) (p q : Pattern) (m k : Matcher) (ts : List Item) → Follows points pc (instr_of pc (point ms (cons p q) m k ts)) (point ms (cons p q) m k ts)
        → ((i : Kind) → instr_of pc (point ms (cons p q) m k ts) ≡ split i → Q pc) → Q pc
    unfolding instr_of Apart
    cons_divides pc ms p q something k ts f s = absurd (follows_apart f)
    cons_divides pc ms p q integer k ts f s = absurd (follows_apart f)
    cons_divides pc ms p q (tuple_of ks) k ts f s = absurd (follows_apart f)
    cons_divides pc ms p q (list m) k ts f s = s (list_cons m) refl
    cons_divides pc ms p q (multiset m) k ts f s = s (multiset_cons m) refl

    join_divides : (pc : ℕ) (ms : List Matcher) (p q : Pattern) (m k : Matcher) (ts : List Item) → Follows points pc (instr_of pc (point ms (join p q) m k ts)) (point ms (join p q) m k ts)
        → ((i : Kind) → instr_of pc (point ms (join p q) m k ts) ≡ split i → Q pc) → Q pc
    unfolding instr_of Apart
    join_divides pc ms p q something k ts f s = absurd (follows_apart f)
    join_divides pc ms p q integer k ts f s = absurd (follows_apart f)
    join_divides pc ms p q (multiset m) k ts f s = absurd (follows_apart f)
    join_divides pc ms p q (tuple_of ks) k ts f s = absurd (follows_apart f)
    join_divides pc ms p q (list m) k ts f s = s (joins m) refl

    next_owned : (pc : ℕ) (P : Point) → Follows points pc (instr_of pc P) P → OwnedAt Q P → ((k : Kind) → instr_of pc P ≡ split k → Q pc)
        → (instr_of pc P ≡ keep → Q pc) → ((n to : ℕ) → instr_of pc P ≡ deny n to → Q pc) → ((n i : ℕ) → instr_of pc P ≡ apart n → i ≤ n → Q (pc + i)) → OwnedAt Q (follow_of pc P)
    unfolding OwnedAt Owned follow_of instr_of
    next_owned pc (finish ms) f h a b c d = tt
    next_owned pc (reserve P) f h a b c d = h
    next_owned pc beyond f h a b c d = tt
    next_owned pc (else_place ms q m ts) f h a b c d = h
    next_owned pc (end_place ms ts) f h a b c d = beside_owned ms ts h
    next_owned pc (cutting ms j ts) f h a b c d = beside_owned ms ts h
    next_owned pc (point ms wildcard m k ts) f h a b c d = go (is_something m)
      where
        go : (b : Bool) → OwnedAt Q (elim b as (λ _. Point) [ true ↦ beside ms ts | false ↦ point ms wildcard something k ts ])
        go true = beside_owned ms ts h
        go false = h
    next_owned pc (point ms (variable x) m k ts) f h a b c d = go (is_something m)
      where
        go : (b : Bool) → OwnedAt Q (elim b as (λ _. Point) [ true ↦ beside (ms ++ (k ∷ [])) ts | false ↦ point ms (variable x) something k ts ])
        go true = beside_owned (ms ++ (k ∷ [])) ts h
        go false = h
    next_owned pc (point ms nil m k ts) f h a b c d = beside_owned ms ts h
    next_owned pc (point ms (constant x) m k ts) f h a b c d = beside_owned ms ts h
    next_owned pc (point ms (value (pos x) y) m k ts) f h a b c d = beside_owned ms ts h
    next_owned pc (point ms (value (negsuc x) y) m k ts) f h a b c d = beside_owned ms ts h
    next_owned pc (point ms (cons p q) m k ts) f h a b c d = (cons_divides pc ms p q m k ts f a, h)
    next_owned pc (point ms (join p q) m k ts) f h a b c d = (join_divides pc ms p q m k ts f a, h)
    next_owned pc (point ms (tuple ps) m k ts) f h a b c d = reserved_owned (countᵖ ps - 2) (parted ms ps (members m) pc ts) (parted_owned ms ps (members m) pc ts (λ i l. d (countᵖ ps - 2) i refl l) h)
    next_owned pc (point ms (both p q) m k ts) f h a b c d = (b refl, h)
    next_owned pc (point ms (either p q) m k ts) f h a b c d = h
    next_owned pc (point ms (never p) m k ts) f h a b c d = (c _ _ refl, h)

-- The lines of a program that divide have slots of their own.
pub record Owning (Q : ℕ → Type 0) (m : Matcher) (p : Pattern) : Type 0 where
  pub splits : (pc : ℕ) (k : Kind) → program m p pc ≡ split k → Q pc
  pub keeps : (pc : ℕ) → program m p pc ≡ keep → Q pc
  pub denies : (pc n to : ℕ) → program m p pc ≡ deny n to → Q pc
  pub parts : (pc n i : ℕ) → program m p pc ≡ apart n → i ≤ n → Q (pc + i)
  pub sides : (pc to : ℕ) → program m p pc ≡ choice to → Q pc

pub all_owned : (Q : ℕ → Type 0) (m : Matcher) (p : Pattern) → ((pc : ℕ) → Follows (point_at m p) pc (program m p pc) (point_at m p pc)) → Owning Q m p
    → (pc : ℕ) → OwnedAt Q (point_at m p pc)
unfolding point_at program OwnedAt Owned
all_owned Q m p f o zero = tt
all_owned Q m p f o (suc pc) =
    next_owned Q (point_at m p) pc (point_at m p pc) (f pc) (all_owned Q m p f o pc) (o.splits pc) (o.keeps pc) (o.denies pc) (o.parts pc)

-- ---- Variables.

one_some : (p : Pattern) (m : Matcher) → 1 ≤ instrs p m
unfolding instrs
one_some wildcard m = go (is_something m)
  where
    go : (b : Bool) → 1 ≤ elim b as (λ _. ℕ) [ true ↦ 1 | false ↦ 2 ]
    go true = omega arith
    go false = omega arith
one_some (variable x) m = go (is_something m)
  where
    go : (b : Bool) → 1 ≤ elim b as (λ _. ℕ) [ true ↦ 1 | false ↦ 2 ]
    go true = omega arith
    go false = omega arith
one_some nil m = omega arith
one_some (constant c) m = omega arith
one_some (value x c) m = omega arith
one_some (cons p q) m = omega arith
one_some (join p q) m = omega arith
one_some (tuple ps) m = omega arith
one_some (both p q) m = omega arith
one_some (either p q) m = omega arith
one_some (never p) m = omega arith

none_known : (P : Point) → to_come P ≡ 0 → known P ≡ []
unfolding to_come known
none_known (point ms p m k ts) h = let a = one_some p m in absurd (omega arith)
none_known (else_place ms q m ts) h = absurd (omega arith)
none_known (end_place ms ts) h = absurd (omega arith)
none_known (cutting ms j ts) h = absurd (omega arith)
none_known (finish ms) h = absurd (omega arith)
none_known (reserve P) h = absurd (omega arith)
none_known beyond h = refl

-- At the last place the variables are those of the end.
last_known : (vars pc : ℕ) (P : Point) → to_come P ≡ 1 → (ms : List ℤ) (l : Line) (to : ℕ) → Means ms vars l to (instr_of pc P) → length (known P) ≤ vars
unfolding to_come known instr_of
last_known vars pc (point ks p m k ts) h ms l to e = let a = one_some p m in let b = all_some ts in absurd (omega arith)
last_known vars pc (else_place ks q m ts) h ms l to e = absurd (omega arith)
last_known vars pc (end_place ks ts) h ms l to e = let b = all_some ts in absurd (omega arith)
last_known vars pc (cutting ks j ts) h ms l to e = let b = all_some ts in absurd (omega arith)
last_known vars pc (finish ks) h ms l to e = go (length ks) e
  where
    go : (n : ℕ) → Means ms vars l to (end n) → n ≤ vars
    go n (means_end x) = omega arith
last_known vars pc (reserve P) h ms l to e = rw (none_known P (omega arith)) (omega arith)
last_known vars pc beyond h ms l to e = absurd (omega arith)

beside_known : (ms : List Matcher) (ts : List Item) → known (beside ms ts) ≡ ms
unfolding known beside
beside_known ms [] = refl
beside_known ms (item p m c ∷ ts) = refl
beside_known ms (or_else q m ∷ ts) = refl
beside_known ms (end_or ∷ ts) = refl
beside_known ms (stop j ∷ ts) = refl

reserved_known : (n : ℕ) (P : Point) → known (reserved n P) ≡ known P
unfolding known reserved
reserved_known zero P = refl
reserved_known (suc n) P = reserved_known n P

parted_known : (ms : List Matcher) (ps : Patterns) (ks : Matchers) (pc : ℕ) (ts : List Item) → known (parted ms ps ks pc ts) ≡ ms
unfolding known parted
parted_known ms no_patterns ks pc ts = beside_known ms ts
parted_known ms (p ▸ᵖ ps) ks pc ts = refl

next_known : (pc : ℕ) (P : Point) → 2 ≤ to_come P → length (known P) ≤ length (known (follow_of pc P))
unfolding known follow_of to_come
next_known pc (finish ms) h = absurd (omega arith)
next_known pc (reserve P) h = omega arith
next_known pc beyond h = absurd (omega arith)
next_known pc (else_place ms q m ts) h = omega arith
next_known pc (end_place ms ts) h = rw (beside_known ms ts) (omega arith)
next_known pc (cutting ms j ts) h = rw (beside_known ms ts) (omega arith)
next_known pc (point ms wildcard m k ts) h = go (is_something m)
  where
    go : (b : Bool) → length ms ≤ length (known (elim b as (λ _. Point) [ true ↦ beside ms ts | false ↦ point ms wildcard something k ts ]))
    go true = rw (beside_known ms ts) (omega arith)
    go false = omega arith
next_known pc (point ms (variable x) m k ts) h = go (is_something m)
  where
    go : (b : Bool) → length ms ≤ length (known (elim b as (λ _. Point) [ true ↦ beside (ms ++ (k ∷ [])) ts | false ↦ point ms (variable x) something k ts ]))
    go true = rw (beside_known (ms ++ (k ∷ [])) ts) (omega (arith, length-append ms (k ∷ [])))
    go false = omega arith
next_known pc (point ms nil m k ts) h = rw (beside_known ms ts) (omega arith)
next_known pc (point ms (constant x) m k ts) h = rw (beside_known ms ts) (omega arith)
next_known pc (point ms (value x y) m k ts) h = rw (beside_known ms ts) (omega arith)
next_known pc (point ms (cons p q) m k ts) h = omega arith
next_known pc (point ms (join p q) m k ts) h = omega arith
next_known pc (point ms (tuple ps) m k ts) h = rw (reserved_known (countᵖ ps - 2) (parted ms ps (members m) pc ts), parted_known ms ps (members m) pc ts) (omega arith)
next_known pc (point ms (both p q) m k ts) h = omega arith
next_known pc (point ms (either p q) m k ts) h = omega arith
next_known pc (point ms (never p) m k ts) h = omega arith

module _ (m : Matcher) (p : Pattern) (ms : List ℤ) (vars : ℕ) (l : ℕ → Line) (to : ℕ → ℕ) (means : (pc : ℕ) → pc ≤ instrs p m → Means ms vars (l pc) (to pc) (program m p pc)) where
  few_from : (k pc : ℕ) → to_come (point_at m p pc) ≡ k → length (known (point_at m p pc)) ≤ vars
  unfolding point_at program
  few_from zero pc h = rw (none_known (point_at m p pc) h) (omega arith)
  few_from (suc zero) pc h = last_known vars pc (point_at m p pc) h ms (l pc) (to pc) (means pc (let r = in_range_lem m p pc in omega arith))
  few_from (suc (suc k)) pc h =
      let r = in_range_lem m p pc in
      let s = in_range_lem m p (suc pc) in
      let a = few_from (suc k) (suc pc) (omega arith) in
      let b = next_known pc (point_at m p pc) (omega arith) in
      omega arith

  pub all_few : (pc : ℕ) → length (known (point_at m p pc)) ≤ vars
  all_few pc = few_from (to_come (point_at m p pc)) pc refl

-- After the last place there is nothing but ends.
nothing_more : (P : Point) → to_come P ≡ 0 → P ≡ beyond
unfolding to_come
nothing_more (point ms p m k ts) h = let a = one_some p m in absurd (omega arith)
nothing_more (else_place ms q m ts) h = absurd (omega arith)
nothing_more (end_place ms ts) h = absurd (omega arith)
nothing_more (cutting ms j ts) h = absurd (omega arith)
nothing_more (finish ms) h = absurd (omega arith)
nothing_more (reserve P) h = absurd (omega arith)
nothing_more beyond h = refl

pub nothing_after : (m : Matcher) (p : Pattern) (pc : ℕ) → instrs p m < pc → program m p pc ≡ end 0
unfolding program instr_of
nothing_after m p pc h = ap (instr_of pc) (nothing_more (point_at m p pc) (let r = in_range_lem m p pc in omega arith))
