-- The program walked through, place after place: how many places are to come, and where a pattern and the sides of an or come to their end.
use Rattle.std.specs.Prelude.{ℕ, zero, suc, ◌+◌, ◌-◌, ◌≡◌, refl, Bool, true, false, List, [], ◌∷◌, ◌++◌}
use Rattle.std.proofs.Common.{arith, sym, ap, ◌∙◌, append-nil, append_assoc}
use Rattle.rules.specs.Forms.{Matcher, something, integer, list, multiset, tuple_of, Matchers}
use Rattle.rules.specs.Forms.{Pattern, wildcard, nil, variable, constant, value, cons, join, tuple, both, either, never, Patterns, no_patterns, ◌▸ᵖ◌, countᵖ}
use Rattle.rules.specs.Fit.{element, members, is_something}
use Rattle.program_rules.specs.Points.{Item, item, or_else, end_or, stop, Point, point, else_place, end_place, cutting, finish, reserve, beyond, enter, beside, reserved, first_of, others_of, items, parted}
use Rattle.program_rules.specs.Length.{instrs, instrs_parts, instrs_all, skip, to_come, come_beside, come_reserved, come_parted}
use Rattle.program_rules.specs.Program.{point_at, follow_of}

-- ---- How many places are to come.

one_less : (pc : ℕ) (P : Point) → to_come (follow_of pc P) ≡ to_come P - 1
unfolding to_come follow_of instrs instrs_all is_something
one_less pc (finish ms) = refl
one_less pc (reserve P) = omega arith
one_less pc beyond = refl
one_less pc (else_place ms q m ts) = omega arith
one_less pc (end_place ms ts) = come_beside ms ts ∙ omega arith
one_less pc (cutting ms j ts) = come_beside ms ts ∙ omega arith
one_less pc (point ms wildcard m k ts) = go (is_something m)
  where
    go : (b : Bool) → to_come (elim b as (λ _. Point) [ true ↦ beside ms ts | false ↦ point ms wildcard something k ts ])
        ≡ (elim b as (λ _. ℕ) [ true ↦ 1 | false ↦ 2 ] + instrs_all ts) - 1
    go true = come_beside ms ts ∙ omega arith
    go false = omega arith
one_less pc (point ms (variable x) m k ts) = go (is_something m)
  where
    go : (b : Bool) → to_come (elim b as (λ _. Point) [ true ↦ beside (ms ++ (k ∷ [])) ts | false ↦ point ms (variable x) something k ts ])
        ≡ (elim b as (λ _. ℕ) [ true ↦ 1 | false ↦ 2 ] + instrs_all ts) - 1
    go true = come_beside (ms ++ (k ∷ [])) ts ∙ omega arith
    go false = omega arith
one_less pc (point ms nil m k ts) = come_beside ms ts ∙ omega arith
one_less pc (point ms (constant c) m k ts) = come_beside ms ts ∙ omega arith
one_less pc (point ms (value x c) m k ts) = come_beside ms ts ∙ omega arith
one_less pc (point ms (cons p q) m k ts) = omega arith
one_less pc (point ms (join p q) m k ts) = omega arith
one_less pc (point ms (both p q) m k ts) = omega arith
one_less pc (point ms (either p q) m k ts) = omega arith
one_less pc (point ms (never p) m k ts) = omega arith
one_less pc (point ms (tuple ps) m k ts) =
    let a = come_reserved (countᵖ ps - 2) (parted ms ps (members m) pc ts) in
    let b = come_parted ms ps (members m) pc ts in
    omega arith

pub in_range_lem : (m : Matcher) (p : Pattern) (pc : ℕ) → to_come (point_at m p pc) ≡ (instrs p m + 1) - pc
unfolding point_at to_come instrs_all
in_range_lem m p zero = omega arith
in_range_lem m p (suc pc) = one_less pc (point_at m p pc) ∙ (let h = in_range_lem m p pc in omega arith)

-- ---- So many places further.

unfoldable pub walk : (n pc : ℕ) → Point → Point
unfolding follow_of
walk zero pc P = P
walk (suc n) pc P = walk n (suc pc) (follow_of pc P)

pub walk_at : (m : Matcher) (p : Pattern) (n pc : ℕ) → point_at m p (pc + n) ≡ walk n pc (point_at m p pc)
unfolding walk point_at
walk_at m p zero pc = let e : pc + 0 ≡ pc = omega arith in rw e
walk_at m p (suc n) pc = let e : pc + suc n ≡ suc pc + n = omega arith in rw e (walk_at m p n (suc pc))

-- One place further, and then n.
pub first_walk : (n pc : ℕ) (P R : Point) → walk n (suc pc) (follow_of pc P) ≡ R → walk (1 + n) pc P ≡ R
unfolding walk
first_walk n pc P R h = let e : 1 + n ≡ suc n = omega arith in rw e h

pub walk_add : (a b pc : ℕ) (P : Point) → walk (a + b) pc P ≡ walk b (pc + a) (walk a pc P)
unfolding walk
walk_add zero b pc P = let e : 0 + b ≡ b = omega arith in let f : pc + 0 ≡ pc = omega arith in rw (e, f)
walk_add (suc a) b pc P =
    let e : suc a + b ≡ suc (a + b) = omega arith in
    let f : pc + suc a ≡ suc pc + a = omega arith in
    rw (e, f) (walk_add a b (suc pc) (follow_of pc P))

-- Two patterns, one after the other: Q is to do after the first, R after the second.
pub then_walk : (a b pc : ℕ) (P Q R : Point) → walk a pc P ≡ Q → ((at : ℕ) → walk b at Q ≡ R) → walk (a + b) pc P ≡ R
then_walk a b pc P Q R h g = walk_add a b pc P ∙ ap (walk b (pc + a)) h ∙ g (pc + a)

pub walk_reserved : (n b pc : ℕ) (P R : Point) → ((at : ℕ) → walk b at P ≡ R) → walk (n + b) pc (reserved n P) ≡ R
unfolding walk reserved follow_of
walk_reserved zero b pc P R h = let e : 0 + b ≡ b = omega arith in rw e (h pc)
walk_reserved (suc n) b pc P R h = let e : suc n + b ≡ suc (n + b) = omega arith in rw e (walk_reserved n b (suc pc) P R h)

-- ---- A pattern comes to its end after as many places as it has instructions, with the matchers of its variables.

unfoldable mutual
  unfolding element members first_of others_of

  pub binds_of : Pattern → Matcher → List Matcher
  binds_of wildcard m = []
  binds_of (variable x) m = m ∷ []
  binds_of nil m = []
  binds_of (constant c) m = []
  binds_of (value x c) m = []
  binds_of (cons p q) m = binds_of p (element m) ++ binds_of q m
  binds_of (join p q) m = binds_of p m ++ binds_of q m
  binds_of (tuple ps) m = binds_parts ps (members m)
  binds_of (both p q) m = binds_of p m ++ binds_of q m
  binds_of (either p q) m = binds_of p m ++ binds_of q m
  binds_of (never p) m = binds_of p m

  pub binds_parts : Patterns → Matchers → List Matcher
  binds_parts no_patterns ks = []
  binds_parts (p ▸ᵖ ps) ks = binds_of p (first_of ks) ++ binds_parts ps (others_of ks)

loose_walk : (m : Matcher) (ms : List Matcher) (ts : List Item) (pc : ℕ) → walk (instrs wildcard m) pc (point ms wildcard m m ts) ≡ beside (ms ++ []) ts
unfolding walk instrs follow_of is_something
loose_walk something ms ts pc = rw (append-nil ms)
loose_walk integer ms ts pc = rw (append-nil ms)
loose_walk (list m) ms ts pc = rw (append-nil ms)
loose_walk (multiset m) ms ts pc = rw (append-nil ms)
loose_walk (tuple_of m) ms ts pc = rw (append-nil ms)

bind_walk : (x : _) (m : Matcher) (ms : List Matcher) (ts : List Item) (pc : ℕ) → walk (instrs (variable x) m) pc (point ms (variable x) m m ts) ≡ beside (ms ++ (m ∷ [])) ts
unfolding walk instrs follow_of is_something
bind_walk x something ms ts pc = refl
bind_walk x integer ms ts pc = refl
bind_walk x (list m) ms ts pc = refl
bind_walk x (multiset m) ms ts pc = refl
bind_walk x (tuple_of m) ms ts pc = refl

mutual
  unfolding walk instrs follow_of binds_of beside parted items

  pub through : (p : Pattern) (m : Matcher) (ms : List Matcher) (ts : List Item) (pc : ℕ) → walk (instrs p m) pc (point ms p m m ts) ≡ beside (ms ++ binds_of p m) ts
  through wildcard m ms ts pc = loose_walk m ms ts pc
  through (variable x) m ms ts pc = bind_walk x m ms ts pc
  through nil m ms ts pc = rw (append-nil ms)
  through (constant c) m ms ts pc = rw (append-nil ms)
  through (value x c) m ms ts pc = rw (append-nil ms)
  through (cons p q) m ms ts pc = first_walk (instrs p (element m) + instrs q m) pc (point ms (cons p q) m m ts) _
      (then_walk (instrs p (element m)) (instrs q m) (suc pc) _ _ _ (through p (element m) ms (item q m pc ∷ ts) (suc pc)) (λ at. through q m (ms ++ binds_of p (element m)) ts at)
      ∙ ap (λ l. beside l ts) (append_assoc ms (binds_of p (element m)) (binds_of q m)))
  through (join p q) m ms ts pc = first_walk (instrs p m + instrs q m) pc (point ms (join p q) m m ts) _
      (then_walk (instrs p m) (instrs q m) (suc pc) _ _ _ (through p m ms (item q m pc ∷ ts) (suc pc)) (λ at. through q m (ms ++ binds_of p m) ts at)
      ∙ ap (λ l. beside l ts) (append_assoc ms (binds_of p m) (binds_of q m)))
  through (both p q) m ms ts pc = first_walk (instrs p m + instrs q m) pc (point ms (both p q) m m ts) _
      (then_walk (instrs p m) (instrs q m) (suc pc) _ _ _ (through p m ms (item q m pc ∷ ts) (suc pc)) (λ at. through q m (ms ++ binds_of p m) ts at)
      ∙ ap (λ l. beside l ts) (append_assoc ms (binds_of p m) (binds_of q m)))
  through (either p q) m ms ts pc = first_walk (instrs p m + (1 + (instrs q m + 1))) pc (point ms (either p q) m m ts) _
      (then_walk (instrs p m) (1 + (instrs q m + 1)) (suc pc) _ _ _ (through p m ms (or_else q m ∷ ts) (suc pc))
      (λ at. first_walk (instrs q m + 1) at (else_place (ms ++ binds_of p m) q m ts) _
      (then_walk (instrs q m) 1 (suc at) _ _ _ (through q m (ms ++ binds_of p m) (end_or ∷ ts) (suc at)) (λ b. refl)))
      ∙ ap (λ l. beside l ts) (append_assoc ms (binds_of p m) (binds_of q m)))
  through (never p) m ms ts pc = first_walk (instrs p m + 1) pc (point ms (never p) m m ts) _
      (then_walk (instrs p m) 1 (suc pc) _ _ _ (through p m ms (stop pc ∷ ts) (suc pc)) (λ at. refl))
  through (tuple ps) m ms ts pc = first_walk ((countᵖ ps - 2) + instrs_parts ps (members m)) pc (point ms (tuple ps) m m ts) _
      (walk_reserved (countᵖ ps - 2) (instrs_parts ps (members m)) (suc pc) (parted ms ps (members m) pc ts) _ (λ at. through_parted ps (members m) ms ts pc at))

  through_parted : (ps : Patterns) (ks : Matchers) (ms : List Matcher) (ts : List Item) (c pc : ℕ) → walk (instrs_parts ps ks) pc (parted ms ps ks c ts) ≡ beside (ms ++ binds_parts ps ks) ts
  through_parted no_patterns ks ms ts c pc = rw (append-nil ms)
  through_parted (p ▸ᵖ ps) ks ms ts c pc =
      then_walk (instrs p (first_of ks)) (instrs_parts ps (others_of ks)) pc _ _ _ (through p (first_of ks) ms (items ps (others_of ks) c ts) pc)
      (λ at. through_items ps (others_of ks) (ms ++ binds_of p (first_of ks)) ts c at)
      ∙ ap (λ l. beside l ts) (append_assoc ms (binds_of p (first_of ks)) (binds_parts ps (others_of ks)))

  through_items : (ps : Patterns) (ks : Matchers) (ms : List Matcher) (ts : List Item) (c pc : ℕ) → walk (instrs_parts ps ks) pc (beside ms (items ps ks c ts)) ≡ beside (ms ++ binds_parts ps ks) ts
  through_items no_patterns ks ms ts c pc = rw (append-nil ms)
  through_items (p ▸ᵖ ps) ks ms ts c pc =
      then_walk (instrs p (first_of ks)) (instrs_parts ps (others_of ks)) pc _ _ _ (through p (first_of ks) ms (items ps (others_of ks) (suc c) ts) pc)
      (λ at. through_items ps (others_of ks) (ms ++ binds_of p (first_of ks)) ts (suc c) at)
      ∙ ap (λ l. beside l ts) (append_assoc ms (binds_of p (first_of ks)) (binds_parts ps (others_of ks)))

-- ---- The next state stands where what waits is entered: no side of an or binds a variable.

pub data Shut : List Item → Type 0 where
  shut_none : Shut []
  shut_item : {p : Pattern} {m : Matcher} {c : ℕ} {ts : List Item} → Shut ts → Shut (item p m c ∷ ts)
  shut_else : {q : Pattern} {m : Matcher} {ts : List Item} → binds_of q m ≡ [] → Shut ts → Shut (or_else q m ∷ ts)
  shut_end : {ts : List Item} → Shut ts → Shut (end_or ∷ ts)
  shut_stop : {j : ℕ} {ts : List Item} → Shut ts → Shut (stop j ∷ ts)

pub side_through : (p : Pattern) (m : Matcher) (ms : List Matcher) (ts : List Item) (pc : ℕ) → binds_of p m ≡ [] → walk (instrs p m) pc (point ms p m m ts) ≡ beside ms ts
side_through p m ms ts pc e = through p m ms ts pc ∙ rw (e, append-nil ms)

pub lands : {ts : List Item} (ms : List Matcher) (pc : ℕ) → Shut ts → walk (skip ts) pc (beside ms ts) ≡ enter ms ts
unfolding walk skip beside enter follow_of
lands ms pc shut_none = refl
lands ms pc (shut_item h) = refl
lands ms pc (shut_stop h) = refl
lands ms pc (shut_end {ts} h) = first_walk (skip ts) pc (end_place ms ts) _ (lands ms (suc pc) h)
lands ms pc (shut_else {q} {m} {ts} e h) = first_walk (instrs q m + (1 + skip ts)) pc (else_place ms q m ts) _
    (then_walk (instrs q m) (1 + skip ts) (suc pc) _ _ _ (side_through q m ms (end_or ∷ ts) (suc pc) e)
    (λ at. first_walk (skip ts) at (end_place ms ts) _ (lands ms (suc at) h)))
