-- The second pass: its two loops, from the last line to the first. Assumes nothing.
use Prim.Native.Nat.{ℕ, zero, suc, ◌+◌, ◌-◌, ◌<◌, ◌≤◌}
use native.Mathlib.Numerals.{add-one}
use native.Mathlib.Omega.{arith}
use mathlib.Core.Path.{◌≡◌, refl, sym, ap, ◌∙◌}
use mathlib.Core.Bool.{Bool, true, false, cond}
use mathlib.Core.List.{List, [], ◌∷◌}
use borrow.Author.Rules.{rules}
use borrow.Author.Tests.{ne_eqb}
use lib.Dec.{eqb}
use lib.ListN.{get_or, set}
use lib.Seq.{set_comm}
use Rattle.words.specs.Words.{entries}
use Rattle.tables.specs.Line.{Columns, aimed}
use Rattle.program_rules.specs.Lines.{binding}
use Rattle.program_rules.specs.Link.{keeps, takes, top, to_by, land_by, kept_by, Linked, linked_by, link_from, placed, tos_by, ops_in, bindings_in, linked_in}
use Rattle.program_rules.specs.Pile.{pile, kept_at, to_at, land_at, piled}
use Rattle.program.proofs.link.Pass.{count_other, kept_top, kept_next, Held, held_start, held_less, held_next}

-- ---- What is still to be done.

-- The table when the lines before pc have their places too, `land` being where a state stands that comes to pc, and xs the places kept.
unfoldable pub linked_below : (pc land : ℕ) → (xs : List ℕ) → Columns → Columns
linked_below zero land xs t = t
linked_below (suc pc) land xs t =
    let o = get_or t.op pc 0 in linked_below pc (land_by o pc land xs) (kept_by o pc land xs) (aimed (set t.to pc (to_by o land xs)) t)

below_less : (pc land o : ℕ) (xs : List ℕ) (t : Columns) → 0 < pc → o ≡ get_or t.op (pc - 1) 0
    → linked_below (pc - 1) (land_by o (pc - 1) land xs) (kept_by o (pc - 1) land xs) (aimed (set t.to (pc - 1) (to_by o land xs)) t) ≡ linked_below pc land xs t
unfolding linked_below
below_less zero land o xs t h e = absurd (omega arith)
below_less (suc pc) land o xs t h e = let z : suc pc - 1 ≡ pc = omega arith in rw (e, z)

set_placed : (pc x : ℕ) (xs to : List ℕ) (q : ℕ) → pc < q → set (placed q xs to) pc x ≡ placed q xs (set to pc x)
unfolding placed
set_placed pc x [] to q h = refl
set_placed pc x (y ∷ xs) to q h = set_placed pc x xs (set to q y) (suc q) (omega arith) ∙ ap (placed (suc q) xs) (set_comm to q pc y x (λ e. omega arith))

-- Where r is of the lines from pc on, and these have their places.
unfoldable below : (t : Columns) (pc : ℕ) → (r : Linked) → Columns
below t pc r = linked_below pc r.land r.kept (aimed (placed pc r.tos t.to) t)

below_line : (t : Columns) (pc : ℕ) (r : Linked) → below t (suc pc) r ≡ below t pc (linked_by (get_or t.op pc 0) pc r)
unfolding below linked_below linked_by placed aimed
below_line t pc r = rw (set_placed pc (to_by (get_or t.op pc 0) r.land r.kept) r.tos t.to (suc pc) (omega arith))

below_all : (t : Columns) (pc m n : ℕ) → pc + m ≡ n → below t pc (link_from pc (ops_in t.op pc m)) ≡ linked_in n t
unfolding below linked_below link_from ops_in linked_in tos_by
below_all t zero m n e = let z : m ≡ n = omega arith in rw z
below_all t (suc pc) m n e = below_line t pc (link_from (suc pc) (ops_in t.op (suc pc) m)) ∙ below_all t pc (suc m) n (omega arith)

below_linked : (n : ℕ) (t : Columns) → linked_below n n [] t ≡ linked_in n t
unfolding below link_from ops_in placed aimed
below_linked n t = below_all t n 0 n (omega arith)

-- ---- The variables.

bindings_last : (op : List ℕ) (i n j : ℕ) → i + n ≡ j → bindings_in (ops_in op i (suc n)) ≡ bindings_in (ops_in op i n) + binding (get_or op j 0)
unfolding bindings_in ops_in
bindings_last op i zero j e = let z : i ≡ j = omega arith in rw z (omega arith)
bindings_last op i (suc n) j e = rw (bindings_last op (suc i) n j (omega arith)) (omega arith)

bindings_less : (op : List ℕ) (pc o : ℕ) → 0 < pc → o ≡ get_or op (pc - 1) 0 → bindings_in (ops_in op 0 pc) ≡ bindings_in (ops_in op 0 (pc - 1)) + binding o
bindings_less op zero o h e = absurd (omega arith)
bindings_less op (suc pc) o h e = let z : suc pc - 1 ≡ pc = omega arith in rw (e, z) (bindings_last op 0 pc pc (omega arith))

binding_le : (o : ℕ) → binding o ≤ 1
unfolding binding
binding_le o = go (eqb o 3)
  where
    go : (b : Bool) → cond b 1 0 ≤ 1
    go true = omega arith
    go false = omega arith

-- ---- Both loops, at the place pc.

-- So far there are n variables, and the table is t; with the lines before pc, N and T. The places kept are xs.
pub record Passing (N : ℕ) (T t : Columns) (xs : List ℕ) (n pc land : ℕ) : Type 0 where
  pub lines : linked_below pc land xs t ≡ T
  pub count : n + bindings_in (ops_in t.op 0 pc) ≡ N
  pub some : n + pc ≤ entries

passing_start : (n pc : ℕ) (t : Columns) → n + pc ≤ entries → Passing (n + bindings_in (ops_in t.op 0 pc)) (linked_in pc t) t [] n pc pc
passing_start n pc t h = record { lines = below_linked pc t; count = refl; some = h }

keeps_plain : (o : ℕ) → o < 15 → keeps o ≡ false
unfolding keeps
keeps_plain o h = rw (ne_eqb o 17 (λ e. omega arith), ne_eqb o 18 (λ e. omega arith), ne_eqb o 19 (λ e. omega arith))

takes_plain : (o : ℕ) → o < 15 → takes o ≡ false
unfolding takes
takes_plain o h = rw (ne_eqb o 15 (λ e. omega arith), ne_eqb o 16 (λ e. omega arith), ne_eqb o 18 (λ e. omega arith))

module _ (N : ℕ) (T t : Columns) (xs : List ℕ) (n pc land : ℕ) (P : Passing N T t xs n pc land) where
  module _ (h : pc ≤ 0) where
    pub passing_vars : n ≡ N
    unfolding ops_in bindings_in
    passing_vars = let z : pc ≡ 0 = omega arith in let a = rw z at P.count in omega arith

    pub passing_lines : t ≡ T
    unfolding linked_below
    passing_lines = let z : pc ≡ 0 = omega arith in rw z at P.lines

  module _ (h : 0 < pc) (o n' : ℕ) (e : o ≡ get_or t.op (pc - 1) 0) (z : n' ≡ n + binding o) where
    passing_next : (land' : ℕ) (xs' : List ℕ) (u : Columns) → land' ≡ land_by o (pc - 1) land xs → xs' ≡ kept_by o (pc - 1) land xs
        → u ≡ aimed (set t.to (pc - 1) (to_by o land xs)) t → Passing N T u xs' n' (pc - 1) land'
    unfolding aimed
    passing_next land' xs' u v w g =
        let a = P.some in
        let b = P.count in
        let c = binding_le o in
        let d = bindings_less t.op pc o h e in
        record { lines = rw (v, w, g) (below_less pc land o xs t h e ∙ P.lines); count = rw g (omega arith); some = omega arith }

    -- A line below 15 keeps no place and takes none.
    pub passing_plain : (u : Columns) → o < 15 → u ≡ aimed (set t.to (pc - 1) land) t → Passing N T u xs n' (pc - 1) (pc - 1)
    unfolding land_by kept_by to_by
    passing_plain u l g =
        let a = keeps_plain o l in
        let b = takes_plain o l in
        passing_next (pc - 1) xs u (rw (ne_eqb o 18 (λ q. omega arith), ne_eqb o 19 (λ q. omega arith))) (rw (a, b)) (rw b g)

pub ruleset passing_rules = (passing_vars, passing_lines, passing_plain, rules)

-- ---- The loop that keeps no place; what is left when it hands over.

pub passing_first : (last : ℕ) (t : Columns) → last < entries → Passing (bindings_in (ops_in t.op 0 (suc last))) (linked_in (suc last) t) t [] 0 (last + 1) (last + 1)
passing_first last t h =
    let z : 0 + bindings_in (ops_in t.op 0 (suc last)) ≡ bindings_in (ops_in t.op 0 (suc last)) = omega arith in
    rw (add-one last, ← z) (passing_start 0 (suc last) t (omega arith))

module _ (N : ℕ) (T t : Columns) (n pc : ℕ) (P : Passing N T t [] n pc pc) where
  pub handed_vars : (r : ℕ) → r ≡ n + bindings_in (ops_in t.op 0 pc) → r ≡ N
  handed_vars r e = e ∙ P.count

  pub handed_lines : (u : Columns) → u ≡ linked_in pc t → u ≡ T
  handed_lines u e = e ∙ sym (below_linked pc t) ∙ P.lines

pub ruleset linking_rules = (passing_first, handed_vars, handed_lines, passing_rules)

-- ---- The loop with the pile.

pub passing_pile : (n pc : ℕ) (t : Columns) (k : List ℕ) → n + pc ≤ entries → Passing (n + bindings_in (ops_in t.op 0 pc)) (linked_in pc t) t (kept_at k 0) n pc pc
unfolding kept_at
passing_pile n pc t k h = passing_start n pc t h

pub passing_sides : (N : ℕ) (T t : Columns) (k : List ℕ) (depth n pc land : ℕ) → Passing N T t (kept_at k depth) n pc land → Held k depth pc → 0 < pc
    → (o x y d land' : ℕ) (k' : List ℕ) (u : Columns) → o ≡ get_or t.op (pc - 1) 0 → 15 ≤ o → x ≡ get_or k depth 0 → y ≡ to_at o land x
    → u ≡ aimed (set t.to (pc - 1) y) t → pile k' d ≡ piled o (pc - 1) land (pile k depth) → land' ≡ land_at o (pc - 1) land x
    → Passing N T u (kept_at k' d) n (pc - 1) land'
unfolding land_by land_at to_by to_at
passing_sides N T t k depth n pc land P H h o x y d land' k' u e l f r g w v =
    let i : top (kept_at k depth) ≡ x = kept_top k depth H.bottom ∙ sym f in
    passing_next N T t (kept_at k depth) n pc land P h o n e (count_other n o (λ q. omega arith)) land' (kept_at k' d) u (v ∙ rw i)
    (kept_next k depth pc H h o land d k' w) (g ∙ rw (r, i))

pub ruleset keeping_rules = (passing_pile, passing_sides, held_start, held_less, held_next, passing_rules)
