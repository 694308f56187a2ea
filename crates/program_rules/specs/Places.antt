-- The places that the second pass finds, in their array: as many as lines, none beyond the last, and each reads back as it was put.
use Rattle.std.specs.Prelude.{ℕ, zero, suc, ◌+◌, ◌<◌, ◌≤◌, ◌≡◌, refl, Bool, true, false, cond, List, [], ◌∷◌, eqb, ltb, length, get_or, set, replicate}
use Rattle.std.proofs.Common.{arith, sym, ap, ◌∙◌, ltb-true, ltb-false, length-set, get_or-set_same, get_or-set_other}
use Rattle.std.proofs.lemmas.List.{length-replicate}
use Rattle.std.proofs.Math.ListN.{get_or-eq_default}
use Rattle.tables.specs.declared.line.Line.{Line}
use Rattle.program_rules.specs.Link.{keeps, takes, top, under, to_by, land_by, kept_by, Linked, linked_by, link_from, placed, ops_of, tos_of}

-- ---- As many as lines.

pub ops_length : (ls : List Line) → length (ops_of ls) ≡ length ls
unfolding ops_of
ops_length [] = refl
ops_length (l ∷ ls) = ap suc (ops_length ls)

pub link_length : (pc : ℕ) (os : List ℕ) → length (link_from pc os).tos ≡ length os
unfolding link_from linked_by
link_length pc [] = refl
link_length pc (o ∷ os) = ap suc (link_length (suc pc) os)

pub tos_length : (ls : List Line) → length (tos_of ls) ≡ length ls
unfolding tos_of
tos_length ls = link_length 0 (ops_of ls) ∙ ops_length ls

-- ---- None beyond n.

data Below (n : ℕ) : List ℕ → Type 0 where
  below_none : Below n []
  below : {x : ℕ} {xs : List ℕ} → x ≤ n → Below n xs → Below n (x ∷ xs)

below_top : {n : ℕ} {xs : List ℕ} → Below n xs → top xs ≤ n
unfolding top
below_top below_none = omega arith
below_top (below h b) = h

below_under : {n : ℕ} {xs : List ℕ} → Below n xs → Below n (under xs)
unfolding under
below_under below_none = below_none
below_under (below h b) = b

below_at : {n : ℕ} {xs : List ℕ} → Below n xs → (j : ℕ) → get_or xs j 0 ≤ n
below_at below_none j = omega arith
below_at (below h b) zero = h
below_at (below h b) (suc j) = below_at b j

either_below : {n : ℕ} (b : Bool) {xs ys : List ℕ} → Below n xs → Below n ys → Below n (cond b xs ys)
either_below true h g = h
either_below false h g = g

either_le : {n : ℕ} (b : Bool) (x y : ℕ) → x ≤ n → y ≤ n → cond b x y ≤ n
either_le true x y h g = h
either_le false x y h g = g

record Low (n : ℕ) (r : Linked) : Type 0 where
  land : r.land ≤ n
  kept : Below n r.kept
  tos : Below n r.tos

low_step : (n o pc : ℕ) (r : Linked) → suc pc ≤ n → Low n r → Low n (linked_by o pc r)
unfolding linked_by to_by land_by kept_by
low_step n o pc r h l =
    let t = below_top l.kept in
    let u = either_below (takes o) (below_under l.kept) l.kept in
    record {
      land = either_le (eqb o 18) _ _ t (either_le (eqb o 19) r.land pc l.land (omega arith));
      kept = either_below (keeps o) (below (either_le (eqb o 18) (suc pc) r.land h l.land) u) u;
      tos = below (either_le (takes o) (top r.kept) r.land t l.land) l.tos;
    }

low_from : (n pc : ℕ) (os : List ℕ) → pc + length os ≤ n → Low n (link_from pc os)
unfolding link_from
low_from n pc [] h = record { land = omega arith; kept = below_none; tos = below_none }
low_from n pc (o ∷ os) h = low_step n o pc (link_from (suc pc) os) (omega arith) (low_from n (suc pc) os (omega arith))

pub tos_low : (ls : List Line) (pc : ℕ) → get_or (tos_of ls) pc 0 ≤ length ls
unfolding tos_of
tos_low ls pc = let e = ops_length ls in below_at (low_from (length ls) 0 (ops_of ls) (omega arith)).tos pc

-- ---- In the array.

placed_before : (pc : ℕ) (xs to : List ℕ) (j : ℕ) → j < pc → get_or (placed pc xs to) j 0 ≡ get_or to j 0
unfolding placed
placed_before pc [] to j h = refl
placed_before pc (x ∷ xs) to j h = placed_before (suc pc) xs (set to pc x) j (omega arith) ∙ get_or-set_other to pc j x 0 (λ e. omega arith)

placed_after : (pc : ℕ) (xs to : List ℕ) (j : ℕ) → pc + length xs ≤ j → get_or (placed pc xs to) j 0 ≡ get_or to j 0
unfolding placed
placed_after pc [] to j h = refl
placed_after pc (x ∷ xs) to j h = placed_after (suc pc) xs (set to pc x) j (omega arith) ∙ get_or-set_other to pc j x 0 (λ e. omega arith)

placed_at : (pc : ℕ) (xs to : List ℕ) (j : ℕ) → pc + length xs ≤ length to → j < length xs → get_or (placed pc xs to) (pc + j) 0 ≡ get_or xs j 0
unfolding placed
placed_at pc [] to j h l = absurd (omega arith)
placed_at pc (x ∷ xs) to zero h l =
    let e : pc + 0 ≡ pc = omega arith in
    rw e (placed_before (suc pc) xs (set to pc x) pc (omega arith) ∙ get_or-set_same to pc x 0 (omega arith))
placed_at pc (x ∷ xs) to (suc j) h l =
    let e : pc + suc j ≡ suc pc + j = omega arith in
    let n = length-set to pc x in
    rw e (placed_at (suc pc) xs (set to pc x) j (omega arith) (omega arith))

zeros : (n i : ℕ) → ◌≡◌ {A = ℕ} (get_or (replicate n 0) i 0) 0
zeros zero i = refl
zeros (suc n) zero = refl
zeros (suc n) (suc i) = zeros n i

pub placed_zeros : (n : ℕ) (xs : List ℕ) → length xs ≤ n → (pc : ℕ) → get_or (placed 0 xs (replicate n 0)) pc 0 ≡ get_or xs pc 0
placed_zeros n xs h pc = go (ltb pc (length xs)) refl
  where
    go : (s : Bool) → ltb pc (length xs) ≡ s → get_or (placed 0 xs (replicate n 0)) pc 0 ≡ get_or xs pc 0
    go true l =
        let e : 0 + pc ≡ pc = omega arith in
        let m = length-replicate {A = ℕ} n 0 in
        rw e at (placed_at 0 xs (replicate n 0) pc (omega arith) (ltb-true pc (length xs) l))
    go false l = let g = ltb-false pc (length xs) l in placed_after 0 xs (replicate n 0) pc (omega arith) ∙ zeros n pc ∙ sym (get_or-eq_default xs 0 g)
