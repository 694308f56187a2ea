-- The product of all factors along a program: what a line makes of it, and what is left at the end. Assumes nothing.
use Prim.Native.Nat.{ℕ, zero, suc, ◌+◌, ◌-◌, ◌*◌, ◌≤◌, ◌<◌}
use native.Mathlib.Omega.{arith}
use native.Mathlib.Nat.{mul-one, mul_assoc, mul-add}
use native.Mathlib.Numerals.{add-one}
use native.Mathlib.Decide.{ℕ_discrete}
use mathlib.Core.Path.{◌≡◌, refl, sym, ap, ◌∙◌, subst}
use mathlib.Core.Bool.{false, cond}
use mathlib.Core.List.{List, [], ◌∷◌, ◌++◌}
use borrow.Author.Tests.{ne_eqb}
use lib.Dec.{eqb}
use lib.ListN.{get_or}
use Rattle.rules.specs.Forms.{Matcher, Pattern, Matchers, no_matchers, ◌▸ᵐ◌, countᵐ, Patterns, no_patterns, ◌▸ᵖ◌, countᵖ}
use Rattle.rules.specs.Forms.{list, multiset}
use Rattle.rules.specs.Fit.{element, members, is_something, is_integer}
use Rattle.rules.specs.Review.{cons_factor, factor, factor_all}
use Rattle.program_rules.specs.Points.{list_cons, multiset_cons, joins, as_constant, as_value, as_nil, tested, test_by, over, first_by, whole}
use Rattle.program_rules.specs.Points.{loose_wildcard, loose_variable, Instr}
use Rattle.program_rules.specs.Points.{Item, item, or_else, end_or, stop, Point, point, else_place, end_place, cutting, finish, reserve, beyond, beside, reserved, first_of, others_of, items, parted}
use Rattle.program_rules.specs.Points.{Follows, strips, drops, binds, tests, splits, aparts, keeps, chooses, denies, cuts, elses, closes, reserves, ends, after_end_lem}
use Rattle.program_rules.specs.Program.{follow_of}
use Rattle.review_count.specs.Tally.{factor_of, next_of, reserved_after, aside, top_product, top_taken, rest_of, turn_of, laid_of, taken_of, last_of, waiting_of}
use Rattle.review_count.specs.declared.count.Laid.{Laid}
use Rattle.review_count.specs.Tally.{Along, along, onward, reserving, product_from}
use Rattle.review_count.proofs.count.Costs.{number_by, Reserves, one_more, zeros, Anew, anew_none, anew_more, anew_zeros, value_plain, tuple_plain, reserves_after, passed, Ended, at_finish, at_beyond, ended}

-- The product of what is still to do after the product e; w is what waits, an entry for each item.
unfoldable pub product_later : (most : ℕ) → List Item → (e : ℕ) (w : List Laid) → ℕ
unfolding factor top_product top_taken rest_of
product_later most [] e w = e
product_later most (item p m c ∷ ts) e w = product_later most ts (e * factor most (top_taken w) p m) (rest_of w)
product_later most (or_else q m ∷ ts) e w = product_later most ts (e + top_product w * factor most (top_taken w) q m) (rest_of w)
product_later most (end_or ∷ ts) e w = product_later most ts (top_product w + e) (rest_of w)
product_later most (stop j ∷ ts) e w = product_later most ts (top_product w) (rest_of w)

-- At a marker the entry on top is the one that was taken up last.
unfoldable pub product_at : (most : ℕ) → Point → Along → ℕ
unfolding factor product_later reserving
product_at most (point ms p m k ts) s = product_later most ts (s.earlier * factor most s.taken p m) s.waiting
product_at most (else_place ms q m ts) s = product_later most (or_else q m ∷ ts) s.earlier (aside s.last s.taken ∷ s.waiting)
product_at most (end_place ms ts) s = product_later most (end_or ∷ ts) s.earlier (aside s.last s.taken ∷ s.waiting)
product_at most (cutting ms j ts) s = product_later most (stop j ∷ ts) s.earlier (aside s.last s.taken ∷ s.waiting)
product_at most (finish ms) s = s.earlier
product_at most (reserve P) s = product_at most P (reserving s)
product_at most beyond s = s.earlier

-- Where a line has taken up the entry on top.
product_beside : (most : ℕ) (ms : List Matcher) (ts : List Item) (e : ℕ) (w : List Laid)
    → product_at most (beside ms ts) (along e (top_taken w) (top_product w) (rest_of w)) ≡ product_later most ts e w
unfolding product_at beside product_later top_taken top_product rest_of
product_beside most ms [] e w = refl
product_beside most ms (item p m c ∷ ts) e w = refl
product_beside most ms (or_else q m ∷ ts) e w = refl
product_beside most ms (end_or ∷ ts) e w = refl
product_beside most ms (stop j ∷ ts) e w = refl

product_reserved : (most n : ℕ) (P : Point) (e t l : ℕ) (w : List Laid)
    → product_at most (reserved n P) (along e t l w) ≡ product_at most P (along e t l (zeros n w))
unfolding product_at reserved zeros reserving
product_reserved most zero P e t l w = refl
product_reserved most (suc n) P e t l w = product_reserved most n P e t l (aside 0 0 ∷ w)

-- The parts of a tuple, as many as the matchers.
product_parts : (most : ℕ) (ps : Patterns) (ks : Matchers) (c : ℕ) (ts : List Item) (e : ℕ) {v w : List Laid} → countᵖ ps ≡ countᵐ ks → Anew (countᵖ ps) v w
    → product_later most (items ps ks c ts) e v ≡ product_later most ts (e * factor_all most ps ks) w
unfolding product_later factor_all items first_of others_of countᵖ countᵐ top_taken rest_of
product_parts most no_patterns ks c ts e {w = w} h anew_none = ap (λ x. product_later most ts x w) (sym (mul-one e))
product_parts most (p ▸ᵖ ps) no_matchers c ts e h n = absurd (omega arith)
product_parts most (p ▸ᵖ ps) (k ▸ᵐ ks) c ts e {w = w} h (anew_more n) =
    product_parts most ps ks (suc c) ts (e * factor most 0 p k) (omega arith) n
    ∙ ap (λ x. product_later most ts x w) (mul_assoc e (factor most 0 p k) (factor_all most ps ks))

-- ---- A line leaves the product of all factors as it is.

-- What the line of i makes of the product at P.
abbrev Keeps : (most pc : ℕ) → Instr → Point → Along → Type 0
Keeps most pc i P s = product_at most P s ≡ product_at most (follow_of pc P) (onward most (number_by i) s)

leaf_keeps : (most : ℕ) (ms : List Matcher) (ts : List Item) (e : ℕ) (w : List Laid)
    → product_later most ts (e * 1) w ≡ product_at most (beside ms ts) (along (e * 1) (top_taken w) (top_product w) (rest_of w))
leaf_keeps most ms ts e w = sym (product_beside most ms ts (e * 1) w)

strip_keeps : (most : ℕ) (ts : List Item) (e : ℕ) (w : List Laid) → product_later most ts (e * 1) w ≡ product_later most ts (e * 1 * 1) w
strip_keeps most ts e w = ap (λ x. product_later most ts x w) (sym (mul-one (e * 1)))

-- A factor f of the tag itself, and then the first part, from which nothing is taken, and the second, from which u are.
two_parts : (most f u : ℕ) (p q : Pattern) (m k : Matcher) (ts : List Item) (c e : ℕ) (w : List Laid)
    → product_later most ts (e * (f * (factor most 0 p k * factor most u q m))) w ≡ product_later most (item q m c ∷ ts) (e * f * factor most 0 p k) (aside e u ∷ w)
unfolding product_later top_taken rest_of
two_parts most f u p q m k ts c e w =
    ap (λ x. product_later most ts x w) (sym (mul_assoc e f (factor most 0 p k * factor most u q m)) ∙ sym (mul_assoc (e * f) (factor most 0 p k) (factor most u q m)))

and_parts : (most t : ℕ) (p q : Pattern) (m : Matcher) (ts : List Item) (c e : ℕ) (w : List Laid)
    → product_later most ts (e * (factor most t p m * factor most t q m)) w ≡ product_later most (item q m c ∷ ts) (e * 1 * factor most t p m) (aside e t ∷ w)
unfolding product_later top_taken rest_of
and_parts most t p q m ts c e w = rw (mul-one e) (ap (λ x. product_later most ts x w) (sym (mul_assoc e (factor most t p m) (factor most t q m))))

or_sides : (most t : ℕ) (p q : Pattern) (m : Matcher) (ts : List Item) (e : ℕ) (w : List Laid)
    → product_later most ts (e * (factor most t p m + factor most t q m)) w ≡ product_later most (or_else q m ∷ ts) (e * 1 * factor most t p m) (aside e t ∷ w)
unfolding product_later top_taken top_product rest_of
or_sides most t p q m ts e w = rw (mul-one e) (ap (λ x. product_later most ts x w) (mul-add e (factor most t p m) (factor most t q m)))

not_inside : (most t : ℕ) (p : Pattern) (m : Matcher) (ts : List Item) (j e : ℕ) (w : List Laid)
    → product_later most ts (e * 1) w ≡ product_later most (stop j ∷ ts) (e * 1 * factor most t p m) (aside e t ∷ w)
unfolding product_later top_product rest_of
not_inside most t p m ts j e w = ap (λ x. product_later most ts x w) (mul-one e)

else_side : (most t l : ℕ) (q : Pattern) (m : Matcher) (ts : List Item) (e : ℕ) (w : List Laid)
    → product_later most (or_else q m ∷ ts) e (aside l t ∷ w) ≡ product_later most (end_or ∷ ts) (l * factor most t q m) (aside e t ∷ w)
unfolding product_later top_taken top_product rest_of
else_side most t l q m ts e w = refl

tuple_keeps : (most pc : ℕ) (p q : Pattern) (ps : Patterns) (m k : Matcher) (ks : Matchers) (ms : List Matcher) (ts : List Item) (e : ℕ) (w : List Laid) → countᵖ ps ≡ countᵐ ks
    → product_later most ts (e * factor_all most (p ▸ᵖ q ▸ᵖ ps) (m ▸ᵐ k ▸ᵐ ks)) w
    ≡ product_at most (reserved (countᵖ ps) (point ms p m m (item q k pc ∷ items ps ks (suc pc) ts))) (along (e * 1) 0 0 (aside e 0 ∷ w))
unfolding product_at product_later items first_of others_of countᵖ countᵐ factor_all
tuple_keeps most pc p q ps m k ks ms ts e w h =
    let a = product_reserved most (countᵖ ps) (point ms p m m (item q k pc ∷ items ps ks (suc pc) ts)) e 0 0 (aside e 0 ∷ w) in
    let i : countᵖ ps + 1 ≡ suc (countᵖ ps) = omega arith in
    let n = subst (λ x. Anew x (zeros (countᵖ ps) (aside e 0 ∷ w)) w) i (anew_zeros (countᵖ ps) 1 (anew_more anew_none)) in
    let b = product_parts most (q ▸ᵖ ps) (k ▸ᵐ ks) pc ts (e * factor most 0 p m) (omega arith) n in
    let c = ap (λ x. product_later most ts x w) (mul_assoc e (factor most 0 p m) (factor_all most (q ▸ᵖ ps) (k ▸ᵐ ks))) in
    rw (mul-one e) (sym c ∙ sym b ∙ sym a)

module _ (most pc : ℕ) where
  pub keeps_product : {points : ℕ → Point} {i : Instr} {P : Point} (e t l : ℕ) (w : List Laid) → eqb (number_by i) 0 ≡ false → Reserves 0 P → Follows points pc i P
      → Keeps most pc i P (along e t l w)
  unfolding product_at follow_of number_by onward next_of factor_of turn_of laid_of taken_of last_of waiting_of top_taken top_product rest_of factor cons_factor element members whole over first_by tested test_by is_something parted items first_of others_of countᵖ
  keeps_product e t l w x n (strips {m = m} {ts = ts} loose_wildcard h b) = rw (h, follow_of) (strip_keeps most ts e w)
  keeps_product e t l w x n (strips {m = m} {ts = ts} loose_variable h b) = rw (h, follow_of) (strip_keeps most ts e w)
  keeps_product e t l w x n (drops {ms = ms} {ts = ts} b h) = leaf_keeps most ms ts e w
  keeps_product e t l w x n (binds {ms = ms} {m = m} {ts = ts} b h) = leaf_keeps most (ms ++ (m ∷ [])) ts e w
  keeps_product e t l w x n (tests {ms = ms} {ts = ts} {to} (as_constant c) s b h) = leaf_keeps most ms ts e w
  keeps_product e t l w x n (tests {ms = ms} {ts = ts} {to} (as_value m v c) s b h) =
      let a = value_plain most (is_integer m) e t l w in
      rw a.1 (leaf_keeps most ms ts e w)
  keeps_product e t l w x n (tests {ms = ms} {ts = ts} {to} (as_nil m) s b h) = leaf_keeps most ms ts e w
  keeps_product e t l w x n (splits {ts = ts} (list_cons m) p q h) = rw (add-one t) (two_parts most 1 (suc t) p q (list m) m ts pc e w)
  keeps_product e t l w x n (splits {ts = ts} (multiset_cons m) p q h) = rw (add-one t) (two_parts most (most - t) (suc t) p q (multiset m) m ts pc e w)
  keeps_product e t l w x n (splits {ts = ts} (joins m) p q h) = rw (add-one most) (two_parts most (suc most) 0 p q (list m) (list m) ts pc e w)
  keeps_product e t l w x n (aparts {ms = ms} {ts = ts} p q ps m k ks h b d) =
      let a = tuple_plain most (countᵖ ps) e t l w b in
      let z : suc (suc (countᵖ ps)) - 2 ≡ countᵖ ps = omega arith in
      rw (a.1, z) (tuple_keeps most pc p q ps m k ks ms ts e w h)
  keeps_product e t l w x n (keeps {m = m} {ts = ts} p q h) = and_parts most t p q m ts pc e w
  keeps_product e t l w x n (chooses {m = m} {ts = ts} p q b h g) = or_sides most t p q m ts e w
  keeps_product e t l w x n (denies {m = m} {ts = ts} p b h g) = not_inside most t p m ts pc e w
  keeps_product e t l w x n (cuts {ms = ms} {ts = ts}) = sym (product_beside most ms ts l w)
  keeps_product e t l w x n (elses {q = q} {m = m} {ts = ts}) = else_side most t l q m ts e w
  keeps_product e t l w x n (closes {ms = ms} {ts = ts}) = sym (product_beside most ms ts (l + e) w)
  keeps_product e t l w x n ends = let z : ◌≡◌ {A = ℕ} 0 1 = cc in absurd (omega arith)
  keeps_product e t l w x n after_end_lem = let z : ◌≡◌ {A = ℕ} 0 1 = cc in absurd (omega arith)
  keeps_product e t l w x n reserves = elim n [ ]

  -- A place that is reserved changes nothing.
  pub passed_product : {points : ℕ → Point} {i : Instr} {P : Point} {n : ℕ} → Reserves (suc n) P → Follows points pc i P
      → (s : Along) → product_at most P s ≡ product_at most (follow_of pc P) (reserving s)
  unfolding product_at follow_of number_by
  passed_product (one_more h) reserves s = refl

product_ended : (most : ℕ) {P : Point} (s : Along) → Ended P → product_at most P s ≡ s.earlier
unfolding product_at
product_ended most s at_finish = refl
product_ended most s at_beyond = refl

-- The product over lines that mean a program, up to its end, is that of what is to do.
module _ (most : ℕ) (ops : List ℕ) (code : ℕ → Instr) (points : ℕ → Point) (follows : (pc : ℕ) → Follows points pc (code pc) (points pc))
    (after : (pc : ℕ) → points (suc pc) ≡ follow_of pc (points pc)) (N : ℕ) (stops : number_by (code N) ≡ 0)
    (numbers : (pc : ℕ) → pc ≤ N → get_or ops pc 0 ≡ number_by (code pc)) where
  abbrev Multiplies : ℕ → ℕ → ℕ → Along → Type 0
  Multiplies left skip pc s = product_from most ops s skip pc left ≡ product_at most (points pc) s

  before_end : (pc : ℕ) → pc ≤ N → (number_by (code pc) ≡ 0 → ⊥) → pc + 1 ≤ N
  before_end pc h q = other (λ z. q (ap (λ i. number_by (code i)) z ∙ stops))
    where
      other : (pc ≡ N → ⊥) → pc + 1 ≤ N
      other f = omega arith

  next : (pc : ℕ) → points (pc + 1) ≡ follow_of pc (points pc)
  next pc = ap points (add-one pc) ∙ after pc

  one_line : (left pc : ℕ) (s : Along) (o : ℕ) → o ≡ number_by (code pc) → pc ≤ N → Reserves 0 (points pc)
      → (pc + 1 ≤ N → Reserves (reserved_after o) (points (pc + 1)) → Multiplies left (reserved_after o) (pc + 1) (onward most o s))
      → cond (eqb o 0) s.earlier (product_from most ops (onward most o s) (reserved_after o) (pc + 1) left) ≡ product_at most (points pc) s
  one_line left pc s o x h n again = go (ℕ_discrete o 0)
    where
      go : Dec (o ≡ 0) → cond (eqb o 0) s.earlier (product_from most ops (onward most o s) (reserved_after o) (pc + 1) left) ≡ product_at most (points pc) s
      go (yes q) = rw q (sym (product_ended most s (ended most pc (sym x ∙ q) (follows pc))))
      go (no q) =
          let ne : number_by (code pc) ≡ 0 → ⊥ = λ z. q (x ∙ z) in
          let b : eqb (number_by (code pc)) 0 ≡ false = ne_eqb (number_by (code pc)) 0 ne in
          let r : Reserves (reserved_after o) (points (pc + 1)) = rw (x, next pc) (reserves_after most pc b n (follows pc)) in
          let a = again (before_end pc h ne) r in
          rw (ne_eqb o 0 q, a, next pc, x) (sym (keeps_product most pc s.earlier s.taken s.last s.waiting b n (follows pc)))

  pub product_is : (left skip pc : ℕ) (s : Along) → pc ≤ N → N < pc + left → Reserves skip (points pc) → Multiplies left skip pc s
  unfolding product_from
  product_is zero skip pc s h k n = absurd (omega arith)
  product_is (suc left) (suc skip) pc s h k n =
      let p = passed most pc n (follows pc) in
      let r : Reserves skip (points (pc + 1)) = rw (next pc) p.1 in
      let ne : number_by (code pc) ≡ 0 → ⊥ = λ z. let b = p.0 in let y : ◌≡◌ {A = ℕ} 0 1 = cc (ap (λ i. eqb i 0) z) in omega arith in
      product_is left skip (pc + 1) (reserving s) (before_end pc h ne) (omega arith) r ∙ rw (next pc) (sym (passed_product most pc n (follows pc) s))
  product_is (suc left) zero pc s h k n =
      one_line left pc s (get_or ops pc 0) (numbers pc h) h n
      (λ lt r. product_is left (reserved_after (get_or ops pc 0)) (pc + 1) (onward most (get_or ops pc 0) s) lt (omega arith) r)
