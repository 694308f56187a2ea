-- Review's formula along a program: what a line adds to the count, and what waits after it. Assumes nothing.
use Prim.Native.Nat.{ℕ, zero, suc, ◌+◌, ◌-◌, ◌*◌, ◌≤◌, ◌<◌}
use native.Mathlib.Omega.{arith}
use native.Mathlib.Nat.{mul-one, mul_assoc, mul-add}
use native.Mathlib.Numerals.{add-one}
use native.Mathlib.Decide.{ℕ_discrete}
use mathlib.Core.Path.{◌≡◌, refl, sym, ap, ◌∙◌, subst}
use mathlib.Core.Bool.{Bool, true, false, cond}
use mathlib.Core.List.{List, [], ◌∷◌, ◌++◌}
use borrow.Author.Tests.{ne_eqb}
use lib.Dec.{eqb}
use lib.ListN.{get_or}
use Rattle.rules.specs.Forms.{Matcher, Pattern, Matchers, no_matchers, ◌▸ᵐ◌, countᵐ, Patterns, no_patterns, ◌▸ᵖ◌, countᵖ}
use Rattle.rules.specs.Forms.{list, multiset}
use Rattle.rules.specs.Fit.{element, members, is_something, is_integer}
use Rattle.rules.specs.Review.{leaf_steps, cons_factor, factor, factor_all, summed, summed_all}
use Rattle.program_rules.specs.Points.{list_cons, multiset_cons, joins, as_constant, as_value, as_nil, tested, test_by, over, first_by, whole}
use Rattle.program_rules.specs.Points.{loose_wildcard, loose_variable, Instr, strip, keep, other, close, drop, bind, test, split, apart, choice, deny, cut_at, end}
use Rattle.program_rules.specs.Points.{Item, item, or_else, end_or, stop, Point, point, else_place, end_place, cutting, finish, reserve, beyond, beside, reserved, first_of, others_of, items, parted}
use Rattle.program_rules.specs.Points.{Follows, strips, drops, binds, tests, splits, aparts, keeps, chooses, denies, cuts, elses, closes, reserves, ends, after_end_lem}
use Rattle.program_rules.specs.Program.{follow_of}
use Rattle.review_count.specs.Tally.{step_of, factor_of, next_of, reserved_after, aside, top_product, top_taken, rest_of, turn_of, laid_of, taken_of, last_of, waiting_of}
use Rattle.review_count.specs.declared.count.Laid.{Laid}
use Rattle.review_count.specs.Tally.{Along, along, onward, reserving, sum_from}

-- The count of what is still to do after the product e, the end included; w is what waits, an entry for each item.
unfoldable pub count_later : (most : ℕ) → List Item → (e : ℕ) (w : List Laid) → ℕ
unfolding summed factor top_product top_taken rest_of
count_later most [] e w = e
count_later most (item p m c ∷ ts) e w = summed most (top_taken w) p m e + count_later most ts (e * factor most (top_taken w) p m) (rest_of w)
count_later most (or_else q m ∷ ts) e w =
    summed most (top_taken w) q m (top_product w) + count_later most ts (e + top_product w * factor most (top_taken w) q m) (rest_of w)
count_later most (end_or ∷ ts) e w = count_later most ts (top_product w + e) (rest_of w)
count_later most (stop j ∷ ts) e w = e + count_later most ts (top_product w) (rest_of w)

-- At a marker the entry on top is the one that was taken up last.
unfoldable pub count_at : (most : ℕ) → Point → Along → ℕ
unfolding summed factor count_later reserving
count_at most (point ms p m k ts) s = summed most s.taken p m s.earlier + count_later most ts (s.earlier * factor most s.taken p m) s.waiting
count_at most (else_place ms q m ts) s = count_later most (or_else q m ∷ ts) s.earlier (aside s.last s.taken ∷ s.waiting)
count_at most (end_place ms ts) s = count_later most (end_or ∷ ts) s.earlier (aside s.last s.taken ∷ s.waiting)
count_at most (cutting ms j ts) s = count_later most (stop j ∷ ts) s.earlier (aside s.last s.taken ∷ s.waiting)
count_at most (finish ms) s = s.earlier
count_at most (reserve P) s = count_at most P (reserving s)
count_at most beyond s = s.earlier

-- So many places are reserved before the next one where a state stands.
pub data Reserves : ℕ → Point → Type 0 where
  none_point : {ms : List Matcher} {p : Pattern} {m k : Matcher} {ts : List Item} → Reserves 0 (point ms p m k ts)
  none_else : {ms : List Matcher} {q : Pattern} {m : Matcher} {ts : List Item} → Reserves 0 (else_place ms q m ts)
  none_close : {ms : List Matcher} {ts : List Item} → Reserves 0 (end_place ms ts)
  none_cut : {ms : List Matcher} {j : ℕ} {ts : List Item} → Reserves 0 (cutting ms j ts)
  none_finish : {ms : List Matcher} → Reserves 0 (finish ms)
  none_beyond : Reserves 0 beyond
  one_more : {n : ℕ} {P : Point} → Reserves n P → Reserves (suc n) (reserve P)

-- Nothing is left to do.
pub data Ended : Point → Type 0 where
  at_finish : {ms : List Matcher} → Ended (finish ms)
  at_beyond : Ended beyond

-- The number of an instruction's line.
unfoldable pub number_by : Instr → ℕ
unfolding is_integer
number_by strip = 1
number_by keep = 14
number_by other = 18
number_by close = 19
number_by (drop f t) = 2
number_by (bind n f t) = 3
number_by (test (as_constant c) f t) = 4
number_by (test (as_value m x c) f t) = cond (is_integer m) 5 6
number_by (test (as_nil m) f t) = 7
number_by (split (list_cons m)) = 8
number_by (split (multiset_cons m)) = 9
number_by (split (joins m)) = 10
number_by (apart n) = 11 + n
number_by (choice t) = 15
number_by (deny f t) = 16
number_by (cut_at j) = 17
number_by (end n) = 0

-- Where a line has taken up the entry on top.
count_beside : (most : ℕ) (ms : List Matcher) (ts : List Item) (e : ℕ) (w : List Laid)
    → count_at most (beside ms ts) (along e (top_taken w) (top_product w) (rest_of w)) ≡ count_later most ts e w
unfolding count_at beside count_later top_taken top_product rest_of
count_beside most ms [] e w = refl
count_beside most ms (item p m c ∷ ts) e w = refl
count_beside most ms (or_else q m ∷ ts) e w = refl
count_beside most ms (end_or ∷ ts) e w = refl
count_beside most ms (stop j ∷ ts) e w = refl

none_beside : (ms : List Matcher) (ts : List Item) → Reserves 0 (beside ms ts)
unfolding beside
none_beside ms [] = none_finish
none_beside ms (item p m c ∷ ts) = none_point
none_beside ms (or_else q m ∷ ts) = none_else
none_beside ms (end_or ∷ ts) = none_close
none_beside ms (stop j ∷ ts) = none_cut

-- What waits after so many places that are reserved.
unfoldable pub zeros : ℕ → List Laid → List Laid
zeros zero w = w
zeros (suc n) w = zeros n (aside 0 0 ∷ w)

count_reserved : (most n : ℕ) (P : Point) (e t l : ℕ) (w : List Laid)
    → count_at most (reserved n P) (along e t l w) ≡ count_at most P (along e t l (zeros n w))
unfolding count_at reserved zeros reserving
count_reserved most zero P e t l w = refl
count_reserved most (suc n) P e t l w = count_reserved most n P e t l (aside 0 0 ∷ w)

reserved_so : (n : ℕ) {P : Point} → Reserves 0 P → Reserves n (reserved n P)
unfolding reserved
reserved_so zero h = h
reserved_so (suc n) h = one_more (reserved_so n h)

-- So many entries from which nothing is taken, on top of w.
pub data Anew : ℕ → List Laid → List Laid → Type 0 where
  anew_none : {w : List Laid} → Anew 0 w w
  anew_more : {n x : ℕ} {v w : List Laid} → Anew n v w → Anew (suc n) (aside x 0 ∷ v) w

pub anew_zeros : (n k : ℕ) {v w : List Laid} → Anew k v w → Anew (n + k) (zeros n v) w
unfolding zeros
anew_zeros zero k {v} {w} h = let e : k ≡ 0 + k = omega arith in subst (λ i. Anew i v w) e h
anew_zeros (suc n) k {v} {w} h =
    let e : n + suc k ≡ suc n + k = omega arith in subst (λ i. Anew i (zeros n (aside 0 0 ∷ v)) w) e (anew_zeros n (suc k) (anew_more h))

-- The parts of a tuple, as many as the matchers.
count_parts : (most : ℕ) (ps : Patterns) (ks : Matchers) (c : ℕ) (ts : List Item) (e : ℕ) {v w : List Laid} → countᵖ ps ≡ countᵐ ks → Anew (countᵖ ps) v w
    → count_later most (items ps ks c ts) e v ≡ summed_all most ps ks e + count_later most ts (e * factor_all most ps ks) w
unfolding count_later summed_all factor_all items first_of others_of countᵖ countᵐ top_taken rest_of
count_parts most no_patterns ks c ts e {w = w} h anew_none = ap (λ x. count_later most ts x w) (sym (mul-one e)) ∙ omega arith
count_parts most (p ▸ᵖ ps) no_matchers c ts e h n = absurd (omega arith)
count_parts most (p ▸ᵖ ps) (k ▸ᵐ ks) c ts e {w = w} h (anew_more n) =
    let a = count_parts most ps ks (suc c) ts (e * factor most 0 p k) (omega arith) n in
    let b = ap (λ x. count_later most ts x w) (mul_assoc e (factor most 0 p k) (factor_all most ps ks)) in
    omega arith

-- ---- What the numbers of the lines say.

-- A value, which is a test: a step, and what waits on top is taken up.
pub value_plain : (most : ℕ) (b : Bool) (e t l : ℕ) (w : List Laid)
    → (step_of (cond b 5 6) e ≡ e) × (onward most (cond b 5 6) (along e t l w) ≡ along (e * 1) (top_taken w) (top_product w) (rest_of w)) × (reserved_after (cond b 5 6) ≡ 0)
unfolding step_of onward next_of factor_of turn_of taken_of last_of waiting_of reserved_after
value_plain most true e t l w = (refl, refl, refl)
value_plain most false e t l w = (refl, refl, refl)

few : (n : ℕ) → n ≤ 2 → reserved_after (11 + n) ≡ n
unfolding reserved_after
few zero h = refl
few (suc zero) h = refl
few (suc (suc zero)) h = refl
few (suc (suc (suc n))) h = absurd (omega arith)

pub tuple_plain : (most n e t l : ℕ) (w : List Laid) → n ≤ 2
    → (step_of (11 + n) e ≡ e) × (onward most (11 + n) (along e t l w) ≡ along (e * 1) 0 0 (aside e 0 ∷ w))
unfolding step_of onward next_of factor_of turn_of taken_of last_of waiting_of laid_of
tuple_plain most zero e t l w h = (refl, refl)
tuple_plain most (suc zero) e t l w h = (refl, refl)
tuple_plain most (suc (suc zero)) e t l w h = (refl, refl)
tuple_plain most (suc (suc (suc n))) e t l w h = absurd (omega arith)

-- ---- A line adds its step, and its product stands before what follows.

-- What the line of i makes of the count at P.
abbrev Adds : (most pc : ℕ) → Instr → Point → Along → Type 0
Adds most pc i P s = count_at most P s ≡ step_of (number_by i) s.earlier + count_at most (follow_of pc P) (onward most (number_by i) s)

leaf_adds : (most : ℕ) (ms : List Matcher) (ts : List Item) (e : ℕ) (w : List Laid) (n : ℕ) → n ≡ e
    → n + count_later most ts (e * 1) w ≡ e + count_at most (beside ms ts) (along (e * 1) (top_taken w) (top_product w) (rest_of w))
leaf_adds most ms ts e w n h = let a = count_beside most ms ts (e * 1) w in omega arith

-- The first of two steps.
strip_adds : (most : ℕ) (ts : List Item) (e : ℕ) (w : List Laid) → 2 * e + count_later most ts (e * 1) w ≡ e + (1 * (e * 1) + count_later most ts (e * 1 * 1) w)
strip_adds most ts e w = rw (mul-one (e * 1), mul-one e) (omega arith)

-- A factor f of the tag itself, and then the first part, from which nothing is taken, and the second, from which u are.
two_parts : (most f u : ℕ) (p q : Pattern) (m k : Matcher) (ts : List Item) (c e : ℕ) (w : List Laid)
    → e + summed most 0 p k (e * f) + summed most u q m (e * f * factor most 0 p k) + count_later most ts (e * (f * (factor most 0 p k * factor most u q m))) w
    ≡ e + (summed most 0 p k (e * f) + count_later most (item q m c ∷ ts) (e * f * factor most 0 p k) (aside e u ∷ w))
unfolding count_later top_taken rest_of
two_parts most f u p q m k ts c e w =
    let a = ap (λ x. count_later most ts x w) (sym (mul_assoc e f (factor most 0 p k * factor most u q m)) ∙ sym (mul_assoc (e * f) (factor most 0 p k) (factor most u q m))) in
    omega arith

and_parts : (most t : ℕ) (p q : Pattern) (m : Matcher) (ts : List Item) (c e : ℕ) (w : List Laid)
    → e + summed most t p m e + summed most t q m (e * factor most t p m) + count_later most ts (e * (factor most t p m * factor most t q m)) w
    ≡ e + (summed most t p m (e * 1) + count_later most (item q m c ∷ ts) (e * 1 * factor most t p m) (aside e t ∷ w))
unfolding count_later top_taken rest_of
and_parts most t p q m ts c e w =
    let a = ap (λ x. count_later most ts x w) (sym (mul_assoc e (factor most t p m) (factor most t q m))) in
    rw (mul-one e) (omega arith)

-- After the first side of an or, and after a search inside a not.
or_sides : (most t : ℕ) (p q : Pattern) (m : Matcher) (ts : List Item) (e : ℕ) (w : List Laid)
    → e + summed most t p m e + summed most t q m e + count_later most ts (e * (factor most t p m + factor most t q m)) w
    ≡ e + (summed most t p m (e * 1) + count_later most (or_else q m ∷ ts) (e * 1 * factor most t p m) (aside e t ∷ w))
unfolding count_later top_taken top_product rest_of
or_sides most t p q m ts e w =
    let a = ap (λ x. count_later most ts x w) (mul-add e (factor most t p m) (factor most t q m)) in
    rw (mul-one e) (omega arith)

not_inside : (most t : ℕ) (p : Pattern) (m : Matcher) (ts : List Item) (j e : ℕ) (w : List Laid)
    → e + (summed most t p m e + e * factor most t p m) + count_later most ts (e * 1) w
    ≡ e + (summed most t p m (e * 1) + count_later most (stop j ∷ ts) (e * 1 * factor most t p m) (aside e t ∷ w))
unfolding count_later top_product rest_of
not_inside most t p m ts j e w = rw (mul-one e) (omega arith)

-- Between the sides of an or.
else_side : (most t l : ℕ) (q : Pattern) (m : Matcher) (ts : List Item) (e : ℕ) (w : List Laid)
    → count_later most (or_else q m ∷ ts) e (aside l t ∷ w) ≡ 0 + (summed most t q m l + count_later most (end_or ∷ ts) (l * factor most t q m) (aside e t ∷ w))
unfolding count_later top_taken top_product rest_of
else_side most t l q m ts e w = omega arith

tuple_adds : (most pc : ℕ) (p q : Pattern) (ps : Patterns) (m k : Matcher) (ks : Matchers) (ms : List Matcher) (ts : List Item) (e : ℕ) (w : List Laid) → countᵖ ps ≡ countᵐ ks
    → e + summed_all most (p ▸ᵖ q ▸ᵖ ps) (m ▸ᵐ k ▸ᵐ ks) e + count_later most ts (e * factor_all most (p ▸ᵖ q ▸ᵖ ps) (m ▸ᵐ k ▸ᵐ ks)) w
    ≡ e + count_at most (reserved (countᵖ ps) (point ms p m m (item q k pc ∷ items ps ks (suc pc) ts))) (along (e * 1) 0 0 (aside e 0 ∷ w))
unfolding count_at count_later items first_of others_of countᵖ countᵐ summed_all factor_all
tuple_adds most pc p q ps m k ks ms ts e w h =
    let a = count_reserved most (countᵖ ps) (point ms p m m (item q k pc ∷ items ps ks (suc pc) ts)) e 0 0 (aside e 0 ∷ w) in
    let i : countᵖ ps + 1 ≡ suc (countᵖ ps) = omega arith in
    let n = subst (λ x. Anew x (zeros (countᵖ ps) (aside e 0 ∷ w)) w) i (anew_zeros (countᵖ ps) 1 (anew_more anew_none)) in
    let b = count_parts most (q ▸ᵖ ps) (k ▸ᵐ ks) pc ts (e * factor most 0 p m) (omega arith) n in
    let c = ap (λ x. count_later most ts x w) (mul_assoc e (factor most 0 p m) (factor_all most (q ▸ᵖ ps) (k ▸ᵐ ks))) in
    rw (mul-one e) (omega arith)

module _ (most pc : ℕ) where
  pub costs : {points : ℕ → Point} {i : Instr} {P : Point} (e t l : ℕ) (w : List Laid) → eqb (number_by i) 0 ≡ false → Reserves 0 P → Follows points pc i P
      → Adds most pc i P (along e t l w)
  unfolding count_at follow_of number_by step_of onward next_of factor_of turn_of laid_of taken_of last_of waiting_of top_taken top_product rest_of summed factor leaf_steps cons_factor element members whole over first_by tested test_by is_something parted items first_of others_of countᵖ
  costs e t l w x n (strips {m = m} {ts = ts} loose_wildcard h b) = rw (h, follow_of) (strip_adds most ts e w)
  costs e t l w x n (strips {m = m} {ts = ts} loose_variable h b) = rw (h, follow_of) (strip_adds most ts e w)
  costs e t l w x n (drops {ms = ms} {ts = ts} b h) = leaf_adds most ms ts e w (1 * e) (omega arith)
  costs e t l w x n (binds {ms = ms} {m = m} {ts = ts} b h) = leaf_adds most (ms ++ (m ∷ [])) ts e w (1 * e) (omega arith)
  costs e t l w x n (tests {ms = ms} {ts = ts} {to} (as_constant c) s b h) = leaf_adds most ms ts e w e refl
  costs e t l w x n (tests {ms = ms} {ts = ts} {to} (as_value m v c) s b h) =
      let a = value_plain most (is_integer m) e t l w in
      rw (a.0, a.1) (leaf_adds most ms ts e w e refl)
  costs e t l w x n (tests {ms = ms} {ts = ts} {to} (as_nil m) s b h) = leaf_adds most ms ts e w e refl
  costs e t l w x n (splits {ts = ts} (list_cons m) p q h) = rw (add-one t) (two_parts most 1 (suc t) p q (list m) m ts pc e w)
  costs e t l w x n (splits {ts = ts} (multiset_cons m) p q h) = rw (add-one t) (two_parts most (most - t) (suc t) p q (multiset m) m ts pc e w)
  costs e t l w x n (splits {ts = ts} (joins m) p q h) = rw (add-one most) (two_parts most (suc most) 0 p q (list m) (list m) ts pc e w)
  costs e t l w x n (aparts {ms = ms} {ts = ts} p q ps m k ks h b d) =
      let a = tuple_plain most (countᵖ ps) e t l w b in
      let z : suc (suc (countᵖ ps)) - 2 ≡ countᵖ ps = omega arith in
      rw (a.0, a.1, z) (tuple_adds most pc p q ps m k ks ms ts e w h)
  costs e t l w x n (keeps {m = m} {ts = ts} p q h) = and_parts most t p q m ts pc e w
  costs e t l w x n (chooses {m = m} {ts = ts} p q b h g) = or_sides most t p q m ts e w
  costs e t l w x n (denies {m = m} {ts = ts} p b h g) = not_inside most t p m ts pc e w
  costs e t l w x n (cuts {ms = ms} {ts = ts}) = let a = count_beside most ms ts l w in omega arith
  costs e t l w x n (elses {q = q} {m = m} {ts = ts}) = else_side most t l q m ts e w
  costs e t l w x n (closes {ms = ms} {ts = ts}) = let a = count_beside most ms ts (l + e) w in omega arith
  costs e t l w x n ends = let z : ◌≡◌ {A = ℕ} 0 1 = cc in absurd (omega arith)
  costs e t l w x n after_end_lem = let z : ◌≡◌ {A = ℕ} 0 1 = cc in absurd (omega arith)
  costs e t l w x n reserves = elim n [ ]

  pub reserves_after : {points : ℕ → Point} {i : Instr} {P : Point} → eqb (number_by i) 0 ≡ false → Reserves 0 P → Follows points pc i P
      → Reserves (reserved_after (number_by i)) (follow_of pc P)
  unfolding follow_of number_by reserved_after element members whole over first_by tested test_by is_something parted first_of others_of countᵖ
  reserves_after x n (strips loose_wildcard h l) = rw (h, follow_of) none_point
  reserves_after x n (strips loose_variable h l) = rw (h, follow_of) none_point
  reserves_after x n (drops {ms = ms} {ts = ts} l h) = none_beside ms ts
  reserves_after x n (binds {ms = ms} {m = m} {ts = ts} l h) = none_beside (ms ++ (m ∷ [])) ts
  reserves_after x n (tests {ms = ms} {ts = ts} (as_constant c) s l h) = none_beside ms ts
  reserves_after x n (tests {ms = ms} {ts = ts} (as_value m v c) s l h) = rw (value_plain most (is_integer m) 0 0 0 []).2 (none_beside ms ts)
  reserves_after x n (tests {ms = ms} {ts = ts} (as_nil m) s l h) = none_beside ms ts
  reserves_after x n (splits (list_cons m) p q h) = none_point
  reserves_after x n (splits (multiset_cons m) p q h) = none_point
  reserves_after x n (splits (joins m) p q h) = none_point
  reserves_after x n (aparts p q ps m k ks h l t) = let z : suc (suc (countᵖ ps)) - 2 ≡ countᵖ ps = omega arith in rw (few (countᵖ ps) l, z) (reserved_so (countᵖ ps) none_point)
  reserves_after x n (keeps p q h) = none_point
  reserves_after x n (chooses p q l h g) = none_point
  reserves_after x n (denies p l h g) = none_point
  reserves_after x n (cuts {ms = ms} {ts = ts}) = none_beside ms ts
  reserves_after x n elses = none_point
  reserves_after x n (closes {ms = ms} {ts = ts}) = none_beside ms ts
  reserves_after x n ends = let z : ◌≡◌ {A = ℕ} 0 1 = cc in absurd (omega arith)
  reserves_after x n after_end_lem = let z : ◌≡◌ {A = ℕ} 0 1 = cc in absurd (omega arith)
  reserves_after x n reserves = elim n [ ]

  -- A place that is reserved adds nothing.
  pub passed : {points : ℕ → Point} {i : Instr} {P : Point} {n : ℕ} → Reserves (suc n) P → Follows points pc i P
      → (eqb (number_by i) 0 ≡ false) × Reserves n (follow_of pc P) × ((s : Along) → count_at most P s ≡ count_at most (follow_of pc P) (reserving s))
  unfolding count_at follow_of number_by
  passed (one_more h) reserves = (refl, h, λ s. refl)

  -- Where the line says that it is the end.
  pub ended : {points : ℕ → Point} {i : Instr} {P : Point} → number_by i ≡ 0 → Follows points pc i P → Ended P
  unfolding number_by
  ended x (strips l h t) = absurd (omega arith)
  ended x (drops l h) = absurd (omega arith)
  ended x (binds l h) = absurd (omega arith)
  ended x (tests (as_constant c) s l h) = absurd (omega arith)
  ended x (tests (as_value m v c) s l h) = absurd (some_test (is_integer m) x)
    where
      some_test : (b : Bool) → ◌≡◌ {A = ℕ} (cond b 5 6) 0 → ⊥
      some_test true e = omega arith
      some_test false e = omega arith
  ended x (tests (as_nil m) s l h) = absurd (omega arith)
  ended x (splits (list_cons m) p q h) = absurd (omega arith)
  ended x (splits (multiset_cons m) p q h) = absurd (omega arith)
  ended x (splits (joins m) p q h) = absurd (omega arith)
  ended x (aparts p q ps m k ks h l t) = absurd (omega arith)
  ended x (keeps p q h) = absurd (omega arith)
  ended x (chooses p q l h g) = absurd (omega arith)
  ended x (denies p l h g) = absurd (omega arith)
  ended x cuts = absurd (omega arith)
  ended x elses = absurd (omega arith)
  ended x closes = absurd (omega arith)
  ended x reserves = absurd (omega arith)
  ended x ends = at_finish
  ended x after_end_lem = at_beyond

-- At the end the product of all factors is left.
count_ended : (most : ℕ) {P : Point} (s : Along) → Ended P → count_at most P s ≡ s.earlier
unfolding count_at
count_ended most s at_finish = refl
count_ended most s at_beyond = refl

-- The sum over lines that mean a program, up to its end, is the count of what is to do.
module _ (most : ℕ) (ops : List ℕ) (code : ℕ → Instr) (points : ℕ → Point) (follows : (pc : ℕ) → Follows points pc (code pc) (points pc))
    (after : (pc : ℕ) → points (suc pc) ≡ follow_of pc (points pc)) (N : ℕ) (stops : number_by (code N) ≡ 0)
    (numbers : (pc : ℕ) → pc ≤ N → get_or ops pc 0 ≡ number_by (code pc)) where
  abbrev Sums : ℕ → ℕ → ℕ → Along → Type 0
  Sums left skip pc s = sum_from most ops s skip pc left ≡ count_at most (points pc) s

  before_end : (pc : ℕ) → pc ≤ N → (number_by (code pc) ≡ 0 → ⊥) → pc + 1 ≤ N
  before_end pc h q = other (λ z. q (ap (λ i. number_by (code i)) z ∙ stops))
    where
      other : (pc ≡ N → ⊥) → pc + 1 ≤ N
      other f = omega arith

  next : (pc : ℕ) → points (pc + 1) ≡ follow_of pc (points pc)
  next pc = ap points (add-one pc) ∙ after pc

  one_line : (left pc : ℕ) (s : Along) (o : ℕ) → o ≡ number_by (code pc) → pc ≤ N → Reserves 0 (points pc)
      → (pc + 1 ≤ N → Reserves (reserved_after o) (points (pc + 1)) → Sums left (reserved_after o) (pc + 1) (onward most o s))
      → step_of o s.earlier + cond (eqb o 0) 0 (sum_from most ops (onward most o s) (reserved_after o) (pc + 1) left) ≡ count_at most (points pc) s
  unfolding step_of
  one_line left pc s o x h n again = go (ℕ_discrete o 0)
    where
      go : Dec (o ≡ 0) → step_of o s.earlier + cond (eqb o 0) 0 (sum_from most ops (onward most o s) (reserved_after o) (pc + 1) left) ≡ count_at most (points pc) s
      go (yes q) = let l = count_ended most s (ended most pc (sym x ∙ q) (follows pc)) in rw q (omega arith)
      go (no q) =
          let ne : number_by (code pc) ≡ 0 → ⊥ = λ z. q (x ∙ z) in
          let b : eqb (number_by (code pc)) 0 ≡ false = ne_eqb (number_by (code pc)) 0 ne in
          let r : Reserves (reserved_after o) (points (pc + 1)) = rw (x, next pc) (reserves_after most pc b n (follows pc)) in
          let a = again (before_end pc h ne) r in
          rw (ne_eqb o 0 q, a, next pc, x) (sym (costs most pc s.earlier s.taken s.last s.waiting b n (follows pc)))

  pub sum_is : (left skip pc : ℕ) (s : Along) → pc ≤ N → N < pc + left → Reserves skip (points pc) → Sums left skip pc s
  unfolding sum_from
  sum_is zero skip pc s h k n = absurd (omega arith)
  sum_is (suc left) (suc skip) pc s h k n =
      let p = passed most pc n (follows pc) in
      let r : Reserves skip (points (pc + 1)) = rw (next pc) p.1 in
      let ne : number_by (code pc) ≡ 0 → ⊥ = λ z. let b = p.0 in let y : ◌≡◌ {A = ℕ} 0 1 = cc (ap (λ i. eqb i 0) z) in omega arith in
      sum_is left skip (pc + 1) (reserving s) (before_end pc h ne) (omega arith) r ∙ rw (next pc) (sym (p.2 s))
  sum_is (suc left) zero pc s h k n =
      one_line left pc s (get_or ops pc 0) (numbers pc h) h n
      (λ lt r. sum_is left (reserved_after (get_or ops pc 0)) (pc + 1) (onward most (get_or ops pc 0) s) lt (omega arith) r)
