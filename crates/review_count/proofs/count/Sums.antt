-- Review's sum line by line, as the code asks for it. Assumes nothing.
use Prim.Native.Nat.{ℕ, zero, suc, ◌+◌, ◌-◌, ◌*◌, ◌^◌, ◌≤◌, ◌<◌}
use native.Mathlib.Omega.{arith}
use native.Mathlib.Nat.{mul-le-mul_left}
use mathlib.Core.Path.{◌≡◌, refl, ◌∙◌}
use mathlib.Core.Bool.{cond}
use mathlib.Core.List.{List, ◌∷◌}
use lib.Dec.{eqb}
use lib.ListN.{length, get_or, set, replicate, length-replicate, length-set}
use borrow.Author.Tests.{lt-ltb, le-ltb, eq-eqb, ne_eqb}
use borrow.Author.Rules.{rules}
use mir.Syntax.{w64}
use mir.Val.{Fits}
use Rattle.std.specs.Prelude.{Some, None}
use Rattle.words.specs.Words.{entries}
use Rattle.review_count.specs.Tally.{step_of, next_of, reserved_after, aside, turn_of, laid_of, taken_of, last_of, along, onward, reserving, sum_from, whole_sum, product_from, whole_product, tally, within}
use Rattle.review_count.specs.Pile.{waiting_at, top_in, depth_by}
use Rattle.review_count.specs.declared.count.Turn.{Turn}
use Rattle.review_count.specs.declared.count.Laid.{Laid}
use Rattle.review_count.proofs.count.Pile.{top_is, push, waits_after_lem, depth_le, UpTo, up_more, taken_le, waiting_le, sum_of, step_le, grows}

-- ---- Factors and products.

-- ---- The sum.

-- The sum so far and the sum of the lines left make the whole, and f is the product of all factors; the products and the numbers taken have room.
pub record Here (n f most : ℕ) (op : List ℕ) (waits : List Laid) (depth total earlier last taken skip pc : ℕ) : Type 0 where
  pub sum : n ≡ total + sum_from most op (along earlier taken last (waiting_at waits depth)) skip pc (entries - pc)
  pub product : f ≡ product_from most op (along earlier taken last (waiting_at waits depth)) skip pc (entries - pc)
  pub small : total ≤ 4294967295
  pub room : earlier + (last + sum_of (waiting_at waits depth)) ≤ 279172874240 * (pc + 1)
  pub number : taken ≤ pc
  pub numbers : UpTo pc (waiting_at waits depth)
  pub shallow : depth ≤ pc
  pub inside : pc ≤ entries
  pub long : length waits ≡ entries

pub here_start : (most : ℕ) (op : List ℕ) → Here (whole_sum most op) (whole_product most op) most op (replicate entries (aside 0 0)) 0 0 1 0 0 0 0
unfolding whole_sum whole_product waiting_at sum_of UpTo
here_start most op = record {
  sum = omega arith;
  product = refl;
  small = omega arith;
  room = omega arith;
  number = omega arith;
  numbers = tt;
  shallow = omega arith;
  inside = omega arith;
  long = length-replicate {A = Laid} entries (aside 0 0);
}

module _ (most pc : ℕ) (op : List ℕ) (h : pc < entries) where
  one_less : entries - pc ≡ suc (entries - (pc + 1))
  one_less = omega arith

  line : (e t l : ℕ) (w : List _)
      → sum_from most op (along e t l w) 0 pc (entries - pc)
      ≡ step_of (get_or op pc 0) e + cond (eqb (get_or op pc 0) 0) 0 (sum_from most op (onward most (get_or op pc 0) (along e t l w)) (reserved_after (get_or op pc 0)) (pc + 1) (entries - (pc + 1)))
  unfolding sum_from
  line e t l w = rw one_less

  passing : (e t l k : ℕ) (w : List _) → sum_from most op (along e t l w) (suc k) pc (entries - pc)
      ≡ sum_from most op (along e t l (aside 0 0 ∷ w)) k (pc + 1) (entries - (pc + 1))
  unfolding sum_from reserving
  passing e t l k w = rw one_less

  product_line : (e t l : ℕ) (w : List _)
      → product_from most op (along e t l w) 0 pc (entries - pc)
      ≡ cond (eqb (get_or op pc 0) 0) e (product_from most op (onward most (get_or op pc 0) (along e t l w)) (reserved_after (get_or op pc 0)) (pc + 1) (entries - (pc + 1)))
  unfolding product_from
  product_line e t l w = rw one_less

  product_passing : (e t l k : ℕ) (w : List _) → product_from most op (along e t l w) (suc k) pc (entries - pc)
      ≡ product_from most op (along e t l (aside 0 0 ∷ w)) k (pc + 1) (entries - (pc + 1))
  unfolding product_from reserving
  product_passing e t l k w = rw one_less

module _ {n f most d t e l g k pc : ℕ} {op : List ℕ} {waits : List Laid} (i : Here n f most op waits d t e l g k pc) where
  pub deep_enough : pc < entries → d < entries
  deep_enough h = omega (arith, i.shallow)

  pub deep_scaled : (size : ℕ) → size ≤ 8 → pc < entries → Fits w64 (d * size)
  deep_scaled size s h = let a = i.shallow in let b : d * size ≤ d * 8 = mul-le-mul_left d s in record { fits = omega arith }

  pub deep_more : pc < entries → Fits w64 (d + 1)
  deep_more h = record { fits = omega (arith, i.shallow) }

  pub few_taken : pc < entries → g < entries
  few_taken h = omega (arith, i.number)

  pub sum_fits : (o s : ℕ) → s ≡ step_of o e → Fits w64 (t + s)
  sum_fits o s x = let a = step_le o e in record { fits = omega (arith, i.small, i.room, i.inside) }

  pub product_fits : pc < entries → e + l ≤ 281474976710656
  product_fits h = omega (arith, i.room)

  -- A place that is reserved.
  pub skipped : pc < entries → 0 < k → Here n f most op (set waits d (aside 0 0)) (d + 1) t e l g (k - 1) (pc + 1)
  unfolding sum_of UpTo
  skipped h z =
      let p = push waits d (aside 0 0) (omega (arith, i.shallow, i.long)) in
      record {
        sum = rw p (go k i.sum z);
        product = rw p (pass k i.product z);
        small = i.small;
        room = rw p (omega (arith, i.room));
        number = omega (arith, i.number);
        numbers = rw p (omega arith, up_more pc (waiting_at waits d) i.numbers);
        shallow = omega (arith, i.shallow);
        inside = omega arith;
        long = length-set waits d (aside 0 0) ∙ i.long;
      }
    where
      go : (k : ℕ) → n ≡ t + sum_from most op (along e g l (waiting_at waits d)) k pc (entries - pc) → 0 < k
          → n ≡ t + sum_from most op (along e g l (aside 0 0 ∷ waiting_at waits d)) (k - 1) (pc + 1) (entries - (pc + 1))
      go zero j z = absurd (omega arith)
      go (suc k) j z =
          let s : suc k - 1 ≡ k = omega arith in
          rw s (rw (passing most pc op h e g l k (waiting_at waits d)) at j)

      pass : (k : ℕ) → f ≡ product_from most op (along e g l (waiting_at waits d)) k pc (entries - pc) → 0 < k
          → f ≡ product_from most op (along e g l (aside 0 0 ∷ waiting_at waits d)) (k - 1) (pc + 1) (entries - (pc + 1))
      pass zero j z = absurd (omega arith)
      pass (suc k) j z =
          let s : suc k - 1 ≡ k = omega arith in
          rw s (j ∙ product_passing most pc op h e g l k (waiting_at waits d))

  pub out : entries ≤ pc → Some (tally t e) ≡ within n f
  unfolding within sum_from product_from
  out h =
      let z : entries - pc ≡ 0 = omega arith in
      let l : sum_from most op (along e g l (waiting_at waits d)) k pc (entries - pc) ≡ 0 = rw z in
      let q : f ≡ e = rw z at i.product in
      let g : n ≡ t = omega (arith, i.sum) in
      let m : n < 2 ^ 32 = omega (arith, i.small) in
      rw (lt-ltb n (2 ^ 32) m, g, q)

  module _ (z : k ≤ 0) (h : pc < entries) (o : ℕ) (y : o ≡ get_or op pc 0) (s : ℕ) (x : s ≡ step_of o e) where
    whole : n
        ≡ t + (s + cond (eqb o 0) 0 (sum_from most op (onward most o (along e g l (waiting_at waits d))) (reserved_after o) (pc + 1) (entries - (pc + 1))))
    whole =
        let none : k ≡ 0 = omega arith in
        let j : n ≡ t + sum_from most op (along e g l (waiting_at waits d)) 0 pc (entries - pc) = rw none at i.sum in
        let a = rw (← y) at (line most pc op h e g l (waiting_at waits d)) in
        omega arith

    factors : f ≡ cond (eqb o 0) e (product_from most op (onward most o (along e g l (waiting_at waits d))) (reserved_after o) (pc + 1) (entries - (pc + 1)))
    factors =
        let none : k ≡ 0 = omega arith in
        let j : f ≡ product_from most op (along e g l (waiting_at waits d)) 0 pc (entries - pc) = rw none at i.product in
        j ∙ rw (← y) at (product_line most pc op h e g l (waiting_at waits d))

    pub too_big_lem : 4294967295 < t + s → None ≡ within n f
    unfolding within
    too_big_lem g =
        let m : 2 ^ 32 ≤ n = omega (arith, whole) in
        rw (le-ltb n (2 ^ 32) m)

    pub at_end : o ≡ 0 → t + s ≤ 4294967295 → Some (tally (t + s) e) ≡ within n f
    unfolding within
    at_end q b =
        let w : n ≡ t + (s + 0) = rw (eq-eqb o 0 q) at whole in
        let v : f ≡ e = rw (eq-eqb o 0 q) at factors in
        let g : n ≡ t + s = omega arith in
        let m : n < 2 ^ 32 = omega arith in
        rw (lt-ltb n (2 ^ 32) m, g, v)

    pub turn : most ≤ 64 → (o ≡ 0 → ⊥) → t + s ≤ 4294967295 → (r : Turn) (u e' l' g' d' k' : ℕ) (v : Laid) → r ≡ turn_of o → u ≡ laid_of r g → v ≡ top_in waits d
        → e' ≡ next_of most o e g l → l' ≡ last_of r v.product → g' ≡ taken_of r g v.taken → d' ≡ depth_by r d
        → k' ≡ reserved_after o → Here n f most op (set waits d (aside e u)) d' (t + s) e' l' g' k' (pc + 1)
    unfolding onward
    turn b q small r u e' l' g' d' k' v er eu ev ee el eg ed ek =
        let w = waiting_at waits d in
        let st : waiting_at (set waits d (aside e u)) d' ≡ (onward most o (along e g l w)).waiting =
        rw (ed, waits_after_lem r waits d (aside e u) (omega (arith, i.shallow, i.long)), eu, er) in
        let le : l' ≡ (onward most o (along e g l w)).last = rw (el, ev, er, ← (top_is waits d).0) in
        let ge : g' ≡ (onward most o (along e g l w)).taken = rw (eg, ev, er, ← (top_is waits d).1) in
        let all : n ≡ t + (s + sum_from most op (onward most o (along e g l w)) (reserved_after o) (pc + 1) (entries - (pc + 1))) = rw (ne_eqb o 0 q) at whole in
        let later : f ≡ product_from most op (onward most o (along e g l w)) (reserved_after o) (pc + 1) (entries - (pc + 1)) = rw (ne_eqb o 0 q) at factors in
        let grown = grows most e g l (laid_of (turn_of o) g) w b o (omega arith) in
        record {
          sum = rw (st, le, ge, ee, ek) (omega (arith, all));
          product = rw (st, le, ge, ee, ek) later;
          small = small;
          room = rw (st, le, ee) (omega (arith, grown, i.room));
          number = rw ge (omega (arith, taken_le (turn_of o) pc g w i.number i.numbers));
          numbers = rw st (waiting_le (turn_of o) pc e g w i.number i.numbers);
          shallow = omega (arith, depth_le r d, i.shallow);
          inside = omega arith;
          long = length-set waits d (aside e u) ∙ i.long;
        }

pub ruleset own_rules = (here_start, deep_enough, deep_scaled, deep_more, few_taken, sum_fits, product_fits, skipped, too_big_lem, at_end, turn, out, rules)
