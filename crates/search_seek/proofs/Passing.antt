-- The laws that the pairs passed over ask for. Assumes nothing.
use mathlib.Core.Path.{◌≡◌, refl, sym, ap, ◌∙◌}
use mathlib.Core.Bool.{Bool, true, false, not}
use mathlib.Core.List.{List}
use Prim.Native.Nat.{ℕ, ◌+◌, ◌-◌, ◌^◌, ◌<◌, ◌≤◌}
use native.Mathlib.Omega.{arith}
use borrow.Author.Rules.{rules}
use Rattle.std.specs.Prelude.{Some, None}
use borrow.Author.Tests.{ne_eqb, eqb-true}
use lib.ListN.{length, get_or, length-set}
use lib.Seq.{set-get_or}
use lib.Count.{count_trailing_zeros}
use lib.IntN.{ℤ}
use mir.Syntax.{w64}
use mir.Val.{Fits}
use Rattle.words.specs.Marks.{clear}
use Rattle.words.proofs.marks.Places.{clear_le}
use Rattle.value_places.specs.Places.{Target, Tag, count_at, hops, element_at}
use Rattle.value_places.specs.Held.{Held}
use Rattle.value_places.proofs.Forest.{hop_none}
use Rattle.value_places.proofs.Elements.{second, element_tag}
use Rattle.value_places.proofs.Held.{held_tag, held_clear, next_in, next_less, next_tag}
use Rattle.value_equality.specs.Equality.{is_sum}
use Rattle.tables.specs.declared.slot.Frame.{Frame}
use Rattle.tables.specs.Slot.{Tables, frame_in, held_in, put_held, put_left, view_of, Slotted}
use Rattle.search_atom.specs.Leaves.{when, is_wide, stored, part_marks, part_held, parts_in}
use Rattle.search_seek.specs.Passed.{later}
use Rattle.search_seek.specs.Pairs.{is_part, second_cost, cost_of, lowest_in, PassedPairs, stays, over, waiting, OverPairs}
use Rattle.search_seek.specs.declared.pairs.Sum.{Sum}
use Rattle.search_seek.specs.declared.pairs.Wanted.{Wanted}

-- ---- The steps of a pair.

pub not_true : (b : Bool) → not b ≡ true → b ≡ false
not_true true h = sym h
not_true false h = refl

pub not_false : (b : Bool) → not b ≡ false → b ≡ true
not_false true h = refl
not_false false h = sym h

module _ (s : List ℤ) (e : ℕ) where
  pub wide_part : (b : Bool) (k : ℕ) → b ≡ is_wide s e 1 → b ≡ true → k < 2 → k < count_at s e
  unfolding is_wide
  wide_part b k i t h = let n : count_at s e ≡ 2 = eqb-true _ _ (sym i ∙ t) in omega (arith, n, h)

  pub part_word : (k a : ℕ) → Target s → Tag s e → k < count_at s e → a ≡ element_at s e k → a + 1 < length s
  part_word k a g t h i = second s a g (rw i (element_tag s e k g t h))

  -- The first part stands after the tag and the count.
  pub first_stands : e + 2 ≡ element_at s e 0
  unfolding element_at
  first_stands = hop_none s 0 (e + 2) (omega arith)

  pub first_fits : Target s → Tag s e → Fits w64 (e + 2)
  first_fits g t = record { fits = omega (arith, g.short, t.inside) }

  module _ (w : Wanted) (b : Bool) (i : b ≡ is_wide s e 1) where
    pub cost_none : b ≡ false → 0 ≡ cost_of s w e
    unfolding cost_of when
    cost_none n = rw (← i, n)

    module _ (y : b ≡ true) (a : ℕ) (j : a ≡ element_at s e 0) (z : ℤ) (v : z ≡ w.first.plus) (f : Bool) (p : f ≡ is_sum s w.first.at z a) where
      first_is : is_part s w.first e 0 ≡ f
      unfolding is_part
      first_is = rw (← j, ← v) (sym p)

      pub cost_first : f ≡ false → 2 ≡ cost_of s w e
      unfolding cost_of when
      cost_first n = rw (← i, y, first_is, n)

      module _ (m : f ≡ true) where
        pub cost_one : w.second ≡ None → 0 ≡ cost_of s w e
        unfolding cost_of second_cost when
        cost_one n = rw (← i, y, first_is, m, n)

        module _ (r : Sum) (o : w.second ≡ Some r) (c : ℕ) (k : c ≡ element_at s e 1) (x : ℤ) (u : x ≡ r.plus) (d : Bool) (q : d ≡ is_sum s r.at x c) where
          second_is : is_part s r e 1 ≡ d
          unfolding is_part
          second_is = rw (← k, ← u) (sym q)

          pub cost_fits : d ≡ true → 0 ≡ cost_of s w e
          unfolding cost_of second_cost when
          cost_fits n = rw (← i, y, first_is, m, o, second_is, n)

          pub cost_second : d ≡ false → 3 ≡ cost_of s w e
          unfolding cost_of second_cost when
          cost_second n = rw (← i, y, first_is, m, o, second_is, n)

pub ruleset cost_rules = (not_true, not_false, wide_part, first_fits, cost_none, rules)

-- Only a pair fails.
pub cost_pair : (s : List ℤ) (w : Wanted) (e : ℕ) → 0 < cost_of s w e → is_wide s e 1 ≡ true
unfolding cost_of when
cost_pair s w e = go (is_wide s e 1)
  where
    go : (b : Bool) → 0 < when b (when (is_part s w.first e 0) (second_cost s w.second e) 2) 0 → b ≡ true
    go true h = refl
    go false h = absurd (omega (arith, h))

-- ---- The pairs passed over.

-- An element stands after its collection's tag.
pub element_some : (s : List ℤ) (at k : ℕ) → 0 < element_at s at k
unfolding element_at hops
element_some s at k = omega arith

module _ (s : List ℤ) (at : ℕ) (w : Wanted) (first begun : ℕ) where
  pub pairs_over : (left steps last more k e n : ℕ) → PassedPairs s at w first begun left steps last → more ≡ clear (count_trailing_zeros 64 left) left → 0 < more
      → k ≡ count_trailing_zeros 64 left → e ≡ element_at s at k → n ≡ cost_of s w e → (n ≡ 0 → ⊥) → PassedPairs s at w first begun more (steps + n) e
  unfolding later lowest_in
  pairs_over left steps last more k e n p m h i j q z =
      let l : e ≡ lowest_in s at left = j ∙ ap (element_at s at) i in
      rw (m, q, l) (over left steps last p (rw m at h) (rw (q, l) at (some n z)))
    where
      some : (n : ℕ) → (n ≡ 0 → ⊥) → 0 < n
      some n z = omega (arith, z)

  pub pairs_none : (left steps last : ℕ) → PassedPairs s at w first begun left steps last → last ≡ 0 → (left ≡ first) × (steps ≡ begun)
  unfolding lowest_in
  pairs_none left steps last stays z = (refl, refl)
  pairs_none left steps last (over l n m p h c) z = absurd (omega (arith, z, element_some s at (count_trailing_zeros 64 l)))

  -- What is left is some of what there was, and not nothing.
  pub pairs_some : (left steps last : ℕ) → PassedPairs s at w first begun left steps last → 0 < first → 0 < left
  pairs_some left steps last stays h = h
  pairs_some left steps last (over l n m p k c) h = k

  pub pairs_le : (left steps last : ℕ) → PassedPairs s at w first begun left steps last → left ≤ first
  unfolding later
  pairs_le left steps last stays = omega arith
  pairs_le left steps last (over l n m p k c) = let h = pairs_le l n m p in let d = clear_le (count_trailing_zeros 64 l) l in omega arith

  -- The last choice passed over is a pair.
  module _ (g : Target s) (h : Held s at first) (f : 0 < first) where
    pub pairs_tag : (left steps last : ℕ) → PassedPairs s at w first begun left steps last → (last ≡ 0 → ⊥) → Tag s last
    unfolding lowest_in
    pairs_tag left steps last stays z = absurd (z refl)
    pairs_tag left steps last (over l n m p k c) z =
        let d = pairs_le l n m p in
        next_tag s at l (count_trailing_zeros 64 l) g (record { tag = h.tag; marks = omega (arith, d, h.marks) }) refl (pairs_some l n m p f) (element_at s at (count_trailing_zeros 64 l)) refl

    pub pairs_count : (left steps last : ℕ) → PassedPairs s at w first begun left steps last → (last ≡ 0 → ⊥) → 1 < count_at s last
    pairs_count left steps last stays z = absurd (z refl)
    pairs_count left steps last (over l n m p k c) z = wide_part s (lowest_in s at l) true 1 (sym (cost_pair s w (lowest_in s at l) c)) refl (omega arith)

pub cost_within : (n steps budget : ℕ) → n ≤ budget - steps → steps ≤ budget → steps + n ≤ budget
cost_within n steps budget h k = omega arith

pub cost_word : (n steps budget : ℕ) → n ≤ budget - steps → steps ≤ budget → budget < 2 ^ 64 → Fits w64 (steps + n)
cost_word n steps budget h k l = record { fits = omega arith }

pub ruleset pair_rules = (pairs_over, cost_within, cost_word, held_tag, held_clear, next_in, next_less, next_tag, rules)

-- ---- The frame before line `top`, and what waits at that line.

pub kept_slotted : (arg slots slots' : List ℕ) (s : List ℤ) (last top j : ℕ) → Slotted arg slots j → view_of arg slots' ≡ parts_in s last top 1 (view_of arg slots) → Slotted arg slots' j
unfolding parts_in stored
kept_slotted arg slots slots' s last top j h p = record { place = h.place; slot = h.slot; long = ap (λ (t : Tables). length t.backs) p ∙ length-set (view_of arg slots).backs top (part_marks s last 1) ∙ h.long }

module _ (s : List ℤ) (w : Wanted) (budget top begun : ℕ) (t : Tables) (f : Frame) (i : f ≡ frame_in t (top - 1)) (left steps last : ℕ)
    (p : PassedPairs s f.at w f.left begun left steps last) (b : steps ≤ budget) where
  pub over_none : last ≡ 0 → OverPairs s w budget top begun t begun t
  unfolding frame_in waiting held_in put_held put_left when
  over_none z = record {
    left = get_or t.lefts (top - 1) 0;
    last = 0;
    passed = stays;
    within = (let n = pairs_none s f.at w f.left begun left steps last p z in let k = n.1 in omega (arith, k, b));
    tables = rw (set-get_or t.ats top 0, set-get_or t.backs top 0, set-get_or t.lefts (top - 1) 0);
  }

  pub over_some : (u v : Tables) → (last ≡ 0 → ⊥) → u ≡ parts_in s last top 1 t → v ≡ put_left (top - 1) left u → OverPairs s w budget top begun t steps v
  unfolding frame_in waiting part_held parts_in stored held_in put_held put_left when
  over_some u v z q r = record {
    left = left;
    last = last;
    passed = rw i at p;
    within = b;
    tables = r ∙ rw (q, ne_eqb last 0 z);
  }
