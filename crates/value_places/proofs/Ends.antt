-- The table of ends, filled from the right: the value before those whose ends are known, and its end. Assumes nothing.
use mathlib.Core.Path.{◌≡◌, ◌∙◌}
use mathlib.Core.List.{List}
use Prim.Native.Nat.{ℕ, ◌+◌, ◌-◌, ◌*◌, ◌/◌, ◌<◌, ◌≤◌}
use native.Mathlib.Decide.{dec_le}
use native.Mathlib.Omega.{arith}
use lib.ListN.{length, get_or, set}
use lib.Seq.{get_or-set_same, get_or-set_other}
use lib.IntN.{ℤ}
use Rattle.rules.specs.Forms.{size}
use Rattle.tables.specs.Place.{Sections, Whole, put_end, put_base}
use Rattle.value_places.specs.Places.{value_at, count_at, Target, Tag, Standing, hops}
use Rattle.value_places.specs.Tables.{EndsFrom, Ends, Filled}
use Rattle.value_places.proofs.Forest.{is_here, hop_none}
use Rattle.value_places.proofs.Elements.{standing_at, end_at}
use Rattle.value_places.proofs.Counting.{tag_half}

pub ends_done : (s : List ℤ) (ends : List ℕ) (pairs : ℕ) → EndsFrom s ends (2 * pairs) → pairs ≤ 0 → Ends s ends
ends_done s ends pairs q l = record { are = λ j w. q.are j w (omega arith) }

-- A base and places that are put leave the ends.
pub ends_base : (s : List ℤ) (at i v : ℕ) (x y : Sections) → y ≡ put_base i v x → EndsFrom s x.ends at → EndsFrom s y.ends at
unfolding put_base
ends_base s at i v x y b q = rw b q

pub ends_fill : (s : List ℤ) (at e n from : ℕ) (x y : Sections) → Filled s e n from x y → EndsFrom s x.ends at → EndsFrom s y.ends at
ends_fill s at e n from x y f q = rw f.ends q

-- A target's words stand in pairs; of some pairs from the left the last is a value's tag and its word.
module _ (s : List ℤ) (pairs : ℕ) (g : Target s) (l : pairs ≤ length s / 2) (h : 0 < pairs) where
  pub ends_tag : Tag s (2 * (pairs - 1))
  ends_tag = record { even = omega arith; inside = omega arith }

  pub ends_in : 2 * (pairs - 1) / 2 < 512
  ends_in = tag_half s (2 * (pairs - 1)) g ends_tag

  pub ends_from : (t : Sections) → EndsFrom s t.ends (2 * pairs) → EndsFrom s t.ends (2 * (pairs - 1) + 2)
  ends_from t q = let z : 2 * (pairs - 1) + 2 ≡ 2 * pairs = omega arith in rw z q

  -- What holds of the values behind those pairs and of the one before them holds of all from there on.
  pub one_more : (P : ℕ → Type 0) → ((k : ℕ) → Tag s k → 2 * pairs ≤ k → P k) → P (2 * (pairs - 1)) → (k : ℕ) → Tag s k → 2 * (pairs - 1) ≤ k → P k
  one_more P f p k w m = go (dec_le (2 * pairs) k)
    where
      go : Dec (2 * pairs ≤ k) → P k
      go (yes y) = f k w y
      go (no y) = let z : k ≡ 2 * (pairs - 1) = omega (arith, w.even) in rw z p

  module _ (n : ℕ) (d : n ≡ count_at s (2 * (pairs - 1))) where
    pub ends_standing : Standing s n (2 * (pairs - 1) + 2)
    ends_standing = standing_at s (2 * (pairs - 1)) g ends_tag n (omega arith)

    pub ends_none : n ≡ 0 → 2 * (pairs - 1) + 2 ≡ hops s n (2 * (pairs - 1) + 2)
    ends_none z = hop_none s n (2 * (pairs - 1) + 2) (omega arith)

    module _ (x : ℕ) (i : x ≡ hops s n (2 * (pairs - 1) + 2)) where
      ends_is : x ≡ 2 * (pairs - 1) + size (value_at s (2 * (pairs - 1)))
      ends_is = i ∙ rw d (end_at s (2 * (pairs - 1)) g ends_tag)

      pub ends_small : x < 65536
      ends_small = let k = g.short in omega (arith, ends_is, (is_here s (2 * (pairs - 1)) g ends_tag).fits)

      pub ends_turn : (t y : Sections) → y ≡ put_end (2 * (pairs - 1) / 2) x t → EndsFrom s t.ends (2 * pairs) → Whole t → EndsFrom s y.ends (2 * (pairs - 1))
      unfolding put_end
      ends_turn t y p q b = rw p (record {
        are = one_more (λ k. get_or (set t.ends (2 * (pairs - 1) / 2) x) (k / 2) 0 ≡ k + size (value_at s k))
            (λ k w m. rw (get_or-set_other t.ends (2 * (pairs - 1) / 2) (k / 2) x 0 (λ z. omega arith)) (q.are k w m))
            (rw (get_or-set_same t.ends (2 * (pairs - 1) / 2) x 0 (omega (arith, ends_in, b.ends))) ends_is);
      })
