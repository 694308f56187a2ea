-- The places of values, as the code asks: of values that stand one after the other, of all elements and parts, and one found. Assumes nothing.
use mathlib.Core.Path.{◌≡◌, ◌∙◌, ap}
use mathlib.Core.List.{List}
use Prim.Native.Nat.{ℕ, zero, suc, ◌+◌, ◌-◌, ◌*◌, ◌/◌, ◌<◌, ◌≤◌}
use native.Mathlib.Decide.{dec_lt}
use native.Mathlib.Omega.{arith}
use borrow.Author.Rules.{rules}
use lib.ListN.{length, get_or, drop, set, length-set}
use lib.Seq.{drop-length, get_or-set_same, get_or-set_other}
use lib.IntN.{ℤ, negsuc}
use mir.Syntax.{w64}
use mir.Val.{Fits}
use Rattle.rules.specs.Forms.{Values, empty, ◌▸◌, count, size}
use Rattle.words.specs.Words.{tag_z, tag_at}
use Rattle.tables.specs.Place.{Sections, sections_of, Whole, put_end, put_base, put_place}
use Rattle.tables.specs.PlaceLaws.{end_whole, place_whole}
use Rattle.value_places.specs.Places.{lasts, node, forest, value_at, count_by, count_at, Target, Tag, Standing, hops, element_at}
use Rattle.value_places.specs.Tables.{EndsFrom, Ends, Filled, PlacesFrom, Placed}
use Rattle.value_places.proofs.Forest.{even_length, hop_none, hop_after, hop_more, standing_less, standing_tag, standing_next}
use Rattle.value_places.proofs.Elements.{forest_at, standing_at}
use Rattle.value_places.proofs.Counting.{tag_half}
use Rattle.value_places.proofs.Ends.{ends_done, ends_base, ends_tag, ends_in, ends_from, one_more, ends_standing, ends_none, ends_small, ends_turn}

-- ---- The places of values that stand one after the other.

pub fill_from : (s : List ℤ) (at from : ℕ) → at ≡ hops s (from - from) at
fill_from s at from = hop_none s (from - from) at (omega arith)

pub fill_first : (s : List ℤ) (at from n : ℕ) → Standing s n at → Standing s (from + n - from) at
fill_first s at from n w = let z : from + n - from ≡ n = omega arith in rw z w

module _ (s : List ℤ) (old new : Sections) (at from n o e : ℕ) (g : Target s) (q : EndsFrom s old.ends at) (w : Standing s n at)
    (r : Standing s (from + n - o) e) (i : e ≡ hops s (o - from) at) (l : from ≤ o) (h : o < from + n) where
  here_tag : Tag s e
  here_tag = standing_tag s (from + n - o) e g r (omega arith)

  pub fill_half : e / 2 < 512
  fill_half = tag_half s e g here_tag

  pub fill_small : e < 65536
  fill_small = let y = g.short in omega (arith, here_tag.inside)

  module _ (f : Filled s at (o - from) from old new) (next : Sections) (p : next ≡ put_place o e new) where
    module _ (x : ℕ) (d : x ≡ get_or next.ends (e / 2) 0) where
      fill_end : x ≡ e + size (value_at s e)
      unfolding put_place
      fill_end =
          d ∙ ap (λ (y : Sections). get_or y.ends (e / 2) 0) p ∙ ap (λ l. get_or l (e / 2) 0) f.ends
          ∙ q.are e here_tag (omega (arith, i, hop_after s (o - from) at))

      pub fill_next_standing : Standing s (from + n - (o + 1)) x
      fill_next_standing =
          let z : from + n - (o + 1) ≡ from + n - o - 1 = omega arith in
          rw (fill_end, z) (standing_next s (from + n - o) e g r (omega arith))

      pub fill_next_hops : x ≡ hops s (o + 1 - from) at
      fill_next_hops =
          let p : o + 1 - from ≡ suc (o - from) = omega arith in
          fill_end ∙ rw (p, hop_more s (o - from) at g (standing_less s n (suc (o - from)) at w (omega arith)), i)

    pub fill_turn : Whole new → from + n ≤ 512 → Filled s at (o + 1 - from) from old next
    unfolding put_place
    fill_turn b₁ b₂ = let u = b₁.places in rw p (record {
      ends = f.ends;
      bases = f.bases;
      long = length-set new.places o e ∙ f.long;
      below = λ a k. get_or-set_other new.places o a e 0 (λ y. omega arith) ∙ f.below a k;
      written = λ k m. go k m u (dec_lt k (o - from));
      above = λ a k. get_or-set_other new.places o a e 0 (λ y. omega arith) ∙ f.above a (omega arith);
    })
      where
        go : (k : ℕ) → k < o + 1 - from → length new.places ≡ 512 → Dec (k < o - from) → get_or (set new.places o e) (from + k) 0 ≡ hops s k at
        go k m u (yes y) = get_or-set_other new.places o (from + k) e 0 (λ u. omega arith) ∙ f.written k y
        go k m u (no y) =
            let a : from + k ≡ o = omega arith in
            let b : k ≡ o - from = omega arith in
            rw (a, b) (get_or-set_same new.places o e 0 (omega arith) ∙ i)

module _ (s : List ℤ) (at from n o : ℕ) (l : from ≤ o) (z : o ≤ from + n) (h : from + n ≤ o) where
  all_done : o - from ≡ n
  all_done = omega arith

  pub fill_out : (e : ℕ) → e ≡ hops s (o - from) at → e ≡ hops s n at
  fill_out e i = rw all_done at i

  pub fill_all : (old new : Sections) → Filled s at (o - from) from old new → Filled s at n from old new
  fill_all old new f = rw all_done at f

pub fill_whole : (s : List ℤ) (at n from : ℕ) (old new : Sections) → Filled s at n from old new → Whole old → Whole new
fill_whole s at n from old new f v = record { ends = ap length f.ends ∙ v.ends; bases = ap length f.bases ∙ v.bases; places = f.long ∙ v.places }

pub ruleset fill_rules = (fill_from, fill_first, fill_half, fill_small, fill_next_standing, fill_next_hops, fill_turn, fill_out, fill_all, place_whole, rules)

-- ---- The places of the elements and parts of all values, from the right.

count_lasts : (n : ℕ) (vs : Values) → n ≤ count vs → count (lasts n vs) + n ≡ count vs
unfolding lasts count
count_lasts zero vs h = omega arith
count_lasts (suc n) empty h = absurd (omega arith)
count_lasts (suc n) (v ▸ vs) h = let r = count_lasts n vs (omega arith) in omega arith

count_node : (t : ℕ) (x : ℤ) (vs : Values) → count_by t (tag_z x) ≤ count vs → count vs + 1 ≡ count_by t (tag_z x) + count (node t x vs)
unfolding count
count_node zero x vs h = omega arith
count_node (suc zero) x vs h = omega (arith, count_lasts (tag_z x) vs h)
count_node (suc (suc t)) x vs h = omega (arith, count_lasts (tag_z x) vs h)

-- A value stands for its elements or parts.
count_step : (s : List ℤ) (at : ℕ) → Target s → Tag s at → count (forest (drop (at + 2) s)) + 1 ≡ count_at s at + count (forest (drop at s))
unfolding count_at tag_at
count_step s at g w =
    rw (forest_at s at g w) (count_node (tag_at s at) (get_or s (at + 1) (negsuc 0)) (forest (drop (at + 2) s)) (standing_at s at g w (count_at s at) (omega arith)).some)

-- At the end of the words there are no values.
pub from_start : (s : List ℤ) → Target s → 0 + count (forest (drop (2 * (length s / 2)) s)) + length s / 2 ≤ 512
unfolding forest count
from_start s g =
    let z : 2 * (length s / 2) ≡ length s = omega (arith, even_length s g) in
    rw (z, drop-length s) (let l = g.short in omega arith)

-- An end that is put leaves the places.
pub from_end : (s : List ℤ) (at used i v : ℕ) (x y : Sections) → y ≡ put_end i v x → PlacesFrom s x at used → PlacesFrom s y at used
unfolding put_end
from_end s at used i v x y b p = rw b (record { low = p.low; are = p.are })

module _ (s : List ℤ) (pairs used n : ℕ) (g : Target s) (l : pairs ≤ length s / 2) (h : 0 < pairs) (c : n ≡ count_at s (2 * (pairs - 1)))
    (u : used + count (forest (drop (2 * pairs) s)) + pairs ≤ 512) where
  pub from_room : used + n ≤ 512
  from_room = let z : 2 * (pairs - 1) + 2 ≡ 2 * pairs = omega arith in omega (arith, rw z at (ends_standing s pairs g l h n c).some)

  from_step : used + n + count (forest (drop (2 * (pairs - 1)) s)) + (pairs - 1) ≤ 512
  from_step = let z : 2 * (pairs - 1) + 2 ≡ 2 * pairs = omega arith in omega (arith, rw z at (count_step s (2 * (pairs - 1)) g (ends_tag s pairs g l h)))

  pub from_turn : (k : ℕ) → k ≡ n → used + k + count (forest (drop (2 * (pairs - 1)) s)) + (pairs - 1) ≤ 512
  from_turn k d = rw d from_step

  module _ (z : n ≡ 0) where
    pub from_none_turn : used + count (forest (drop (2 * (pairs - 1)) s)) + (pairs - 1) ≤ 512
    from_none_turn = omega (arith, from_step)

    pub from_none : (x : Sections) → PlacesFrom s x (2 * pairs) used → PlacesFrom s x (2 * (pairs - 1)) used
    from_none x p = record { low = λ a j w m o. p.low a j w (after a j w m o) o; are = λ a j w m o. p.are a j w (after a j w m o) o }
      where
        after : (a j : ℕ) → Tag s a → 2 * (pairs - 1) ≤ a → j < count_at s a → 2 * pairs ≤ a
        after a j = one_more s pairs g l h (λ a. j < count_at s a → 2 * pairs ≤ a) (λ a w m o. m) (λ o. absurd (omega arith)) a

  module _ (x y z : Sections) (b : y ≡ put_base (2 * (pairs - 1) / 2) used x) (f : Filled s (2 * (pairs - 1) + 2) n used y z) where
    pub from_some : (k : ℕ) → k ≡ n → Whole x → PlacesFrom s x (2 * pairs) used → PlacesFrom s z (2 * (pairs - 1)) (used + k)
    unfolding put_base element_at
    from_some k i v p = rw i (record {
      low = λ a j w m. one_more s pairs g l h (λ a. j < count_at s a → get_or z.bases (a / 2) 0 + j < used + n)
          (λ a w m o. rw (other a m) (let d = p.low a j w m o in omega arith))
          (λ o. rw same (omega arith))
          a w m;
      are = λ a j w m. one_more s pairs g l h (λ a. j < count_at s a → get_or z.places (get_or z.bases (a / 2) 0 + j) 0 ≡ element_at s a j)
          (λ a w m o. rw (other a m) (below (get_or x.bases (a / 2) 0 + j) (p.low a j w m o) ∙ p.are a j w m o))
          (λ o. rw same (f.written j (omega arith)))
          a w m;
    })
      where
        based : (a : ℕ) → get_or z.bases (a / 2) 0 ≡ get_or (set x.bases (2 * (pairs - 1) / 2) used) (a / 2) 0
        based a = ap (λ l. get_or l (a / 2) 0) (f.bases ∙ ap (λ (t : Sections). t.bases) b)

        same : get_or z.bases (2 * (pairs - 1) / 2) 0 ≡ used
        same = based (2 * (pairs - 1)) ∙ get_or-set_same x.bases (2 * (pairs - 1) / 2) used 0 (omega (arith, v.bases, ends_in s pairs g l h))

        other : (a : ℕ) → 2 * pairs ≤ a → get_or z.bases (a / 2) 0 ≡ get_or x.bases (a / 2) 0
        other a m = based a ∙ get_or-set_other x.bases (2 * (pairs - 1) / 2) (a / 2) used 0 (λ y. omega arith)

        below : (j : ℕ) → j < used → get_or z.places j 0 ≡ get_or x.places j 0
        below j m = f.below j m ∙ ap (λ (t : Sections). get_or t.places j 0) b

pub from_done : (s : List ℤ) (t : List ℕ) (pairs used : ℕ) → Ends s (sections_of t).ends → PlacesFrom s (sections_of t) (2 * pairs) used → pairs ≤ 0
    → used + count (forest (drop (2 * pairs) s)) + pairs ≤ 512 → Placed s t
from_done s t pairs used q p h u = record {
  ends = q;
  low = λ a k w c. let d = p.low a k w (omega arith) c in omega arith;
  are = λ a k w c. p.are a k w (omega arith) c;
}

pub ruleset from_rules = (even_length, ends_done, ends_base, ends_from, ends_standing, ends_none, ends_small, ends_turn, from_start, from_end, from_room, from_turn, from_none_turn, from_none, from_done, end_whole, rules)

-- ---- An element found.

module _ (s : List ℤ) (t : List ℕ) (at k k' b : ℕ) (g : Target s) (p : Placed s t) (w : Tag s at) (c : k < count_at s at) (d : b ≡ get_or (sections_of t).bases (at / 2) 0) (i : k' ≡ k) where
  pub find_in : b + k' < 512
  find_in = rw (d, i) (p.low at k w c)

  pub find_fits : Fits w64 (b + k')
  find_fits = let y = find_in in record { fits = omega arith }

  pub find_is : (x : ℕ) → x ≡ get_or (sections_of t).places (b + k') 0 → x ≡ element_at s at k
  find_is x j = j ∙ rw (d, i) (p.are at k w c)

pub find_half : (s : List ℤ) (at : ℕ) → Target s → Tag s at → at / 2 < 512
find_half s at g w = tag_half s at g w

pub ruleset find_rules = (find_in, find_fits, find_is, find_half, rules)
