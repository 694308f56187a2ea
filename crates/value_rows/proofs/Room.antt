-- Words written into a room: what is written, and that no other word is touched. Assumes nothing.
use mathlib.Core.Path.{◌≡◌, refl, sym, ◌∙◌, ap}
use mathlib.Core.List.{List, [], ◌∷◌, ◌++◌}
use Prim.Native.Nat.{ℕ, suc, ◌+◌, ◌-◌, ◌^◌, ◌<◌, ◌≤◌}
use native.Mathlib.Numerals.{add-one}
use native.Mathlib.Nat.{add-suc, add-zero, suc-add}
use native.Mathlib.Omega.{arith}
use borrow.Author.Rules.{rules, sfits_of}
use lib.ListN.{length, drop, take, set, length-set}
use lib.Seq.{sets, sets-eq, length-sets}
use lib.Count.{ones, ones-le}
use lib.IntN.{ℤ, pos}
use mir.Syntax.{w32}
use mir.Val.{SFits, to_z, of_z}
use mir.Facts.{to_z-of_z}
use Rattle.std.proofs.Common.{append_assoc}
use Rattle.std.proofs.lemmas.List.{drop-take}
use Rattle.value_places.specs.Held.{put, part}

pub length_put : (l : List ℤ) (i : ℕ) (ws : List ℤ) → length (put l i ws) ≡ length l
unfolding put
length_put l i ws = length-sets l i ws

pub put_is : (l : List ℤ) (i : ℕ) (ws : List ℤ) → i + length ws ≤ length l → put l i ws ≡ take i l ++ ws ++ drop (i + length ws) l
unfolding put
put_is l i ws h = sets-eq ws l i h

pub put_none : (l : List ℤ) (i : ℕ) → put l i [] ≡ l
unfolding put
put_none l i = refl

sets_append : (a b l : List ℤ) (i : ℕ) → sets l i (a ++ b) ≡ sets (sets l i a) (i + length a) b
sets_append [] b l i = rw add-zero
sets_append (x ∷ a) b l i = sets_append a b (set l i x) (suc i) ∙ rw (suc-add i (length a), add-suc i (length a))

pub put_append : (a b l : List ℤ) (i : ℕ) → put l i (a ++ b) ≡ put (put l i a) (i + length a) b
unfolding put
put_append a b l i = sets_append a b l i

-- ---- Words copied one by one.

-- ---- Two words.

pub two_out : (room : List ℤ) (from : ℕ) (a b : ℤ) → SFits w32 a → SFits w32 b
    → set (set room from (to_z w32 (of_z w32 a))) (from + 1) (to_z w32 (of_z w32 b)) ≡ put room from (a ∷ b ∷ [])
unfolding put
two_out room from a b f g = rw (to_z-of_z f, to_z-of_z g, add-one from)

pub two_in : (room : List ℤ) (from : ℕ) (x : ℤ) → from + 2 ≤ length room → from + 1 < length (set room from x)
two_in room from x h = rw (length-set room from x) (omega arith)

-- ---- A count as a word.

module _ (n m : ℕ) (e : n ≡ ones m) (f : m < 2 ^ 64) where
  pub count_fits_lem : SFits w32 (pos n)
  count_fits_lem = let h = ones-le 64 m f in record { sfits = omega arith }

  pub count_is : to_z w32 n ≡ pos (ones m)
  count_is = to_z-of_z count_fits_lem ∙ ap pos e

pub ruleset word_rules = (count_fits_lem, count_is, rules)

pub part_is : (from to : ℕ) (s : List ℤ) → from ≤ to → take (to - from) (drop from s) ≡ part from to s
unfolding part
part_is from to s h = let e : from + (to - from) ≡ to = omega arith in sym (drop-take from (to - from) s) ∙ ap (λ (n : ℕ). drop from (take n s)) e
