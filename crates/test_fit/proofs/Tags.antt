-- What a tag asks under a matcher, as the code finds it: each premise is a fact that a place of the code has at hand. Assumes nothing.
use mathlib.Core.Path.{◌≡◌, refl, sym, ◌∙◌, ap}
use mathlib.Core.Bool.{Bool, true, false, cond, ◌&&◌, ◌||◌}
use mathlib.Core.Option.{Option, none, some}
use mathlib.Core.List.{List, [], ◌∷◌}
use Prim.Native.Nat.{ℕ, zero, suc, ◌+◌, ◌^◌, ◌<◌, ◌≤◌}
use native.Mathlib.Omega.{arith}
use borrow.Author.Rules.{rules}
use borrow.Author.Tests.{le-leb, lt-leb, leb-true, leb-false, ne_eqb}
use mir.Syntax.{w64}
use mir.Val.{Fits}
use lib.Dec.{leb, eqb}
use lib.ListN.{length, get_or, get_elem?}
use lib.IntN.{ℤ, pos, negsuc}
use Rattle.std.specs.Prelude.{Some, None}
use Rattle.std.specs.Bool.{then_some}
use Rattle.std.specs.Prelude as code
use Rattle.rules.specs.Numbers.{same}
use Rattle.rules.specs.Reading.{PatternTag, alone, operand, operands, inner, parts, wide, pattern_tags, matcher_tags}
use Rattle.words.specs.Words.{tag_z, tag_at}
use Rattle.words.proofs.Signed.{within}
use Rattle.test_forms.specs.Ends as ends
use Rattle.test_fit.specs.Shapes.{width_fits, shapes}
use Rattle.test_forms.specs.Table.{taken_of, taken_in, row_in, row_of}
use Rattle.test_fit.specs.Fitting.{shapes_with, value_fits, value_fits_tag, first_of, by_parts, tuple_at, asked, here_of, here_at}
use Rattle.test_fit.specs.declared.Here.{Here}
use Rattle.test_fit.specs.declared.Here.TheVariants.{Leaf, Bind, One, Parts}
use Rattle.test_forms.specs.declared.table.Row.{Row}
use Rattle.test_forms.specs.declared.table.Row.TheVariants as row
use Rattle.test_forms.proofs.Known.{past, entry_tag}
use Rattle.test_forms.proofs.Turns.{width_most, next_two}

-- ---- Tag 3: its operands by their tags.

module _ (m : List ℤ) (i : ℕ) where
  shapes_tag : (under : List ℕ) (v : ℕ) → shapes_with m i (get_elem? under v) ≡ cond (leb (length under) v) false (shapes m i (get_or under v 0))
  unfolding shapes_with
  shapes_tag [] v = rw (le-leb 0 v (omega arith))
  shapes_tag (j ∷ under) zero = rw (lt-leb (suc (length under)) 0 (omega arith))
  shapes_tag (j ∷ under) (suc v) = shapes_tag under v ∙ go (leb (length under) v) refl
    where
      go : (b : Bool) → leb (length under) v ≡ b
          → cond b false (shapes m i (get_or under v 0)) ≡ cond (leb (suc (length under)) (suc v)) false (shapes m i (get_or under v 0))
      go true e = let l = leb-true (length under) v e in rw (le-leb (suc (length under)) (suc v) (omega arith))
      go false e = let l = leb-false (length under) v e in rw (lt-leb (suc (length under)) (suc v) (omega arith))

zero_tag : (c : ℤ) → same c (pos 0) ≡ eqb (tag_z c) 0
unfolding same
zero_tag (pos n) = refl
zero_tag (negsuc n) = refl

one_test : (a e q z : Bool) → (cond a false e && (q || z)) ≡ cond a false (cond e (cond q true z) false)
one_test true e q z = refl
one_test false true true z = refl
one_test false true false z = refl
one_test false false q z = refl

value_tag : (m : List ℤ) (i : ℕ) (under : List ℕ) → length under ≤ 2147483648 → (x y : ℤ)
    → value_fits m i under x y ≡ value_fits_tag m i under (tag_z x) (tag_z y)
unfolding value_fits value_fits_tag
value_tag m i under h x y =
    rw (entry_tag under x h, shapes_tag m i under (tag_z x), zero_tag y)
    (one_test (leb (length under) (tag_z x)) (shapes m i (get_or under (tag_z x) 0)) (eqb (tag_at m i) 1) (eqb (tag_z y) 0))

-- ---- A tuple.

module _ (m : List ℤ) (i n k : ℕ) (e : k ≡ tag_at m (i + 1)) (b : Bool) (q : b ≡ width_fits k n) where
  pub next_2 : b ≡ true → length m < 2 ^ 64 → Fits w64 (i + 2)
  unfolding width_fits
  next_2 h l = go (eqb k n) (sym q ∙ h)
    where
      go : (x : Bool) → cond x (ends.within 2 k 4) false ≡ true → Fits w64 (i + 2)
      go true z = let w = (width_most k z).1 in next_two m i k e (omega arith) l
      go false z = let y : ◌≡◌ {A = ℕ} 0 1 = cc in absurd (omega arith)

-- ---- The tag at an index.

-- A matcher's tag that takes a tag is one of the five.
low_taken : (k t : ℕ) → taken_of k t ≡ true → k < 2147483648
unfolding taken_of taken_in
low_taken k t e = go (leb 5 k) refl
  where
    go : (b : Bool) → leb 5 k ≡ b → k < 2147483648
    go false l = let h = leb-false 5 k l in omega arith
    go true l =
        let f : false ≡ taken_of k t = rw (past (matcher_tags 4) k (leb-true 5 k l)) in
        let z : ◌≡◌ {A = ℕ} 0 1 = cc in
        absurd (omega arith)

-- Whether a row's matcher takes the tag.
Says : ℕ → ℕ → code.Option Row → Type 0
Says k t None = Unit {0}
Says k t (Some (row.Known o b f)) = f ≡ taken_of k t
Says k t (Some (row.Wide f)) = f ≡ taken_of k t

says : (k t : ℕ) → Says k t (row_of k t)
unfolding row_of row_in Says
says k t = go (get_elem? pattern_tags t)
  where
    go : (x : Option PatternTag) → Says k t (row_in x (taken_of k t))
    go none = tt
    go (some (alone p)) = refl
    go (some (operand f)) = refl
    go (some (operands f)) = refl
    go (some (inner f)) = refl
    go (some (parts f)) = refl
    go (some (wide f)) = refl

no_parts : (k t o b : ℕ) (f : Bool) → t ≡ 3 → Some (row.Known o b f) ≡ row_of k t → b ≡ 0
unfolding row_of row_in pattern_tags
no_parts k t o b f h e = let q : Some (row.Known o b f) ≡ Some (row.Known 2 0 (taken_of k 3)) = rw h at e in cc

module _ (m p : List ℤ) (i at k t : ℕ) (under : List ℕ) (x : k ≡ tag_at m i) (y : t ≡ tag_at p at) (r : code.Option Row) (e : r ≡ row_of k t) where
  by_row_lem : here_at m i p at under ≡ asked m i under t (get_or p (at + 1) (negsuc 0)) (get_or p (at + 2) (negsuc 0)) r
  unfolding here_at here_of
  by_row_lem = rw (e, x, y)

  pub ret_none : r ≡ None → None ≡ here_at m i p at under
  unfolding asked
  ret_none q = sym (by_row_lem ∙ rw q)

  -- A matcher that takes the tag stands at an index.
  first : (f : Bool) → f ≡ taken_of k t → f ≡ true → length m < 2 ^ 64 → i + 1 < 18446744073709551616
  first f h g l = let w = within m i k x (low_taken k t (sym h ∙ g)) in omega arith

  module _ (f : Bool) (q : r ≡ Some (row.Wide f)) where
    pub ret_untaken_tuple : f ≡ false → None ≡ here_at m i p at under
    unfolding asked
    ret_untaken_tuple g = sym (by_row_lem ∙ rw (q, g))

    pub ret_wide : f ≡ true → (n : ℕ) → n ≡ tag_at p (at + 1) → (h : code.Option Here) → h ≡ tuple_at m i n → h ≡ here_at m i p at under
    unfolding asked tag_at
    ret_wide g n z h u = u ∙ rw z (sym (by_row_lem ∙ rw (q, g)))

    pub tuple_fits : f ≡ true → length m < 2 ^ 64 → i + 1 < 18446744073709551616
    unfolding Says
    tuple_fits g l = let s = says k t in first f (rw (sym e ∙ q) at s) g l

  module _ (o b : ℕ) (f : Bool) (q : r ≡ Some (row.Known o b f)) where
    pub ret_untaken : f ≡ false → None ≡ here_at m i p at under
    unfolding asked
    ret_untaken g = sym (by_row_lem ∙ rw (q, g))

    module _ (g : f ≡ true) where
      -- What the tag asks where it stands rightly, and where not.
      taken : here_at m i p at under
          ≡ cond (cond (eqb t 3) (value_fits m i under (get_or p (at + 1) (negsuc 0)) (get_or p (at + 2) (negsuc 0))) true) (Some (cond (eqb t 1) (Bind o) (by_parts b o (first_of t i)))) None
      unfolding asked
      taken = by_row_lem ∙ rw (q, g)

      pub ret_bind : t ≡ 1 → Some (Bind o) ≡ here_at m i p at under
      ret_bind h = sym (taken ∙ rw h)

      plain : (t ≡ 1 → ⊥) → (t ≡ 3 → ⊥) → here_at m i p at under ≡ Some (by_parts b o (first_of t i))
      plain h j = taken ∙ rw (ne_eqb t 3 j, ne_eqb t 1 h)

      pub ret_leaf : (t ≡ 1 → ⊥) → (t ≡ 3 → ⊥) → b ≡ 0 → Some (Leaf o) ≡ here_at m i p at under
      unfolding by_parts
      ret_leaf h j z = sym (plain h j ∙ rw z)

      pub ret_one : (t ≡ 1 → ⊥) → (t ≡ 3 → ⊥) → b ≡ 1 → Some One ≡ here_at m i p at under
      unfolding by_parts
      ret_one h j z = sym (plain h j ∙ rw z)

      pub ret_parts : (t ≡ 1 → ⊥) → (t ≡ 3 → ⊥) → (b ≡ 0 → ⊥) → (b ≡ 1 → ⊥) → (a : ℕ) → a ≡ first_of t i → Some (Parts a) ≡ here_at m i p at under
      unfolding by_parts
      ret_parts h j z y a l = sym (plain h j ∙ ap Some (go b z y) ∙ rw l)
        where
          go : (n : ℕ) → (n ≡ 0 → ⊥) → (n ≡ 1 → ⊥) → by_parts n o (first_of t i) ≡ Parts (first_of t i)
          go zero w u = absurd (w refl)
          go (suc zero) w u = absurd (u refl)
          go (suc (suc n)) w u = refl

      pub first_fits : length m < 2 ^ 64 → i + 1 < 18446744073709551616
      unfolding Says
      first_fits l = let s = says k t in first f (rw (sym e ∙ q) at s) (g) l

      module _ (h : t ≡ 3) (few : length under ≤ 2147483648) (v c : ℕ) (ev : v ≡ tag_at p (at + 1)) (ec : c ≡ tag_at p (at + 2)) (s : Bool)
          (w : s ≡ value_fits_tag m i under v c) where
        stands : value_fits m i under (get_or p (at + 1) (negsuc 0)) (get_or p (at + 2) (negsuc 0)) ≡ s
        unfolding tag_at
        stands = value_tag m i under few (get_or p (at + 1) (negsuc 0)) (get_or p (at + 2) (negsuc 0)) ∙ rw (← ev, ← ec) (sym w)

        pub ret_fits : (z : code.Option Here) → z ≡ then_some s (Leaf o) → z ≡ here_at m i p at under
        unfolding by_parts
        ret_fits z u = u ∙ go s ∙ sym (taken ∙ rw (h, stands, no_parts k t o b f h (sym q ∙ e)))
          where
            go : (d : Bool) → then_some d (Leaf o) ≡ cond d (Some (Leaf o)) None
            go true = refl
            go false = refl

pub few_under : (under : List ℕ) → length under ≤ 128 → length under ≤ 2147483648
few_under under h = omega arith

pub ruleset own_rules = (ret_none, ret_untaken_tuple, ret_wide, tuple_fits, ret_untaken, ret_bind, ret_leaf, ret_one, ret_parts, first_fits, ret_fits, few_under, rules)

-- ---- The same in a dialect.

pub apart_fits : (m : List ℤ) (i k : ℕ) → k ≡ tag_at m i → k ≡ 3 → length m < 2 ^ 64 → Fits w64 (i + 1)
apart_fits m i k x h l = let w = within m i k x (omega arith) in record { fits = omega arith }
