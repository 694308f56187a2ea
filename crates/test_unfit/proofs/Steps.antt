-- Test 6 by the tags that were read, as the code asks it. Assumes nothing.
use mathlib.Core.Path.{◌≡◌, refl, sym, ◌∙◌, ap}
use mathlib.Core.Bool.{Bool, true, false, not, cond}
use mathlib.Core.List.{List}
use Prim.Native.Nat.{ℕ, zero, suc, ◌+◌, ◌-◌, ◌*◌, ◌^◌, ◌<◌, ◌≤◌}
use native.Mathlib.Omega.{arith}
use borrow.Author.Rules.{rules}
use borrow.Author.Tests.{lt-ltb, ltb-true, ltb-false, ne_eqb, eqb-true, not-true, not-false}
use mir.Syntax.{w64}
use mir.Val.{Fits}
use lib.Dec.{eqb, ltb}
use lib.ListN.{length}
use lib.IntN.{ℤ}
use Rattle.std.specs.Prelude.{Option, Some, None, ok_or, Result, Ok, Err}
use Rattle.words.specs.Words.{tag_at}
use Rattle.words.proofs.Signed as signed
use Rattle.test_forms.specs.Ends.{onward, within}
use Rattle.matchers.specs.Places.{matcher_end}
use Rattle.matchers.proofs.Ends.{parts_none, words_one, end_turn, end_start, end_none}
use Rattle.test_fit.specs.Shapes.{width_fits}
use Rattle.test_target.specs.Targets.{plain_at, value_from}
use Rattle.test_target.proofs.Values.{integer}
use Rattle.test_target.proofs.Steps.{plain_words_lem}
use Rattle.test_unfit.specs.Unfit.{opens_at, under_tag, members_of, next_member, number_fits, is_pair, pair_fits, plain_words, under_integer, by_members, in_each, inside_from, fit_from}
use Rattle.test_forms.proofs.Turns.{width_most, next_two, depth_pos, depth_less}
use Rattle.test_fit.proofs.shapes.Steps.{most, same_most}

-- ---- The members.

module _ (k t : ℕ) where
  -- Only lists, multisets and tuples are of something, only collections and tuples have anything inside.
  opened_low : opens_at k t ≡ true → (k ≤ 4) × (t ≤ 2)
  unfolding opens_at
  opened_low = go (eqb k 4) refl
    where
      two : (j : ℕ) (c : Bool) → eqb t j ≡ c → c ≡ true → t ≡ j
      two j true e h = eqb-true t j e
      two j false e h = let z : ◌≡◌ {A = ℕ} 0 1 = cc in absurd (omega arith)

      in_two : (c : Bool) → within 2 k 3 ≡ c → cond c (eqb t 1) false ≡ true → (k ≤ 4) × (t ≤ 2)
      in_two true e h = let l = most 2 k 3 e in let q = two 1 (eqb t 1) refl h in (omega arith, omega arith)
      in_two false e h = let z : ◌≡◌ {A = ℕ} 0 1 = cc in absurd (omega arith)

      go : (b : Bool) → eqb k 4 ≡ b → cond b (eqb t 2) (cond (within 2 k 3) (eqb t 1) false) ≡ true → (k ≤ 4) × (t ≤ 2)
      go true e h = let l = eqb-true k 4 e in let q = two 2 (eqb t 2) refl h in (omega arith, omega arith)
      go false e h = in_two (within 2 k 3) refl h

module _ (m : List ℤ) (i k n : ℕ) where
  members_most : (j : ℕ) → members_of m i k n ≡ Some j → n ≤ 64
  unfolding members_of width_fits
  members_most j = go (eqb k 4)
    where
      wide : (b : Bool) → cond (eqb (tag_at m (i + 1)) n) (within 2 (tag_at m (i + 1)) 4) false ≡ b → cond b (Some (i + 2)) None ≡ Some j → n ≤ 64
      wide true e h = let l = same_most (tag_at m (i + 1)) n 2 4 e in omega arith
      wide false e h = let z : ◌≡◌ {A = ℕ} 0 1 = cc in absurd (omega arith)

      many : (b : Bool) → ltb 64 n ≡ b → cond b None (Some (i + 1)) ≡ Some j → n ≤ 64
      many true e h = let z : ◌≡◌ {A = ℕ} 0 1 = cc in absurd (omega arith)
      many false e h = ltb-false 64 n e

      go : (b : Bool) → cond b (cond (cond (eqb (tag_at m (i + 1)) n) (within 2 (tag_at m (i + 1)) 4) false) (Some (i + 2)) None) (cond (ltb 64 n) None (Some (i + 1))) ≡ Some j → n ≤ 64
      go true h = wide (cond (eqb (tag_at m (i + 1)) n) (within 2 (tag_at m (i + 1)) 4) false) refl h
      go false h = many (ltb 64 n) refl h

pub width_next_lem : (m : List ℤ) (i n w : ℕ) → w ≡ tag_at m (i + 1) → (b : Bool) → b ≡ width_fits w n → b ≡ true → length m < 2 ^ 64 → Fits w64 (i + 2)
unfolding width_fits
width_next_lem m i n w e b q r l = go (eqb w n) (sym q ∙ r)
  where
    go : (x : Bool) → cond x (within 2 w 4) false ≡ true → Fits w64 (i + 2)
    go true z = let y = (width_most w z).1 in next_two m i w e (omega arith) l
    go false z = let y : ◌≡◌ {A = ℕ} 0 1 = cc in absurd (omega arith)

-- A matcher that is a tag alone.
plain_end : (m : List ℤ) (j t : ℕ) → t ≡ tag_at m j → t < 2 → j + 1 ≡ matcher_end m j
plain_end m j t e l =
    let none = parts_none m j t e (λ z. absurd (omega arith)) (λ z. absurd (omega arith)) (λ z. absurd (omega arith)) in
    let one = words_one m j t e (λ z. absurd (omega arith)) in
    let on = end_turn m j 1 0 (signed.within m j t e (omega arith)) none 1 (λ z. absurd (omega arith)) one (matcher_end m j) (end_start m j) in
    end_none m (j + 1) (1 - 1 + 0) (matcher_end m j) on (omega arith)

module _ (m : List ℤ) (k j : ℕ) where
  pub next_plain : k ≡ 4 → (t : ℕ) → t ≡ tag_at m j → t < 2 → j + 1 ≡ next_member m k j
  unfolding next_member
  next_plain h t e l = rw h (plain_end m j t e l)

  pub next_fits : (t : ℕ) → t ≡ tag_at m j → t < 2 → length m * 4 < 2 ^ 63 → Fits w64 (j + 1)
  next_fits t e l q = let w = signed.within m j t e (omega arith) in record { fits = omega arith }

-- ---- An integer under integer.

number_words : (s m : List ℤ) (at j : ℕ) → number_fits s at m j ≡ true → (tag_at m j ≡ 1) × (plain_at s at ≡ true)
unfolding number_fits
number_words s m at j = go (eqb (tag_at m j) 1) refl
  where
    go : (b : Bool) → eqb (tag_at m j) 1 ≡ b → cond b (plain_at s at) false ≡ true → (tag_at m j ≡ 1) × (plain_at s at ≡ true)
    go true p h = (eqb-true (tag_at m j) 1 p, h)
    go false p h = let z : ◌≡◌ {A = ℕ} 0 1 = cc in absurd (omega arith)

-- ---- A value under a matcher.

unfoldable pub inside : (s m : List ℤ) (d i at : ℕ) → Result ℕ ℕ
inside s m zero i at = Err at
inside s m (suc d) i at = inside_from s m (λ j e. fit_from s m d j e) i at

pub by_tags : (s m : List ℤ) (d i at : ℕ) → fit_from s m d i at ≡ under_tag (tag_at m i) (tag_at s at) (value_from s d at) (inside s m d i at) (Err at)
unfolding fit_from inside
by_tags s m zero i at = refl
by_tags s m (suc d) i at = refl

module _ (s m : List ℤ) (i at k d : ℕ) (e : k ≡ tag_at m i) where
  pub ret_something : (r : Result ℕ ℕ) → k ≡ 0 → r ≡ value_from s d at → r ≡ fit_from s m d i at
  unfolding under_tag
  ret_something r h x = x ∙ sym (by_tags s m d i at ∙ rw (← e, h))

  module _ (t : ℕ) (q : t ≡ tag_at s at) where
    ret_integer : (r : Result ℕ ℕ) → k ≡ 1 → t ≡ 0 → r ≡ value_from s d at → r ≡ fit_from s m d i at
    unfolding under_tag
    ret_integer r h y x = x ∙ sym (by_tags s m d i at ∙ rw (← e, h, ← q, y))

    pub ret_under : (r : Result ℕ ℕ) → k ≡ 1 → r ≡ under_integer s at t d → r ≡ fit_from s m d i at
    unfolding under_tag under_integer
    ret_under r h x = x ∙ sym (by_tags s m d i at ∙ rw (← e, h, ← q))

    module _ (f : k ≡ 0 → ⊥) (g : k ≡ 1 → ⊥) (b : Bool) (h : b ≡ opens_at k t) where
      pub ret_closed : not b ≡ true → Err at ≡ fit_from s m d i at
      unfolding under_tag
      ret_closed y = sym (by_tags s m d i at ∙ rw (← e, ← q, ne_eqb k 0 f, ne_eqb k 1 g, ← h, not-true b y))

      module _ (y : not b ≡ false) where
        opened : fit_from s m d i at ≡ inside s m d i at
        unfolding under_tag
        opened = by_tags s m d i at ∙ rw (← e, ← q, ne_eqb k 0 f, ne_eqb k 1 g, ← h, not-false b y)

        pub ret_deep : d ≡ 0 → Err at ≡ fit_from s m d i at
        unfolding inside
        ret_deep z = sym (opened ∙ rw z)

        module _ (z : d ≡ 0 → ⊥) (n : ℕ) (j : n ≡ tag_at s (at + 1)) (a : Option ℕ) (w : a ≡ members_of m i k n) where
          within_it : fit_from s m d i at ≡ by_members a (Err at) (λ j. in_each (fit_from s m (d - 1)) (next_member m k) n j (at + 2))
          unfolding inside inside_from
          within_it = opened ∙ go d z
            where
              go : (c : ℕ) → (c ≡ 0 → ⊥) → inside s m c i at ≡ by_members a (Err at) (λ j. in_each (fit_from s m (c - 1)) (next_member m k) n j (at + 2))
              go zero x = absurd (x refl)
              go (suc c) x = let p : suc c - 1 ≡ c = omega arith in rw (p, w, ← j, ← e)

          pub ret_unfit : a ≡ None → Err at ≡ fit_from s m d i at
          unfolding by_members
          ret_unfit x = sym (within_it ∙ rw x)

          pub loop_in : (l : ℕ) → a ≡ Some l → fit_from s m d i at ≡ in_each (fit_from s m (d - 1)) (next_member m k) n l (at + 2)
          unfolding by_members
          loop_in l x = within_it ∙ rw x

pub number_end : (s m : List ℤ) (at j d : ℕ) → number_fits s at m j ≡ true → Ok (at + 2) ≡ fit_from s m d j at
number_end s m at j d h =
    let a = number_words s m at j h in
    let b = plain_words_lem s at a.1 in
    ret_integer s m j at (tag_at m j) d refl (tag_at s at) refl (Ok (at + 2)) a.0 b.0 (sym (integer s at (tag_at s at) refl d b.0 ∙ rw (lt-ltb (at + 1) (length s) b.1)))

-- ---- A pair of integers under two integers.

module _ (ws : List ℤ) (at tag t : ℕ) (e : t ≡ tag_at ws at) where
  module _ (z : t ≡ tag) where
    pub pair_next : tag ≤ 4 → length ws < 2 ^ 64 → Fits w64 (at + 1)
    pair_next h l = let w = signed.within ws at t e (omega arith) in record { fits = omega arith }

-- A test that holds, and what it says.
pub holds : (b c : Bool) → cond b c false ≡ true → (b ≡ true) × (c ≡ true)
holds true c h = (refl, h)
holds false c h = let z : ◌≡◌ {A = ℕ} 0 1 = cc in absurd (omega arith)

pair_words : (ws : List ℤ) (at tag : ℕ) → is_pair ws at tag ≡ true → (tag_at ws at ≡ tag) × (tag_at ws (at + 1) ≡ 2)
unfolding is_pair
pair_words ws at tag h = let a = holds (eqb (tag_at ws at) tag) _ h in (eqb-true (tag_at ws at) tag a.0, eqb-true (tag_at ws (at + 1)) 2 a.1)

pub behind_pair : (ws : List ℤ) (at tag : ℕ) (b : Bool) → b ≡ is_pair ws at tag → b ≡ true → length ws < 2 ^ 64 → Fits w64 (at + 2)
behind_pair ws at tag b e h l = let w = signed.within ws (at + 1) (tag_at ws (at + 1)) refl (omega (arith, (pair_words ws at tag (sym e ∙ h)).1)) in record { fits = omega arith }

module _ (s m : List ℤ) (at j : ℕ) (c : Bool) (q : c ≡ number_fits s at m j) (z : c ≡ true) where
  first_words : (tag_at m j ≡ 1) × (plain_at s at ≡ true)
  first_words = number_words s m at j (sym q ∙ z)

  pub behind_integer : length m < 2 ^ 64 → j + 1 < 2 ^ 64
  behind_integer l = let w = signed.within m j (tag_at m j) refl (omega (arith, first_words.0)) in omega arith

  pub behind_number : length s < 2 ^ 64 → at + 2 < 2 ^ 64
  behind_number l = let w = (plain_words_lem s at first_words.1).1 in omega arith

pub third : (s m : List ℤ) (at j : ℕ) (c : Bool) → c ≡ number_fits s (at + 2) m (j + 2) → c ≡ true → length m < 2 ^ 64 → Fits w64 (j + 3)
third s m at j c q z l = let w = behind_integer s m (at + 2) (j + 2) c q z l in record { fits = omega arith }

pub fourth : (s m : List ℤ) (at j : ℕ) (c : Bool) → c ≡ number_fits s (at + 2) m (j + 2) → c ≡ true → length s < 2 ^ 64 → Fits w64 (at + 4)
fourth s m at j c q z l = let w = behind_number s m (at + 2) (j + 2) c q z l in record { fits = omega arith }

pair_second : (s m : List ℤ) (at j : ℕ) → pair_fits s at m j ≡ true → number_fits s (at + 4) m (j + 3) ≡ true
unfolding pair_fits
pair_second s m at j h = (holds (number_fits s (at + 2) m (j + 2)) _ (holds (is_pair s at 2) _ (holds (is_pair m j 4) _ h).1).1).1

-- Its value, where a depth is left.
pub pair_end : (s m : List ℤ) (at j d : ℕ) → pair_fits s at m j ≡ true → Ok (at + 6) ≡ fit_from s m (suc d) j at
unfolding pair_fits in_each onward next_member opens_at members_of width_fits within
pair_end s m at j d h =
    let a = holds (is_pair m j 4) _ h in
    let u = holds (is_pair s at 2) _ a.1 in
    let b = holds (number_fits s (at + 2) m (j + 2)) _ u.1 in
    let tuple = pair_words m j 4 a.0 in
    let pair = pair_words s at 2 u.0 in
    let first = number_end s m (at + 2) (j + 2) d b.0 in
    let second = number_end s m (at + 4) (j + 3) d b.1 in
    let next : j + 3 ≡ matcher_end m (j + 2) = ap (λ (c : ℕ). c) (omega (arith, plain_end m (j + 2) (tag_at m (j + 2)) refl (omega (arith, (number_words s m (at + 2) (j + 2) b.0).0)))) in
    let x : at + 2 + 2 ≡ at + 4 = omega arith in
    let y : at + 4 + 2 ≡ at + 6 = omega arith in
    let inner : in_each (fit_from s m d) (next_member m 4) 2 (j + 2) (at + 2) ≡ Ok (at + 6) = rw (← first, x, ← next, ← second, y) in
    let less : suc d - 1 ≡ d = omega arith in
    sym (loop_in s m j at 4 (suc d) (sym tuple.0) 2 (sym pair.0) (λ z. absurd (omega arith)) (λ z. absurd (omega arith)) true refl refl (λ z. absurd (omega arith)) 2 (sym pair.1) (Some (j + 2))
    (rw tuple.1) (j + 2) refl ∙ rw less inner)

plain_within : (s m : List ℤ) (at j d : ℕ) → 0 < plain_words s at m j d → length s < 2 ^ 64 → at + plain_words s at m j d < 2 ^ 64
unfolding plain_words
plain_within s m at j d = go (number_fits s at m j) refl (ltb 1 d) (pair_fits s at m j) refl
  where
    go : (a : Bool) → number_fits s at m j ≡ a → (b : Bool) → (c : Bool) → pair_fits s at m j ≡ c → 0 < cond a 2 (cond b (cond c 6 0) 0) → length s < 2 ^ 64
        → at + cond a 2 (cond b (cond c 6 0) 0) < 2 ^ 64
    go true p b c u h l = let x = (plain_words_lem s at (number_words s m at j p).1).1 in omega arith
    go false p true true u h l = let x = (plain_words_lem s (at + 4) (number_words s m (at + 4) (j + 3) (pair_second s m at j u)).1).1 in omega arith
    go false p true false u h l = absurd (omega arith)
    go false p false c u h l = absurd (omega arith)

-- What fits at once.
plain_ends : (s m : List ℤ) (at j d : ℕ) → 0 < plain_words s at m j d → (0 < d) → Ok (at + plain_words s at m j d) ≡ fit_from s m (d - 1) j at
unfolding plain_words
plain_ends s m at j d = go (number_fits s at m j) refl (ltb 1 d) refl (pair_fits s at m j) refl
  where
    go : (a : Bool) → number_fits s at m j ≡ a → (b : Bool) → ltb 1 d ≡ b → (c : Bool) → pair_fits s at m j ≡ c → 0 < cond a 2 (cond b (cond c 6 0) 0) → 0 < d
        → Ok (at + cond a 2 (cond b (cond c 6 0) 0)) ≡ fit_from s m (d - 1) j at
    go true p b q c u h l = number_end s m at j (d - 1) p
    go false p true q true u h l = let v = ltb-true 1 d q in let z : d - 1 ≡ suc (d - 2) = omega arith in rw z (pair_end s m at j (d - 2) u)
    go false p true q false u h l = absurd (omega arith)
    go false p false q c u h l = absurd (omega arith)

-- What `ok_or` handed on.
pub told_some : (o : Option ℕ) (i : ℕ) (r : Result ℕ ℕ) → r ≡ ok_or o i → (x : ℕ) → r ≡ Ok x → o ≡ Some x
told_some None i r e x w = cc
told_some (Some y) i r e x w = cc

-- ---- The elements or parts; v is what those from the i-th on are to give.

module _ (s m : List ℤ) (d k n i j e : ℕ) (v : Result ℕ ℕ) (x : v ≡ in_each (fit_from s m d) (next_member m k) (n - i) j e) where
  pub loop_out : n ≤ i → Ok e ≡ v
  unfolding in_each
  loop_out h = let z : n - i ≡ 0 = omega arith in sym (x ∙ rw z)

  module _ (h : i < n) where
    each_on : v ≡ onward (fit_from s m d j e) (in_each (fit_from s m d) (next_member m k) (n - (i + 1)) (next_member m k j))
    unfolding in_each
    each_on = x ∙ (let z : n - i ≡ suc (n - (i + 1)) = omega arith in rw z)

    pub loop_turn : (r : Result ℕ ℕ) → r ≡ fit_from s m d j e → (y : ℕ) → r ≡ Ok y → (l : ℕ) → l ≡ next_member m k j
        → v ≡ in_each (fit_from s m d) (next_member m k) (n - (i + 1)) l y
    unfolding onward
    loop_turn r q y w l z = each_on ∙ rw (← q, w, z)

    pub loop_plain : (c : ℕ) → d ≡ c - 1 → (c ≡ 0 → ⊥) → (w : ℕ) → w ≡ plain_words s e m j c → 0 < w → (l : ℕ) → l ≡ next_member m k j
        → v ≡ in_each (fit_from s m d) (next_member m k) (n - (i + 1)) l (e + w)
    loop_plain c p z w q y l r =
        let t = plain_ends s m e j c (rw (← q) y) (omega arith) in
        let u : Ok (e + w) ≡ fit_from s m d j e = rw (q, p) t in
        loop_turn (Ok (e + w)) u (e + w) refl l r

    pub loop_bad : (r : Result ℕ ℕ) → r ≡ fit_from s m d j e → (p : ℕ) → r ≡ Err p → Err p ≡ v
    unfolding onward
    loop_bad r q p w = sym (each_on ∙ rw (← q, w))

-- ---- Bounds.

module _ (k t : ℕ) (b : Bool) (h : b ≡ opens_at k t) (y : not b ≡ false) where
  pub next_i : (m : List ℤ) (i : ℕ) → k ≡ tag_at m i → length m < 2 ^ 64 → i + 1 < 18446744073709551616
  next_i m i e l =
      let o = (opened_low k t (sym h ∙ not-false b y)).0 in
      let x = signed.within m i k e (omega arith) in
      omega arith

  pub next_at : (s : List ℤ) (at : ℕ) → t ≡ tag_at s at → length s < 2 ^ 64 → Fits w64 (at + 1)
  next_at s at e l =
      let o = (opened_low k t (sym h ∙ not-false b y)).1 in
      let x = signed.within s at t e (omega arith) in
      record { fits = omega arith }

pub next_2 : (s m : List ℤ) (at i k n j : ℕ) → n ≡ tag_at s (at + 1) → (a : Option ℕ) → a ≡ members_of m i k n → a ≡ Some j → length s < 2 ^ 64 → Fits w64 (at + 2)
next_2 s m at i k n j e a w x l = let o = members_most m i k n j (sym w ∙ x) in next_two s at n e (omega arith) l

pub plain_next : (s m : List ℤ) (e j d w : ℕ) → w ≡ plain_words s e m j d → 0 < w → length s < 2 ^ 64 → Fits w64 (e + w)
plain_next s m e j d w q h l = record { fits = rw q (plain_within s m e j d (rw (← q) h) l) }

pub ruleset own_rules = (ret_something, ret_under, ret_closed, ret_deep, ret_unfit, loop_in, loop_out, loop_turn, loop_plain, loop_bad, next_i, next_at, next_2, plain_next, depth_pos, depth_less, rules)
