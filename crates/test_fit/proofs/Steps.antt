-- Test 4 by the word at the place, over a stack that an array holds, as the code asks it. Assumes nothing.
use mathlib.Core.Path.{◌≡◌, refl, sym, ◌∙◌, ap, subst}
use mathlib.Core.Bool.{Bool, true, false, cond, ◌&&◌}
use mathlib.Core.List.{List, [], ◌∷◌, ◌++◌}
use Prim.Native.Nat.{ℕ, zero, suc, ◌+◌, ◌*◌, ◌-◌, ◌<◌, ◌≤◌}
use native.Mathlib.Numerals.{add-one}
use native.Mathlib.Omega.{arith}
use borrow.Author.Tests.{le-leb, lt-leb, eqb-true, eqb-false}
use lib.Dec.{eqb}
use lib.ListN.{length, get_or, take, drop, set, length-set, length-take, drop_of_length-le}
use lib.Seq.{drop-cons, get_or-drop}
use lib.IntN.{ℤ, negsuc}
use Rattle.std.specs.Prelude.{Result, Ok, Err, Option, Some, None}
use Rattle.rules.specs.Reading.{pattern_tags}
use Rattle.words.specs.Words.{tag_z, tag_at}
use Rattle.test_forms.specs.Ends.{within}
use Rattle.matchers.specs.Places.{matcher_end}
use Rattle.test_fit.specs.Shapes.{width_fits}
use Rattle.test_forms.specs.Table.{taken_of, row_in, row_of}
use Rattle.test_fit.specs.Fitting.{members_at, value_fits, by_parts, first_of, tuple_at, asked, here_of, here_at, unlike, here_in, here_in_at, by_here, fit_p, fit_of, pushed}
use Rattle.test_fit.specs.declared.Here.{Here}
use Rattle.test_fit.specs.declared.Here.TheVariants.{Leaf, Bind, One, Parts, Wide}
use Rattle.test_forms.specs.declared.table.Row.{Row}
use Rattle.test_forms.specs.declared.table.Row.TheVariants as row
use Rattle.test_forms.proofs.Turns.{width_most}
use Rattle.test_forms.proofs.table.Laws.{few_operands}
use Rattle.test_fit.specs.Following.{start, top, popped, one_more, members_more, follows, Room}
use Rattle.test_fit.specs.declared.waiting.Waiting.{Waiting}
use Rattle.test_fit.proofs.Stack.{stack_of, stack_one, take_more, length_pushed, stack_pushed}

-- ---- What follows a tag.

word_drop : (p : List ℤ) (j i x : ℕ) → j + i ≡ x → get_or (drop j p) i (negsuc 0) ≡ get_or p x (negsuc 0)
word_drop p j i x e = get_or-drop j p i (negsuc 0) ∙ ap (λ (k : ℕ). get_or p k (negsuc 0)) e

module _ (firsts : Bool) (m p : List ℤ) (at : ℕ) (h : at < length p) where
  skips : (st under : List ℕ) (o : ℕ) → 0 < o → fit_p firsts m st under o at (drop at p) ≡ fit_p firsts m st under (o - 1) (at + 1) (drop (at + 1) p)
  unfolding fit_p
  skips st under zero q = absurd (omega arith)
  skips st under (suc o) q = let r : suc o - 1 ≡ o = omega arith in rw (r, add-one at, drop-cons p at (negsuc 0) h)

  spare : (a under : List ℕ) (n o : ℕ) → n ≡ 0 → o ≤ 0 → fit_p firsts m (stack_of a n) under o at (drop at p) ≡ Err at
  unfolding fit_p stack_of
  spare a under zero zero e q = rw (drop-cons p at (negsuc 0) h)
  spare a under (suc n) zero e q = absurd (omega arith)
  spare a under n (suc o) e q = absurd (omega arith)

  steps : (a under : List ℕ) (n o : ℕ) → (n ≡ 0 → ⊥) → o ≤ 0 → (r : Option Here) → r ≡ here_in_at firsts m (get_or a (n - 1) 0) p at under
      → fit_p firsts m (stack_of a n) under o at (drop at p)
      ≡ by_here r
      (Err at)
      (λ b. fit_p firsts m (stack_of a (n - 1)) under b (at + 1) (drop (at + 1) p))
      (λ b. fit_p firsts m (stack_of a (n - 1)) (under ++ (get_or a (n - 1) 0 ∷ [])) b (at + 1) (drop (at + 1) p))
      (fit_p firsts m (get_or a (n - 1) 0 ∷ stack_of a (n - 1)) under 0 (at + 1) (drop (at + 1) p))
      (λ f. fit_p firsts m (f ∷ get_or a (n - 1) 0 ∷ stack_of a (n - 1)) under 0 (at + 1) (drop (at + 1) p))
      (λ f k. fit_p firsts m (members_at m k f ++ stack_of a (n - 1)) under 1 (at + 1) (drop (at + 1) p))
  unfolding fit_p stack_of here_in_at tag_at
  steps a under zero o z q r e = absurd (z refl)
  steps a under (suc n) (suc o) z q r e = absurd (omega arith)
  steps a under (suc n) zero z q r e =
      let y : suc n - 1 ≡ n = omega arith in
      rw (
        e,
        y,
        drop-cons p at (negsuc 0) h,
        word_drop p (suc at) 0 (at + 1) (omega arith),
        word_drop p (suc at) 1 (at + 2) (omega arith),
        add-one at,
      )

over : (firsts : Bool) (m p : List ℤ) (st under : List ℕ) (at o : ℕ) → length p ≤ at → fit_p firsts m st under o at (drop at p) ≡ Ok tt
unfolding fit_p
over firsts m p st under at o h = rw (drop_of_length-le p h)

-- ---- The length.

pub ret_long : (firsts : Bool) (m p : List ℤ) → 256 < length p → Err 256 ≡ fit_of firsts m p
unfolding fit_of
ret_long firsts m p l = rw (lt-leb (length p) 256 l)

in_time : (firsts : Bool) (m p : List ℤ) (v : Result (Unit {0}) ℕ) → length p ≤ 256 → v ≡ fit_p firsts m (0 ∷ []) [] 0 0 p → v ≡ fit_of firsts m p
unfolding fit_of
in_time firsts m p v l e = rw (le-leb (length p) 256 l) e

-- ---- Bounds: what a tag skips, and how wide a tuple is.

Bounded : Here → Type 0
Bounded (Leaf o) = o ≤ 2
Bounded (Bind o) = o ≡ 1
Bounded One = Unit {0}
Bounded (Parts f) = Unit {0}
Bounded (Wide f k) = k ≤ 4

Asks : Option Here → Type 0
Asks None = Unit {0}
Asks (Some r) = Bounded r

one_operand : (k t o b : ℕ) (f : Bool) → t ≡ 1 → Some (row.Known o b f) ≡ row_of k t → o ≡ 1
unfolding row_of row_in pattern_tags
one_operand k t o b f h e = let q : Some (row.Known o b f) ≡ Some (row.Known 1 0 (taken_of k 1)) = rw h at e in cc

asks : (m : List ℤ) (i : ℕ) (p : List ℤ) (at : ℕ) (under : List ℕ) → Asks (here_at m i p at under)
unfolding here_at here_of asked Asks Bounded by_parts tuple_at width_fits
asks m i p at under = go (tag_at p at) (row_of (tag_at m i) (tag_at p at)) refl
  where
    by_parts_lem : (n o f : ℕ) → o ≤ 2 → Bounded (by_parts n o f)
    by_parts_lem zero o f h = h
    by_parts_lem (suc zero) o f h = tt
    by_parts_lem (suc (suc n)) o f h = tt

    by_one : (t o b : ℕ) (c : Bool) → eqb t 1 ≡ c → (eqb t 1 ≡ true → o ≡ 1) → o ≤ 2 → Bounded (cond c (Bind o) (by_parts b o (first_of t i)))
    by_one t o b true q h l = h q
    by_one t o b false q h l = by_parts_lem b o (first_of t i) l

    by_stands : (t o b : ℕ) (c : Bool) → (eqb t 1 ≡ true → o ≡ 1) → o ≤ 2 → Asks (cond c (Some (cond (eqb t 1) (Bind o) (by_parts b o (first_of t i)))) None)
    by_stands t o b true h l = by_one t o b (eqb t 1) refl h l
    by_stands t o b false h l = tt

    by_width : (k n : ℕ) (c : Bool) → eqb k n ≡ c → Asks (cond (cond c (within 2 k 4) false) (Some (Wide (i + 2) n)) None)
    by_width k n true q = wider (within 2 k 4) refl
      where
        wider : (c : Bool) → within 2 k 4 ≡ c → Asks (cond c (Some (Wide (i + 2) n)) None)
        wider true e = let l = (width_most k e).1 in let h = eqb-true k n q in omega arith
        wider false e = tt
    by_width k n false q = tt

    go : (t : ℕ) (r : Option Row) → r ≡ row_of (tag_at m i) t → Asks (asked m i under t (get_or p (at + 1) (negsuc 0)) (get_or p (at + 2) (negsuc 0)) r)
    go t None e = tt
    go t (Some (row.Known o b f)) e =
        by_stands t o b (f && cond (eqb t 3) (value_fits m i under (get_or p (at + 1) (negsuc 0)) (get_or p (at + 2) (negsuc 0))) true)
        (λ h. one_operand (tag_at m i) t o b f (eqb-true t 1 h) e)
        (few_operands (tag_at m i) t (Some (row.Known o b f)) e o b f refl)
    go t (Some (row.Wide false)) e = tt
    go t (Some (row.Wide true)) e = by_width (tag_at m (i + 1)) (tag_z (get_or p (at + 1) (negsuc 0))) (eqb (tag_at m (i + 1)) (tag_z (get_or p (at + 1) (negsuc 0)))) refl

asks_in : (firsts : Bool) (m : List ℤ) (i : ℕ) (p : List ℤ) (at : ℕ) (under : List ℕ) → Asks (here_in_at firsts m i p at under)
unfolding here_in_at here_in here_at Asks
asks_in firsts m i p at under = go (unlike firsts m i (tag_at p at))
  where
    go : (b : Bool) → Asks (cond b None (here_at m i p at under))
    go true = tt
    go false = asks m i p at under

-- ---- The loop.

-- What is left to read decides; the bounds of the stack and of the variables.
pub record Going (firsts : Bool) (m p : List ℤ) (w : Waiting) (at : ℕ) : Type 0 where
  pub same : fit_p firsts m (0 ∷ []) [] 0 0 p ≡ fit_p firsts m (stack_of w.stack w.matchers) (take w.bound w.under) w.skip at (drop at p)
  pub few : 2 * w.matchers ≤ 3 * (at + w.skip) + 2
  pub fewer : 2 * w.bound ≤ at + w.skip
  pub skipped : w.skip ≤ 2
  pub stack : length w.stack ≡ 386
  pub under : length w.under ≡ 128

pub starts : (firsts : Bool) (m p : List ℤ) (w : Waiting) → w ≡ start → Going firsts m p w 0
unfolding start stack_of
starts firsts m p w q = subst (λ v. Going firsts m p v 0) (sym q) (record {
  same = refl;
  few = omega arith;
  fewer = omega arith;
  skipped = omega arith;
  stack = refl;
  under = refl;
})

top_none : (w : Waiting) → top w ≡ None → w.matchers ≡ 0
unfolding top
top_none w e = go (eqb w.matchers 0) refl e
  where
    go : (b : Bool) → eqb w.matchers 0 ≡ b → cond b None (Some (get_or w.stack (w.matchers - 1) 0)) ≡ None → w.matchers ≡ 0
    go true h e = eqb-true w.matchers 0 h
    go false h e = cc

top_some : (w : Waiting) (i : ℕ) → top w ≡ Some i → (w.matchers ≡ 0 → ⊥) × (get_or w.stack (w.matchers - 1) 0 ≡ i)
unfolding top
top_some w i e = go (eqb w.matchers 0) refl e
  where
    go : (b : Bool) → eqb w.matchers 0 ≡ b → cond b None (Some (get_or w.stack (w.matchers - 1) 0)) ≡ Some i → (w.matchers ≡ 0 → ⊥) × (get_or w.stack (w.matchers - 1) 0 ≡ i)
    go true h e = cc
    go false h e = (eqb-false w.matchers 0 h, cc)

module _ (firsts : Bool) (m p : List ℤ) (w : Waiting) (at : ℕ) (G : Going firsts m p w at) where
  pub ret_end : length p ≤ 256 → length p ≤ at → Ok tt ≡ fit_of firsts m p
  ret_end l h = in_time firsts m p _ l (sym (G.same ∙ over firsts m p (stack_of w.stack w.matchers) (take w.bound w.under) at w.skip h))

  pub going_skip : at < length p → 0 < w.skip → Going firsts m p (record w { skip = w.skip - 1 }) (at + 1)
  going_skip h q = record {
    same = G.same ∙ skips firsts m p at h (stack_of w.stack w.matchers) (take w.bound w.under) w.skip q;
    few = let k = G.few in omega arith;
    fewer = let k = G.fewer in omega arith;
    skipped = let k = G.skipped in omega arith;
    stack = G.stack;
    under = G.under;
  }

  module _ (l : length p ≤ 256) (h : at < length p) (q : w.skip ≤ 0) where
    pub ret_spare : top w ≡ None → Err at ≡ fit_of firsts m p
    ret_spare t = in_time firsts m p _ l (sym (G.same ∙ spare firsts m p at h w.stack (take w.bound w.under) w.matchers w.skip (top_none w t) q))

    module _ (i : ℕ) (t : top w ≡ Some i) where
      z : w.matchers ≡ 0 → ⊥
      z = (top_some w i t).0

      step : (r : Option Here) → r ≡ here_in_at firsts m i p at (take w.bound w.under) → fit_p firsts m (0 ∷ []) [] 0 0 p ≡ by_here r
          (Err at)
          (λ b. fit_p firsts m (stack_of w.stack (w.matchers - 1)) (take w.bound w.under) b (at + 1) (drop (at + 1) p))
          (λ b. fit_p firsts m (stack_of w.stack (w.matchers - 1)) (take w.bound w.under ++ (i ∷ [])) b (at + 1) (drop (at + 1) p))
          (fit_p firsts m (i ∷ stack_of w.stack (w.matchers - 1)) (take w.bound w.under) 0 (at + 1) (drop (at + 1) p))
          (λ f. fit_p firsts m (f ∷ i ∷ stack_of w.stack (w.matchers - 1)) (take w.bound w.under) 0 (at + 1) (drop (at + 1) p))
          (λ f k. fit_p firsts m (members_at m k f ++ stack_of w.stack (w.matchers - 1)) (take w.bound w.under) 1 (at + 1) (drop (at + 1) p))
      step r e =
          let g = (top_some w i t).1 in
          rw (← g) (G.same ∙ steps firsts m p at h w.stack (take w.bound w.under) w.matchers w.skip z q r (rw g e))

      -- Nothing is skipped yet.
      at_once : (st under : List ℕ) → fit_p firsts m st under 0 (at + 1) (drop (at + 1) p) ≡ fit_p firsts m st under w.skip (at + 1) (drop (at + 1) p)
      at_once st under = let y : w.skip ≡ 0 = omega arith in rw y

      -- v is what is left without the matcher on top.
      module _ (v : Waiting) (o : v ≡ popped w) (r : Option Here) (x : r ≡ here_in_at firsts m i p at (take v.bound v.under)) where
        e : r ≡ here_in_at firsts m i p at (take w.bound w.under)
        unfolding popped
        e = x ∙ ap (λ (y : Waiting). here_in_at firsts m i p at (take y.bound y.under)) o

        pub ret_misfit : r ≡ None → Err at ≡ fit_of firsts m p
        unfolding by_here
        ret_misfit f = in_time firsts m p _ l (sym (step r e ∙ rw f))

        bounded : (a : Here) → r ≡ Some a → Bounded a
        unfolding Asks
        bounded a f = rw (sym e ∙ f) at (asks_in firsts m i p at (take w.bound w.under))

        room : (a : Here) → r ≡ Some a → Room a (popped w)
        unfolding Bounded Room popped
        room a f = go a (bounded a f)
          where
            go : (a : Here) → Bounded a → Room a (popped w)
            go (Leaf o) k = tt
            go (Bind o) k = let i = G.fewer in omega arith
            go One k = let i = G.few in omega arith
            go (Parts f) k = let i = G.few in omega arith
            go (Wide f n) k = let i = G.few in omega arith

        pub follow_room : (a : Here) → r ≡ Some a → Room a v
        follow_room a f = rw o (room a f)

        goes_on : (a : Here) → r ≡ Some a → Going firsts m p (follows m a i (popped w)) (at + 1)
        unfolding Bounded Room follows popped one_more members_more by_here stack_of
        goes_on a f = go a f (bounded a f) (room a f)
          where
            go : (a : Here) → r ≡ Some a → Bounded a → Room a (popped w) → Going firsts m p (follows m a i (popped w)) (at + 1)
            go (Leaf o) f k b = record {
              same = step (Some (Leaf o)) (sym f ∙ e);
              few = let i = G.few in omega arith;
              fewer = let i = G.fewer in omega arith;
              skipped = k;
              stack = G.stack;
              under = G.under;
            }
            go (Bind o) f k b = record {
              same = rw (take_more w.under w.bound i (let j = G.under in omega arith)) (step (Some (Bind o)) (sym f ∙ e));
              few = let i = G.few in omega arith;
              fewer = let i = G.fewer in omega arith;
              skipped = omega arith;
              stack = G.stack;
              under = simp length-set G.under;
            }
            go One f k b = record {
              same = rw (stack_one w.stack (w.matchers - 1) i (let j = G.stack in omega arith)) (step (Some One) (sym f ∙ e) ∙ at_once _ _);
              few = let i = G.few in omega arith;
              fewer = let i = G.fewer in omega arith;
              skipped = G.skipped;
              stack = simp length-set G.stack;
              under = G.under;
            }
            go (Parts x) f k b = record {
              same = rw (
                stack_one (set w.stack (w.matchers - 1) i) (w.matchers - 1 + 1) x (let j = G.stack in simp length-set (omega arith)),
                stack_one w.stack (w.matchers - 1) i (let j = G.stack in omega arith),
              )
                  (step (Some (Parts x)) (sym f ∙ e) ∙ at_once _ _);
              few = let i = G.few in omega arith;
              fewer = let i = G.fewer in omega arith;
              skipped = G.skipped;
              stack = simp length-set G.stack;
              under = G.under;
            }
            go (Wide x n) f k b = record {
              same = rw (stack_pushed m (w.matchers - 1) w.stack n x (let j = G.stack in omega arith)) (step (Some (Wide x n)) (sym f ∙ e));
              few = let i = G.few in omega arith;
              fewer = let i = G.fewer in omega arith;
              skipped = omega arith;
              stack = length_pushed m (w.matchers - 1) w.stack n x ∙ G.stack;
              under = G.under;
            }

        pub going_follow : (a : Here) → r ≡ Some a → (u : Waiting) → u ≡ follows m a i v → Going firsts m p u (at + 1)
        going_follow a f u d = rw (d, o) (goes_on a f)

-- The arrays keep their lengths, and what is bound is in them.
module _ (firsts : Bool) (m p : List ℤ) (w : Waiting) (at : ℕ) (G : Going firsts m p w at) (l : length p ≤ 256) (h : at < length p) (v : Waiting) (o : v ≡ popped w) where
  pub bound_most : v.bound ≤ 128
  unfolding popped
  bound_most = rw o (let k = G.fewer in let j = G.skipped in omega arith)

  pub under_most : length (take v.bound v.under) ≤ 128
  under_most = rw length-take (let k = bound_most in omega arith)

  pub lengths : (length v.stack ≡ 386) × (length v.under ≡ 128)
  unfolding popped
  lengths = rw o (G.stack, G.under)

-- ---- Storing the members.

module _ (m : List ℤ) (a : List ℕ) (n k i : ℕ) (v : List ℕ) (e : v ≡ pushed m a n k i) where
  pub push_out : k ≤ 0 → v ≡ a
  unfolding pushed
  push_out h = let z : k ≡ 0 = omega arith in e ∙ rw z

  pub push_turn : 0 < k → (j : ℕ) → j ≡ matcher_end m i → v ≡ pushed m (set a (n + (k - 1)) i) n (k - 1) j
  unfolding pushed
  push_turn h j q = let z : k ≡ suc (k - 1) = omega arith in e ∙ go k h ∙ rw q
    where
      go : (x : ℕ) → 0 < x → pushed m a n x i ≡ pushed m (set a (n + (x - 1)) i) n (x - 1) (matcher_end m i)
      go zero l = absurd (omega arith)
      go (suc x) l = let y : suc x - 1 ≡ x = omega arith in rw y

-- The first entries that are left of k are to be stored in v, which has the others of what is to come of w.
pub record Stored (m : List ℤ) (w v : Waiting) (i k left e : ℕ) : Type 0 where
  pub same : pushed m w.stack w.matchers k i ≡ pushed m v.stack w.matchers left e
  pub stack : length v.stack ≡ 386
  pub rest : v ≡ record w { stack = v.stack }

module _ (m : List ℤ) (w v : Waiting) (i k left e : ℕ) (S : Stored m w v i k left e) where
  pub stored_turn : 0 < left → (j : ℕ) → j ≡ matcher_end m e → Stored m w (record v { stack = set v.stack (v.matchers + (left - 1)) e }) i k (left - 1) j
  stored_turn h j q =
      let n : v.matchers ≡ w.matchers = ap (λ (x : Waiting). x.matchers) S.rest in
      record {
        same = rw n (push_turn m v.stack w.matchers left e _ S.same h j q);
        stack = simp length-set S.stack;
        rest = ap (λ (x : Waiting). record x { stack = set v.stack (v.matchers + (left - 1)) e }) S.rest;
      }

  pub stored_all : left ≤ 0 → record v { matchers = v.matchers + k } ≡ members_more m i k w
  unfolding members_more
  stored_all h =
      ap (λ (x : Waiting). record x { matchers = x.matchers + k }) S.rest
      ∙ ap (λ (a : List ℕ). record w { stack = a; matchers = w.matchers + k }) (sym (S.same ∙ push_out m v.stack w.matchers left e _ refl h))
