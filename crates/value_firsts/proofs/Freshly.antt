-- A fresh place is a first place, whatever is left. Assumes nothing.
use Prim.Native.Nat.{ℕ, zero, suc, ◌+◌, ◌-◌, ◌/◌, ◌^◌, ◌<◌, ◌≤◌}
use mathlib.Core.Path.{◌≡◌, refl, sym, ◌∙◌, ap}
use mathlib.Core.Bool.{Bool, true, false}
use mathlib.Core.List.{List, map}
use mathlib.Core.Logic.{◌⊎◌, inl, inr, ⊎_elim}
use native.Mathlib.Omega.{arith}
use native.Mathlib.Nat.{pow-suc}
use lib.Pow.{pow_pos, pow_mono}
use lib.IntN.{ℤ}
use lib.Dec.{eqb}
use borrow.Author.Tests.{eqb-true, eqb-false}
use borrow.Author.Rules.{rules}
use mir.Syntax.{w32}
use mir.Val.{Fits}
use Rattle.rules.specs.Forms.{Value}
use Rattle.rules.specs.Equality.{equal}
use Rattle.rules.specs.Search.{any_equal}
use Rattle.words.specs.Words.{tag_at}
use Rattle.words.specs.Marks.{digit, clear, positions}
use Rattle.words.specs.Marked.{nth}
use Rattle.words.proofs.marks.Places.{by_digit_lem, half_lt, digit_le, positions_none}
use Rattle.matchers.specs.Places.{matcher_at}
use Rattle.value_places.specs.Places.{Target, Tag, value_at, elements, count_at, element_at}
use Rattle.value_places.specs.Held.{Held}
use Rattle.value_places.proofs.Elements.{element_tag, element_value}
use Rattle.value_equality.specs.Equality.{wholes_equal, integers_equal}
use Rattle.value_firsts.specs.Firsts.{before_of, before_at, kept_with, New, Fresh}
use Rattle.value_firsts.proofs.Differing.{map_map}
use Rattle.value_firsts.proofs.Laws.{values_integer}

-- ---- Digits.

-- A place is marked where marks are fewer without it.
pub cleared : (k m : ℕ) → clear k m < m → digit k m ≡ 1
unfolding clear digit
cleared zero m h = omega arith
cleared (suc k) m h = cleared k (m / 2) (omega arith)

no_digit : (k : ℕ) → digit k 0 ≡ 1 → ⊥
no_digit k e = let h = digit_le k 0 e in let p = pow_pos k in omega arith

-- One more mark, above the others.
more_digit : (k out : ℕ) → out < 2 ^ k → (j : ℕ) → digit j (out + 2 ^ k) ≡ 1 → (j ≡ k) ⊎ (digit j out ≡ 1)
unfolding digit
more_digit zero out l zero e = inl refl
more_digit zero out l (suc j) e = let z : (out + 1) / 2 ≡ 0 = omega arith in absurd (no_digit j (rw z at e))
more_digit (suc k) out l zero e = let p = pow-suc 2 k in inr (omega arith)
more_digit (suc k) out l (suc j) e =
    let p = pow-suc 2 k in
    let z : (out + 2 ^ suc k) / 2 ≡ out / 2 + 2 ^ k = omega arith in
    ⊎_elim (λ q. inl (ap suc q)) (λ q. inr q) (more_digit k (out / 2) (omega arith) j (rw z at e))

-- ---- None before.

none_before : (eq : Value → Value → Bool) (n m k : ℕ) (g : ℕ → Value) (v : Value) → m < 2 ^ k → ((j : ℕ) → j < k → eq (g j) v ≡ false) → any_equal eq (map g (positions n m)) v ≡ false
unfolding positions any_equal
none_before eq zero m k g v l h = refl
none_before eq (suc n) m zero g v l h = let z : m ≡ 0 = omega arith in rw (z, positions_none n)
none_before eq (suc n) m (suc k) g v l h =
    let rec : any_equal eq (map (λ (j : ℕ). g (suc j)) (positions n (m / 2))) v ≡ false = none_before eq n (m / 2) k (λ j. g (suc j)) v (half_lt k m l) (λ j u. h (suc j) (omega arith)) in
    by_digit_lem _ m (λ e. rw (e, map_map g suc (positions n (m / 2))) rec) (λ e. rw (e, map_map g suc (positions n (m / 2)), h 0 (omega arith)) rec)

module _ (mt : List ℤ) (i : ℕ) (s : List ℤ) (at : ℕ) where
  pub seen_fresh : (f k m c : ℕ) → Target s → Held s at m → k < count_at s at → m < 2 ^ k → Fresh mt i s at f → c ≡ clear k f → c < f → false ≡ before_at mt i s at m k
  unfolding before_at before_of wholes_equal
  seen_fresh f k m c g w u l r e h =
      sym (none_before (equal (matcher_at mt i)) 64 m k (nth (elements (value_at s at))) (nth (elements (value_at s at)) k) l
      (λ j v. rw (← element_value s at j g w.tag (omega arith), ← element_value s at k g w.tag u) ((r.new k (cleared k f (rw e at h))).none j v)))

  pub fresh_none : (f : ℕ) → f ≡ 0 → Fresh mt i s at f
  fresh_none f z = record { new = λ k e. absurd (no_digit k (rw z at e)) }

  -- ---- One element after the other.

  pub new_none : (k : ℕ) → New mt i s at k 0
  new_none k = record { none = λ j h. absurd (omega arith) }

  pub new_more : (k n e f : ℕ) (r : Bool) → New mt i s at k n → e ≡ element_at s at k → f ≡ element_at s at n → r ≡ wholes_equal mt i s f e → r ≡ false → New mt i s at k (n + 1)
  new_more k n e f r h p q d b = record { none = λ j l. go j (eqb j n) refl l }
    where
      here : wholes_equal mt i s (element_at s at n) (element_at s at k) ≡ false
      here = rw (← p, ← q) (sym d ∙ b)

      go : (j : ℕ) (c : Bool) → eqb j n ≡ c → j < n + 1 → wholes_equal mt i s (element_at s at j) (element_at s at k) ≡ false
      go j true y l = rw (eqb-true j n y) here
      go j false y l = h.none j (omega (arith, eqb-false j n y))

  pub fresh_kept : (out k r : ℕ) (b : Bool) → Fresh mt i s at out → out < 2 ^ k → (b ≡ false → New mt i s at k k) → r ≡ kept_with out k b → Fresh mt i s at r
  unfolding kept_with
  fresh_kept out k r true h l n e = rw e h
  fresh_kept out k r false h l n e = rw e (record { new = λ j d. ⊎_elim (λ z. rw z (n refl)) (λ z. h.new j z) (more_digit k out l j d) })

  pub fresh_zero : Fresh mt i s at 0
  fresh_zero = fresh_none 0 refl

-- ---- As the code asks for it.

pub less_in : (j k n : ℕ) → j < k → k < n → j < n
less_in j k n h l = omega arith

pub tag_at_lem : (s : List ℤ) (at k e : ℕ) → Target s → Tag s at → k < count_at s at → e ≡ element_at s at k → Tag s e
tag_at_lem s at k e g w u q = rw q (element_tag s at k g w u)

pub not_so : {A : Type 0} → true ≡ false → A
not_so e = let w : ◌≡◌ {A = ℕ} 0 1 = cc in absurd (omega arith)

pub next_le : (j k : ℕ) → j < k → j + 1 ≤ k
next_le j k h = omega arith

pub next_fits : (j k : ℕ) → j < k → k < 2 ^ 32 → Fits w32 (j + 1)
next_fits j k h l = record { fits = omega arith }

pub next_less : (j k : ℕ) → j < k → k - (j + 1) < k - j
next_less j k h = omega arith

pub new_all : (mt : List ℤ) (i : ℕ) (s : List ℤ) (at k n : ℕ) → New mt i s at k n → k ≤ n → New mt i s at k k
new_all mt i s at k n h l = record { none = λ j u. h.none j (omega arith) }

module _ (s : List ℤ) (at k n : ℕ) (g : Target s) (w : Tag s at) (e : n ≡ count_at s at) (h : k < n) where
  pub kept_64 : k < 64
  kept_64 = omega (arith, g.small at w)

  pub kept_in_lem : k < count_at s at
  kept_in_lem = omega arith

  pub kept_fits : (out : ℕ) → out < 2 ^ k → out + 2 ^ k < 2 ^ 64
  kept_fits out l = let p = pow-suc 2 k in let q = pow_mono {i = suc k} {j = 64} kept_64 in omega arith

pub kept_less : (out k r : ℕ) (b : Bool) → out < 2 ^ k → r ≡ kept_with out k b → r < 2 ^ (k + 1)
unfolding kept_with
kept_less out k r true l e = let p = pow-suc 2 k in let z : k + 1 ≡ suc k = omega arith in rw (z, e) (omega arith)
kept_less out k r false l e = let p = pow-suc 2 k in let z : k + 1 ≡ suc k = omega arith in rw (z, e) (omega arith)

pub none_less : 0 < 2 ^ 0
none_less = omega arith

pub number_more : (mt : List ℤ) (i : ℕ) (s : List ℤ) (at k n e f : ℕ) (r : Bool) → tag_at mt i ≡ 1 → New mt i s at k n → e ≡ element_at s at k → f ≡ element_at s at n → r ≡ integers_equal s f e → r ≡ false
    → New mt i s at k (n + 1)
number_more mt i s at k n e f r t h p q d b = new_more mt i s at k n e f r h p q (values_integer mt i s f e (tag_at mt i) r refl t d) b

pub tag_is : (mt : List ℤ) (i t : ℕ) → t ≡ tag_at mt i → t ≡ 1 → tag_at mt i ≡ 1
tag_is mt i t e h = sym e ∙ h

pub ruleset number_rules = (less_in, tag_at_lem, not_so, next_le, next_fits, next_less, new_none, number_more, new_all, rules)

pub ruleset old_rules = (tag_is, rules)

pub ruleset fresh_rules = (kept_64, kept_in_lem, kept_fits, kept_less, none_less, next_le, next_fits, next_less, fresh_zero, fresh_kept, rules)
