-- A value that fits a matcher, without the places of section 2's test; what a cons or a join takes out of it fits too, and so do a tuple's parts.
use Rattle.std.specs.Prelude.{ℕ, ◌+◌, ◌≡◌, eqb}
use Rattle.std.proofs.Common.{arith, suc-ne-zero, sym, subst, eqb→eq}
use mathlib.Core.List.Memᴰ
use Rattle.rules.specs.Forms.{Matcher, something, integer, list, multiset, tuple_of, Matchers, no_matchers, ◌▸ᵐ◌, countᵐ}
use Rattle.rules.specs.Forms.{Value, int, collection, tupled, Values, empty, ◌▸◌, count, size}
use Rattle.rules.specs.Reading.{Verdict, ok, fault}
use Rattle.rules.specs.Variables.{demand}
use Rattle.rules.specs.Fit.{element, members, fits_all, fits_value, fits_each}
use Rattle.rules.specs.Origins.{Valueᵒ, intᵒ, collectionᵒ, tupledᵒ, Valuesᵒ, emptyᵒ, ◌▸ᵒ◌, plain, plain_all}
use Rattle.rules.specs.Search.{takings, cuts, Halves, cons_halves, join_halves}
use Rattle.forms.specs.Lists.{Mem}
use Rattle.forms.specs.Readers.{then_ok}
use Rattle.forms.specs.Numbering.{demand_ok}
use Rattle.promises.specs.Parts.{Among, none, kept, left, pick_among, cut_among}

-- P holds of every element.
unfoldable pub Every : (Value → Type 0) → Values → Type 0
Every P empty = Unit {0}
Every P (v ▸ vs) = P v × Every P vs

unfoldable mutual
  unfolding Every countᵐ count

  pub Suits : Matcher → Value → Type 0
  Suits something v = Unit {0}
  Suits integer (int x) = Unit {0}
  Suits integer (collection vs) = ⊥
  Suits integer (tupled vs) = ⊥
  Suits (list m) (int x) = ⊥
  Suits (list m) (collection vs) = Every (λ v. Suits m v) vs
  Suits (list m) (tupled vs) = ⊥
  Suits (multiset m) (int x) = ⊥
  Suits (multiset m) (collection vs) = Every (λ v. Suits m v) vs
  Suits (multiset m) (tupled vs) = ⊥
  Suits (tuple_of ms) (int x) = ⊥
  Suits (tuple_of ms) (collection vs) = ⊥
  Suits (tuple_of ms) (tupled vs) = (countᵐ ms ≡ count vs) × SuitsEach ms vs

  -- A part for each matcher.
  pub SuitsEach : Matchers → Values → Type 0
  SuitsEach no_matchers vs = Unit {0}
  SuitsEach (m ▸ᵐ ms) empty = ⊥
  SuitsEach (m ▸ᵐ ms) (v ▸ vs) = Suits m v × SuitsEach ms vs

-- ---- What passes section 2's test.

absurd_fault : {A B : Type 0} {i : ℕ} {a : A} → fault i ≡ ok a → B
absurd_fault e = let z : ◌≡◌ {A = ℕ} 0 1 = cc in absurd (suc-ne-zero 0 (sym z))

every_fits : (P : Value → Type 0) (f : Value → ℕ → Verdict (Unit {0})) → ((v : Value) (at : ℕ) → f v at ≡ ok tt → P v)
    → (vs : Values) (at : ℕ) → fits_all f vs at ≡ ok tt → Every P vs
unfolding fits_all Every
every_fits P f h empty at e = tt
every_fits P f h (v ▸ vs) at e =
    let t = then_ok (f v at) (λ _. fits_all f vs (at + size v)) tt e in (h v at t.1, every_fits P f h vs (at + size v) t.2)

mutual
  unfolding fits_value Suits countᵐ count

  pub fits_suits : (m : Matcher) (v : Value) (at : ℕ) → fits_value m v at ≡ ok tt → Suits m v
  fits_suits something v at e = tt
  fits_suits integer (int x) at e = tt
  fits_suits integer (collection vs) at e = absurd_fault e
  fits_suits integer (tupled vs) at e = absurd_fault e
  fits_suits (list m) (int x) at e = absurd_fault e
  fits_suits (list m) (collection vs) at e = every_fits (Suits m) (λ v i. fits_value m v i) (λ v i h. fits_suits m v i h) vs (at + 2) e
  fits_suits (list m) (tupled vs) at e = absurd_fault e
  fits_suits (multiset m) (int x) at e = absurd_fault e
  fits_suits (multiset m) (collection vs) at e = every_fits (Suits m) (λ v i. fits_value m v i) (λ v i h. fits_suits m v i h) vs (at + 2) e
  fits_suits (multiset m) (tupled vs) at e = absurd_fault e
  fits_suits (tuple_of ms) (int x) at e = absurd_fault e
  fits_suits (tuple_of ms) (collection vs) at e = absurd_fault e
  fits_suits (tuple_of ms) (tupled vs) at e =
      let t = then_ok (demand {A = Unit {0}} (eqb (countᵐ ms) (count vs)) at tt) (λ _. fits_each ms vs (at + 2)) tt e in
      let q = eqb→eq (countᵐ ms) (count vs) (demand_ok (eqb (countᵐ ms) (count vs)) at tt t.0 t.1).0 in
      (q, fits_each_lem ms vs (at + 2) q t.2)

  fits_each_lem : (ms : Matchers) (vs : Values) (at : ℕ) → countᵐ ms ≡ count vs → fits_each ms vs at ≡ ok tt → SuitsEach ms vs
  fits_each_lem no_matchers vs at q e = tt
  fits_each_lem (m ▸ᵐ ms) empty at q e = omega arith
  fits_each_lem (m ▸ᵐ ms) (v ▸ vs) at q e =
      let t = then_ok (fits_value m v at) (λ _. fits_each ms vs (at + size v)) tt e in
      (fits_suits m v at t.1, fits_each_lem ms vs (at + size v) (omega arith) t.2)

-- ---- The halves of a value that fits.

every_among : (P : Value → Type 0) {us vs : Valuesᵒ} → Among us vs → Every P (plain_all vs) → Every P (plain_all us)
unfolding Every plain_all
every_among P none h = tt
every_among P (kept a) h = (h.0, every_among P a h.1)
every_among P (left a) h = every_among P a h.1

pub cons_suits : (m : Matcher) (v : Valueᵒ) (h : Halves) → Mem h (cons_halves m v) → Suits m (plain v) → Suits (element m) (plain h.first) × Suits m (plain h.second)
unfolding cons_halves element Suits Every plain
cons_suits something v h i s = absurd (Memᴰ.not-nil i)
cons_suits integer v h i s = absurd (Memᴰ.not-nil i)
cons_suits (list m) (intᵒ o x) h i s = absurd s
cons_suits (list m) (collectionᵒ o emptyᵒ) h i s = absurd (Memᴰ.not-nil i)
cons_suits (list m) (collectionᵒ o (v ▸ᵒ vs)) h i s =
    subst (λ (h : Halves). Suits m (plain h.first) × Suits (list m) (plain h.second)) (sym (Memᴰ.eq_of_singleton i)) s
cons_suits (list m) (tupledᵒ o vs) h i s = absurd s
cons_suits (multiset m) (intᵒ o x) h i s = absurd s
cons_suits (multiset m) (collectionᵒ o vs) h i s =
    let r = Memᴰ.of_map _ (takings vs) i in let a = pick_among vs r.0 r.1 in
    subst (λ (h : Halves). Suits m (plain h.first) × Suits (multiset m) (plain h.second)) r.2 ((every_among (Suits m) a.0 s).0, every_among (Suits m) a.1 s)
cons_suits (multiset m) (tupledᵒ o vs) h i s = absurd s
cons_suits (tuple_of ms) v h i s = absurd (Memᴰ.not-nil i)

-- A join's two halves are such collections as the whole, whatever the matcher is of.
cut_suits : (m : Matcher) {us vs : Valuesᵒ} → Among us vs → Suits m (collection (plain_all vs)) → Suits m (collection (plain_all us))
unfolding Suits
cut_suits something a s = tt
cut_suits integer a s = s
cut_suits (list m) a s = every_among (Suits m) a s
cut_suits (multiset m) a s = every_among (Suits m) a s
cut_suits (tuple_of ms) a s = s

pub join_suits : (m : Matcher) (v : Valueᵒ) (h : Halves) → Mem h (join_halves v) → Suits m (plain v) → Suits m (plain h.first) × Suits m (plain h.second)
unfolding join_halves plain
join_suits m (intᵒ o x) h i s = absurd (Memᴰ.not-nil i)
join_suits m (collectionᵒ o vs) h i s =
    let r = Memᴰ.of_map _ (cuts vs) i in let a = cut_among vs r.0 r.1 in
    subst (λ (h : Halves). Suits m (plain h.first) × Suits m (plain h.second)) r.2 (cut_suits m a.0 s, cut_suits m a.1 s)
join_suits m (tupledᵒ o vs) h i s = absurd (Memᴰ.not-nil i)

-- The parts of a tuple that fits. (Under something a tuple has no matchers for its parts.)
pub tuple_suits : (m : Matcher) (vs : Values) → Suits m (tupled vs) → SuitsEach (members m) vs
unfolding Suits members
tuple_suits something vs s = tt
tuple_suits integer vs s = absurd s
tuple_suits (list m) vs s = absurd s
tuple_suits (multiset m) vs s = absurd s
tuple_suits (tuple_of ms) vs s = s.1
