-- Some of what is met, in its order; and that the choices which dialect 2 leaves out at a cons can be left out of it.
use Rattle.std.proofs.Common.{arith, sym, ap, ◌∙◌, inl}
use Rattle.std.specs.Prelude.{◌≡◌, Bool, true, false, ◌||◌, T}
use Rattle.std.proofs.Math.Path.{refl, subst}
use Rattle.std.proofs.Math.Logic.{⊎_elim}
use mathlib.Core.List.Memᴰ
use mathlib.Core.List.{List, [], ◌∷◌, ◌++◌, flat_map}
use Rattle.rules.specs.Forms.{Matcher, something, integer, list, multiset, tuple_of, Matchers, no_matchers, ◌▸ᵐ◌, countᵐ}
use Rattle.rules.specs.Forms.{Value, int, collection, tupled, Values, empty, ◌▸◌, count}
use Rattle.rules.specs.Origins.{Valueᵒ, intᵒ, collectionᵒ, tupledᵒ, plain, plain_all}
use Rattle.rules.specs.Dialects.{every_place, first_places}
use Rattle.rules.specs.Fit.{element, without_something, all_without_something, told_apart}
use Rattle.rules.specs.Equality.{in_order, equal, equal_parts}
use Rattle.rules.specs.Search.{Taking, takings, Halves, cons_halves, cons_halves_in, is_multiset, any_equal, differing}
use Rattle.forms.specs.Tests.{and_split, and_join}
use Rattle.forms.specs.Lists.{Mem}
use Rattle.forms.specs.Paired.{Paired, exchange}
use Rattle.forms.specs.Pairing.{equal_equiv, same_refl, paired_off_true, true_paired_off}
use Rattle.promises.specs.Trace.{Taken, Met, taken, ended, pass, only_if, close}
use Rattle.promises.specs.Suited.{Every, Suits, SuitsEach, cons_suits}
use Rattle.promises.specs.FirstPlaces.{Some, nothing, kept, left, firsts}
use Rattle.promises.specs.Alike.{ends, taking_ins}

-- ---- Some of what is met, in its order, up to the end of the search inside a not, which is met in both or in neither.

pub data Fewer : List Met → List Met → Type 0 where
  none : Fewer [] []
  stay : {t : Taken} {xs ys : List Met} → Fewer xs ys → Fewer (taken t ∷ xs) (taken t ∷ ys)
  skip : {t : Taken} {xs ys : List Met} → Fewer xs ys → Fewer xs (taken t ∷ ys)
  end : {xs ys : List Met} → Fewer (ended ∷ xs) (ended ∷ ys)

pub fewer_append : {xs ys us vs : List Met} → Fewer xs ys → Fewer us vs → Fewer (xs ++ us) (ys ++ vs)
fewer_append none g = g
fewer_append (stay f) g = stay (fewer_append f g)
fewer_append (skip f) g = skip (fewer_append f g)
fewer_append end g = end

-- After the end nothing matters.
fewer_ended : {xs ys : List Met} (us vs : List Met) → Fewer xs ys → T (ends ys) → Fewer (xs ++ us) (ys ++ vs)
unfolding ends
fewer_ended us vs none t = absurd t
fewer_ended us vs (stay f) t = stay (fewer_ended us vs f t)
fewer_ended us vs (skip f) t = skip (fewer_ended us vs f t)
fewer_ended us vs end t = end

-- What meets no end can be left out.
fewer_without : {us vs : List Met} (ys : List Met) → ends ys ≡ false → Fewer us vs → Fewer us (ys ++ vs)
unfolding ends
fewer_without [] e g = g
fewer_without (taken t ∷ ys) e g = skip (fewer_without ys e g)
fewer_without (ended ∷ ys) e g = absurd (subst T e tt)

pub fewer_only : (b : Bool) {xs ys : List Met} → Fewer xs ys → Fewer (only_if b xs) (only_if b ys)
unfolding only_if
fewer_only true f = f
fewer_only false f = none

pub fewer_leaf : (b : Bool) {xs ys : List Met} → Fewer xs ys
    → Fewer (elim b as (λ _. List Met) [ true ↦ xs | false ↦ pass ∷ xs ]) (elim b as (λ _. List Met) [ true ↦ ys | false ↦ pass ∷ ys ])
fewer_leaf true f = f
fewer_leaf false f = stay f

pub fewer_each : (f g : Halves → List Met) (hs : List Halves) → ((h : Halves) → Mem h hs → Fewer (f h) (g h)) → Fewer (flat_map f hs) (flat_map g hs)
unfolding flat_map
fewer_each f g [] F = none
fewer_each f g (h ∷ hs) F = fewer_append (F h (Memᴰ.head refl)) (fewer_each f g hs (λ x i. F x (Memᴰ.tail i)))

pub fewer_some : {xs ys : List Met} → Fewer xs ys → Some (close xs) (close ys)
unfolding close
fewer_some none = nothing
fewer_some (stay f) = kept (fewer_some f)
fewer_some (skip f) = left (fewer_some f)
fewer_some end = kept nothing

-- ---- A value is equal to itself under a matcher without something that it fits.

every_map : (P Q : Value → Type 0) → ((v : Value) → P v → Q v) → (vs : Values) → Every P vs → Every Q vs
unfolding Every
every_map P Q f empty h = tt
every_map P Q f (v ▸ vs) h = (f v h.0, every_map P Q f vs h.1)

in_order_itself : (E : Value → Value → Bool) (vs : Values) → Every (λ v. T (E v v)) vs → T (in_order E vs vs)
unfolding Every in_order
in_order_itself E empty h = tt
in_order_itself E (v ▸ vs) h = and_join (E v v) (in_order E vs vs) h.0 (in_order_itself E vs h.1)

paired_itself : (E : Value → Value → Bool) (vs : Values) → Every (λ v. T (E v v)) vs → Paired E vs vs
unfolding Every
paired_itself E empty h = tt
paired_itself E (v ▸ vs) h = (v, vs, h.0, inl (refl, refl), paired_itself E vs h.1)

mutual
  unfolding without_something all_without_something Suits SuitsEach equal equal_parts countᵐ count

  itself : (m : Matcher) (v : Value) → T (without_something m) → Suits m v → T (equal m v v)
  itself something v t s = absurd t
  itself integer (int x) t s = same_refl x
  itself integer (collection vs) t s = absurd s
  itself integer (tupled vs) t s = absurd s
  itself (list m) (int x) t s = absurd s
  itself (list m) (collection vs) t s = in_order_itself (equal m) vs (every_map (Suits m) (λ v. T (equal m v v)) (λ v h. itself m v t h) vs s)
  itself (list m) (tupled vs) t s = absurd s
  itself (multiset m) (int x) t s = absurd s
  itself (multiset m) (collection vs) t s =
      true_paired_off (equal m) vs vs (paired_itself (equal m) vs (every_map (Suits m) (λ v. T (equal m v v)) (λ v h. itself m v t h) vs s))
  itself (multiset m) (tupled vs) t s = absurd s
  itself (tuple_of ms) (int x) t s = absurd s
  itself (tuple_of ms) (collection vs) t s = absurd s
  itself (tuple_of ms) (tupled vs) t s = parts_itself ms vs s.0 t s.1

  parts_itself : (ms : Matchers) (vs : Values) → countᵐ ms ≡ count vs → T (all_without_something ms) → SuitsEach ms vs → T (equal_parts ms vs vs)
  parts_itself no_matchers empty q t s = tt
  parts_itself no_matchers (v ▸ vs) q t s = omega arith
  parts_itself (m ▸ᵐ ms) empty q t s = absurd s
  parts_itself (m ▸ᵐ ms) (v ▸ vs) q t s =
      let u = and_split (without_something m) (all_without_something ms) t in
      and_join (equal m v v) (equal_parts ms vs vs) (itself m v u.0 s.0) (parts_itself ms vs (omega arith) u.1 s.1)

-- The rests of two choices from one multiset, if the elements taken are equal.
same_rest : (m : Matcher) (v : Valueᵒ) (h i : Halves) → T (without_something m) → Suits (multiset m) (plain v) → Mem h (cons_halves (multiset m) v)
    → Mem i (cons_halves (multiset m) v) → T (equal m (plain h.first) (plain i.first)) → T (equal (multiset m) (plain h.second) (plain i.second))
unfolding cons_halves plain equal without_something
same_rest m (intᵒ o x) h i t s a b q = absurd (Memᴰ.not-nil a)
same_rest m (collectionᵒ o vs) h i t s a b q =
    let x = Memᴰ.of_map _ (takings vs) a in let y = Memᴰ.of_map _ (takings vs) b in
    let z = itself (multiset m) (plain h.second) t (cons_suits (multiset m) (collectionᵒ o vs) h a s).1 in
    go x y (subst (λ (g : Halves). T (equal (multiset m) (plain g.second) (plain g.second))) (sym x.2) z)
    (subst (λ (g : Halves). T (equal m (plain g.first) (plain i.first))) (sym x.2) q)
  where
    halves : Taking → Halves
    halves t = record { first = t.one; second = collectionᵒ o t.others }

    go : (x : (t : Taking) × Mem t (takings vs) × (halves t ≡ h)) (y : (t : Taking) × Mem t (takings vs) × (halves t ≡ i))
        → T (equal (multiset m) (collection (plain_all x.0.others)) (collection (plain_all x.0.others))) → T (equal m (plain x.0.one) (plain i.first))
        → T (equal (multiset m) (plain h.second) (plain i.second))
    go x y z q =
        let us = plain_all x.0.others in let ws = plain_all y.0.others in
        let p = exchange (equal m) (equal_equiv m) us (plain x.0.one) (plain y.0.one) us ws (plain_all vs) (paired_off_true (equal m) us us z)
        (taking_ins vs x.0 x.1) (taking_ins vs y.0 y.1)
        ((equal_equiv m).symm (plain x.0.one) (plain y.0.one) (subst (λ (g : Halves). T (equal m (plain x.0.one) (plain g.first))) (sym y.2) q)) in
        subst (λ (g : Halves). T (equal (multiset m) (plain g.second) (plain i.second))) x.2
        (subst (λ (g : Halves). T (equal (multiset m) (collection us) (plain g.second))) y.2 (true_paired_off (equal m) us ws p))
same_rest m (tupledᵒ o vs) h i t s a b q = absurd (Memᴰ.not-nil a)

-- ---- The choices that dialect 2 leaves out: an equal element stands before, and what is met from it meets an end if this does.

any_equal_lem : (E : Value → Value → Bool) (bs : List Halves) (v : Value) → T (any_equal E (firsts bs) v) → (b : Halves) × Mem b bs × T (E (plain b.first) v)
unfolding any_equal firsts
any_equal_lem E [] v t = absurd t
any_equal_lem E (b ∷ bs) v t = go (E (plain b.first) v) refl t (λ s. any_equal_lem E bs v s)
  where
    go : (c : Bool) → E (plain b.first) v ≡ c → T (c || any_equal E (firsts bs) v) → (T (any_equal E (firsts bs) v) → (d : Halves) × Mem d bs × T (E (plain d.first) v))
        → (d : Halves) × Mem d (b ∷ bs) × T (E (plain d.first) v)
    go true e s rec = (b, Memᴰ.head refl, subst T (sym e) tt)
    go false e s rec = let r = rec s in (r.0, Memᴰ.tail r.1, r.2)

firsts_last : (bs : List Halves) (h : Halves) → firsts (bs ++ (h ∷ [])) ≡ firsts bs ++ (plain h.first ∷ [])
unfolding firsts
firsts_last [] h = refl
firsts_last (b ∷ bs) h = ap {B = List Value} (λ l. plain b.first ∷ l) (firsts_last bs h)

module _ (E : Value → Value → Bool) (f g : Halves → List Met) (In : Halves → Type 0)
    (same : (b h : Halves) → In b → In h → T (E (plain b.first) (plain h.first)) → ends (g b) ≡ ends (g h)) where
  -- `bs` are the choices before, none of which meets an end.
  without_equals : (bs hs : List Halves) → ((h : Halves) → Mem h hs → In h × Fewer (f h) (g h)) → ((b : Halves) → Mem b bs → In b × (ends (g b) ≡ false))
      → Fewer (flat_map f (differing E (firsts bs) hs)) (flat_map g hs)
  unfolding differing flat_map
  without_equals bs [] F B = none
  without_equals bs (h ∷ hs) F B = go (any_equal E (firsts bs) (plain h.first)) refl (ends (g h)) refl
      (λ e. subst (λ l. Fewer (flat_map f (differing E l hs)) (flat_map g hs)) (firsts_last bs h) (without_equals (bs ++ (h ∷ [])) hs (λ x i. F x (Memᴰ.tail i))
      (λ b i. ⊎_elim (λ j. B b j) (λ j. subst (λ x. In x × (ends (g x) ≡ false)) (sym (Memᴰ.eq_of_singleton j)) (here.0, e)) (Memᴰ.append_cases bs i))))
    where
      here : In h × Fewer (f h) (g h)
      here = F h (Memᴰ.head refl)

      go : (a : Bool) → any_equal E (firsts bs) (plain h.first) ≡ a → (c : Bool) → ends (g h) ≡ c
          → (ends (g h) ≡ false → Fewer (flat_map f (differing E (firsts bs ++ (plain h.first ∷ [])) hs)) (flat_map g hs))
          → Fewer (flat_map f (elim a as (λ _. List Halves) [
            | true ↦ differing E (firsts bs ++ (plain h.first ∷ [])) hs
            | false ↦ h ∷ differing E (firsts bs ++ (plain h.first ∷ [])) hs
          ])) (g h ++ flat_map g hs)
      go true e c k rec =
          let b = any_equal_lem E bs (plain h.first) (subst T (sym e) tt) in let x = B b.0 b.1 in
          let z : ends (g h) ≡ false = sym (same b.0 h x.0 here.0 b.2) ∙ x.1 in
          fewer_without (g h) z (rec z)
      go false e true k rec = fewer_ended _ _ here.1 (subst T (sym k) tt)
      go false e false k rec = fewer_append here.1 (rec k)

pub cons_fewer : (m : Matcher) (v : Valueᵒ) (f g : Halves → List Met) → T (told_apart first_places m) → Suits m (plain v)
    → ((h : Halves) → Mem h (cons_halves m v) → Fewer (f h) (g h))
    → ((h i : Halves) → T (equal (element m) (plain h.first) (plain i.first)) → T (equal m (plain h.second) (plain i.second)) → ends (g h) ≡ ends (g i))
    → Fewer (flat_map f (cons_halves_in first_places m v)) (flat_map g (cons_halves_in every_place m v))
unfolding cons_halves_in is_multiset element told_apart firsts
cons_fewer something v f g t s F H = fewer_each f g (cons_halves something v) F
cons_fewer integer v f g t s F H = fewer_each f g (cons_halves integer v) F
cons_fewer (list m) v f g t s F H = fewer_each f g (cons_halves (list m) v) F
cons_fewer (multiset m) v f g t s F H = without_equals (equal m) f g (λ h. Mem h (cons_halves (multiset m) v)) (λ b h i j q. H b h q (same_rest m v b h t s i j q))
    [] (cons_halves (multiset m) v) (λ h i. (i, F h i)) (λ b i. absurd (Memᴰ.not-nil i))
cons_fewer (tuple_of ms) v f g t s F H = fewer_each f g (cons_halves (tuple_of ms) v) F
