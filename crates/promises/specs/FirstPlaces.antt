-- The choices of a cons in dialect 2: some of those in dialect 1, in their order, and which.
use Rattle.std.specs.Prelude.{◌≤◌, ◌≡◌, refl, Bool, true, false, List, [], ◌∷◌, ◌++◌, map, length}
use Rattle.std.proofs.Common.{zero-le, suc-le-suc, arith, sym, ap, ◌∙◌, append-nil, append_assoc, ⊎_elim}
use mathlib.Core.List.Memᴰ
use Rattle.rules.specs.Forms.{Matcher, multiset, Value}
use Rattle.rules.specs.Origins.{Valueᵒ, plain}
use Rattle.rules.specs.Fit.{element}
use Rattle.rules.specs.Equality.{equal}
use Rattle.rules.specs.Search.{Halves, cons_halves, cons_halves_in, any_equal, differing, is_multiset}
use Rattle.rules.specs.Dialects.{Dialect, every_place, first_places}
use Rattle.forms.specs.Lists.{Mem}

-- Some of a list's elements, in their order.
pub data Some {A : Type 0} : List A → List A → Type 0 where
  nothing : Some [] []
  kept : {x : A} {xs ys : List A} → Some xs ys → Some (x ∷ xs) (x ∷ ys)
  left : {y : A} {xs ys : List A} → Some xs ys → Some xs (y ∷ ys)

module _ {A : Type 0} where
  pub all : (xs : List A) → Some xs xs
  all [] = nothing
  all (x ∷ xs) = kept (all xs)

  pub some_length : {xs ys : List A} → Some xs ys → length xs ≤ length ys
  some_length nothing = zero-le
  some_length (kept s) = suc-le-suc (some_length s)
  some_length (left s) = let k = some_length s in omega arith

  pub some_member : {xs ys : List A} → Some xs ys → (x : A) → Mem x xs → Mem x ys
  some_member nothing x i = absurd (Memᴰ.not-nil i)
  some_member (kept s) x i = ⊎_elim (λ e. Memᴰ.head e) (λ j. Memᴰ.tail (some_member s x j)) (Memᴰ.cases_cons i)
  some_member (left s) x i = Memᴰ.tail (some_member s x i)

differing_some : (eq : Value → Value → Bool) (before : List Value) (hs : List Halves) → Some (differing eq before hs) hs
unfolding differing
differing_some eq before [] = nothing
differing_some eq before (h ∷ hs) = go (any_equal eq before (plain h.first)) (differing_some eq (before ++ (plain h.first ∷ [])) hs)
  where
    go : (b : Bool) → Some (differing eq (before ++ (plain h.first ∷ [])) hs) hs
        → Some (elim b as (λ _. List Halves) [
          | true ↦ differing eq (before ++ (plain h.first ∷ [])) hs
          | false ↦ h ∷ differing eq (before ++ (plain h.first ∷ [])) hs
        ]) (h ∷ hs)
    go true s = left s
    go false s = kept s

pub halves_some : (d : Dialect) (m : Matcher) (v : Valueᵒ) → Some (cons_halves_in d m v) (cons_halves m v)
unfolding cons_halves_in
halves_some every_place m v = all (cons_halves m v)
halves_some first_places m v = go (is_multiset m)
  where
    go : (b : Bool) → Some (elim b as (λ _. List Halves) [ true ↦ differing (equal (element m)) [] (cons_halves m v) | false ↦ cons_halves m v ]) (cons_halves m v)
    go true = differing_some (equal (element m)) [] (cons_halves m v)
    go false = all (cons_halves m v)

-- ---- Which: a choice is there exactly if no element before it is equal to its own.

unfoldable pub firsts : List Halves → List Value
unfolding plain
firsts hs = map (λ h. plain h.first) hs

unfoldable pub unless : Bool → Halves → List Halves
unless true h = []
unless false h = h ∷ []

differing_append : (eq : Value → Value → Bool) (before : List Value) (hs gs : List Halves)
    → differing eq before (hs ++ gs) ≡ differing eq before hs ++ differing eq (before ++ firsts hs) gs
unfolding differing firsts
differing_append eq before [] gs = ap (λ l. differing eq l gs) (sym (append-nil before))
differing_append eq before (h ∷ hs) gs = go (any_equal eq before (plain h.first))
    (differing_append eq (before ++ (plain h.first ∷ [])) hs gs
    ∙ ap (λ l. differing eq (before ++ (plain h.first ∷ [])) hs ++ differing eq l gs) (append_assoc before (plain h.first ∷ []) (firsts hs)))
  where
    go : (b : Bool) → differing eq (before ++ (plain h.first ∷ [])) (hs ++ gs)
        ≡ differing eq (before ++ (plain h.first ∷ [])) hs ++ differing eq (before ++ (plain h.first ∷ firsts hs)) gs
        → ◌≡◌ {A = List Halves} (elim b as (λ _. List Halves) [
          | true ↦ differing eq (before ++ (plain h.first ∷ [])) (hs ++ gs)
          | false ↦ h ∷ differing eq (before ++ (plain h.first ∷ [])) (hs ++ gs)
        ]) (elim b as (λ _. List Halves) [
          | true ↦ differing eq (before ++ (plain h.first ∷ [])) hs
          | false ↦ h ∷ differing eq (before ++ (plain h.first ∷ [])) hs
        ] ++ differing eq (before ++ (plain h.first ∷ firsts hs)) gs)
    go true e = e
    go false e = ap {B = List Halves} (λ l. h ∷ l) e

differing_cons : (eq : Value → Value → Bool) (before : List Value) (h : Halves) (hs : List Halves) → differing eq before (h ∷ hs)
    ≡ unless (any_equal eq before (plain h.first)) h ++ differing eq (before ++ (plain h.first ∷ [])) hs
unfolding differing unless
differing_cons eq before h hs = go (any_equal eq before (plain h.first))
  where
    go : (b : Bool) → ◌≡◌ {A = List Halves} (elim b as (λ _. List Halves) [
      | true ↦ differing eq (before ++ (plain h.first ∷ [])) hs
      | false ↦ h ∷ differing eq (before ++ (plain h.first ∷ [])) hs
    ]) (unless b h ++ differing eq (before ++ (plain h.first ∷ [])) hs)
    go true = refl
    go false = refl

-- Those before it, itself unless an element before it is equal, and those after it.
pub choice_exactly : (m : Matcher) (v : Valueᵒ) (hs : List Halves) (h : Halves) (gs : List Halves) → cons_halves (multiset m) v ≡ hs ++ (h ∷ gs)
    → cons_halves_in first_places (multiset m) v
    ≡ differing (equal m) [] hs ++ (unless (any_equal (equal m) (firsts hs) (plain h.first)) h ++ differing (equal m) (firsts hs ++ (plain h.first ∷ [])) gs)
unfolding cons_halves_in is_multiset element
choice_exactly m v hs h gs e = ap (differing (equal m) []) e ∙ differing_append (equal m) [] hs (h ∷ gs)
    ∙ ap (λ l. differing (equal m) [] hs ++ l) (differing_cons (equal m) (firsts hs) h gs)
