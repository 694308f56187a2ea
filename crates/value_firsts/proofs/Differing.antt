-- The first places by marks are the definitions' choices, one by one in their order. Assumes nothing.
use Prim.Native.Nat.{ℕ, zero, suc, ◌+◌, ◌*◌, ◌/◌, ◌%◌, ◌^◌, ◌<◌, ◌≤◌}
use mathlib.Core.Path.{◌≡◌, refl, sym, ap, subst}
use mathlib.Core.Bool.{Bool, true, false, cond}
use mathlib.Core.List.{List, [], ◌∷◌, ◌++◌, map}
use native.Mathlib.Omega.{arith}
use Rattle.rules.specs.Forms.{Value, Values, empty, ◌▸◌, count}
use Rattle.rules.specs.Origins.{plain}
use Rattle.rules.specs.Search.{Halves, any_equal, differing}
use Rattle.words.specs.Marks.{positions}
use Rattle.words.specs.Marked.{nth}
use Rattle.words.proofs.marks.Places.{by_digit_lem, half_lt, half_pos, double_half, double_digit, positions_none}
use Rattle.value_firsts.specs.Firsts.{firsts_from}

pub map_map : {A B C : Type 0} (f : B → C) (g : A → B) (l : List A) → map f (map g l) ≡ map (λ (x : A). f (g x)) l
map_map f g [] = refl
map_map f g (a ∷ l) = ap (λ y. f (g a) ∷ y) (map_map f g l)

module _ (eq : Value → Value → Bool) where
  -- They are among the marks; and there is one where there are marks.
  pub firsts_le : (before : List Value) (vs : Values) (m : ℕ) → firsts_from eq before vs m ≤ m
  unfolding firsts_from
  firsts_le before empty m = omega arith
  firsts_le before (v ▸ vs) m = by_digit_lem _ m
      (λ e. let h = firsts_le before vs (m / 2) in rw e (omega arith))
      (λ e. let h = firsts_le (before ++ (v ∷ [])) vs (m / 2) in rw e (go (any_equal eq before v) (firsts_from eq (before ++ (v ∷ [])) vs (m / 2)) e h))
    where
      go : (b : Bool) (x : ℕ) → m % 2 ≡ 1 → x ≤ m / 2 → x * 2 + cond b 0 1 ≤ m
      go true x e h = omega arith
      go false x e h = omega arith

  pub firsts_some : (vs : Values) (m : ℕ) → 0 < m → m < 2 ^ count vs → 0 < firsts_from eq [] vs m
  unfolding firsts_from count any_equal
  firsts_some empty m p h = absurd (omega arith)
  firsts_some (v ▸ vs) m p h = by_digit_lem _ m
      (λ e. let i = firsts_some vs (m / 2) (half_pos m p e) (half_lt (count vs) m h) in rw e (omega arith))
      (λ e. rw e (omega arith))

  -- f makes a choice of each place, and its first part is the element there.
  pub firsts_are : (before : List Value) (vs : Values) (k m : ℕ) (f : ℕ → Halves) → ((j : ℕ) → j < count vs → plain (f j).first ≡ nth vs j)
      → m < 2 ^ count vs → m < 2 ^ k → differing eq before (map f (positions k m)) ≡ map f (positions k (firsts_from eq before vs m))
  unfolding firsts_from count nth positions differing
  firsts_are before empty k m f g h l = let z : m ≡ 0 = omega arith in rw (z, positions_none k)
  firsts_are before (v ▸ vs) zero m f g h l = refl
  firsts_are before (v ▸ vs) (suc k) m f g h l =
      let rec : Rec = λ bs. firsts_are bs vs k (m / 2) (λ j. f (suc j)) (λ j u. g (suc j) (omega arith)) (half_lt (count vs) m h) (half_lt k m l) in
      by_digit_lem _ m (λ e. even rec e) (λ e. odd rec e)
    where
      Rec : Type 0
      Rec = (bs : List Value) → differing eq bs (map (λ j. f (suc j)) (positions k (m / 2))) ≡ map (λ j. f (suc j)) (positions k (firsts_from eq bs vs (m / 2)))

      onward : Rec → (bs : List Value) → differing eq bs (map f (map suc (positions k (m / 2)))) ≡ map f (map suc (positions k (firsts_from eq bs vs (m / 2))))
      onward rec bs = rw (map_map f suc (positions k (m / 2)), map_map f suc (positions k (firsts_from eq bs vs (m / 2)))) (rec bs)

      even : Rec → m % 2 ≡ 0 → differing eq before (map f (positions (suc k) m)) ≡ map f (positions (suc k) (firsts_from eq before (v ▸ vs) m))
      even rec e =
          let x = firsts_from eq before vs (m / 2) in
          let p : x * 2 % 2 ≡ 0 = omega arith in
          let q : x * 2 / 2 ≡ x = omega arith in
          rw (e, p, q) (onward rec before)

      odd : Rec → m % 2 ≡ 1 → differing eq before (map f (positions (suc k) m)) ≡ map f (positions (suc k) (firsts_from eq before (v ▸ vs) m))
      odd rec e = rw e (subst (λ (w : Value). elim (any_equal eq before w) as (λ _. List Halves) [ true ↦ differing eq (before ++ (w ∷ [])) tail | false ↦ f 0 ∷ differing eq (before ++ (w ∷ [])) tail ]
          ≡ map f (positions (suc k) (x * 2 + cond (any_equal eq before v) 0 1))) (sym (g 0 (omega arith))) (go (any_equal eq before v)))
        where
          tail : List Halves
          tail = map f (map suc (positions k (m / 2)))

          x : ℕ
          x = firsts_from eq (before ++ (v ∷ [])) vs (m / 2)

          go : (b : Bool) → elim b as (λ _. List Halves) [ true ↦ differing eq (before ++ (v ∷ [])) (map f (map suc (positions k (m / 2)))) | false ↦ f 0 ∷ differing eq (before ++ (v ∷ [])) (map f (map suc (positions k (m / 2)))) ]
              ≡ map f (positions (suc k) (x * 2 + cond b 0 1))
          go true = rw (double_digit x 0 (omega arith), double_half x 0 (omega arith)) (onward rec (before ++ (v ∷ [])))
          go false = rw (double_digit x 1 (omega arith), double_half x 1 (omega arith)) (ap (λ (y : List Halves). f 0 ∷ y) (onward rec (before ++ (v ∷ []))))
