-- Lists: the laws of `flat_map`, and a fact of every element. Nothing here is about matching.
use Rattle.std.specs.Prelude.{ℕ, ◌*◌, ◌≤◌, ◌≡◌, length}
use native.Mathlib.Omega.{arith}
use Rattle.std.proofs.Math.Path.{refl, sym, ap, fun_ext}
use Rattle.std.proofs.Common.{◌∙◌, subst}
use mathlib.Core.List.Memᴰ
use mathlib.Core.List.{List, [], ◌∷◌, ◌++◌, map, flat_map, append_assoc, Memᴰ}
use Rattle.std.proofs.Math.Logic.{⊎_elim}
use Rattle.std.proofs.Math.ListN.{length-append}

module _ {A B : Type 0} where
  pub flat_map_append : (f : A → List B) (xs ys : List A) → flat_map f (xs ++ ys) ≡ flat_map f xs ++ flat_map f ys
  unfolding flat_map
  flat_map_append f [] ys = refl
  flat_map_append f (x ∷ xs) ys = ap {B = List B} (λ r. f x ++ r) (flat_map_append f xs ys) ∙ sym (append_assoc (f x) (flat_map f xs) (flat_map f ys))

  pub flat_map_cong : (f g : A → List B) (xs : List A) → ((x : A) → f x ≡ g x) → flat_map f xs ≡ flat_map g xs
  flat_map_cong f g xs h = ap (λ k. flat_map k xs) (fun_ext h)

module _ {A B C : Type 0} where
  pub flat_map_map : (f : B → List C) (g : A → B) (xs : List A) → flat_map f (map g xs) ≡ flat_map (λ x. f (g x)) xs
  unfolding flat_map
  flat_map_map f g [] = refl
  flat_map_map f g (x ∷ xs) = ap {B = List C} (λ r. f (g x) ++ r) (flat_map_map f g xs)

  pub flat_map_flat_map : (f : B → List C) (g : A → List B) (xs : List A) → flat_map f (flat_map g xs) ≡ flat_map (λ x. flat_map f (g x)) xs
  unfolding flat_map
  flat_map_flat_map f g [] = refl
  flat_map_flat_map f g (x ∷ xs) = flat_map_append f (g x) (flat_map g xs) ∙ ap {B = List C} (λ r. flat_map f (g x) ++ r) (flat_map_flat_map f g xs)

-- ---- Members, and lists in which each element stands before all that come after it.

abbrev pub Mem : {A : Type 0} → A → List A → Type 0
Mem x xs = Memᴰ x xs

module _ {A : Type 0} where
  abbrev pub Pairwise : (A → A → Type 0) → List A → Type 0
  Pairwise R [] = Unit {0}
  Pairwise R (x ∷ xs) = ((y : A) → Mem y xs → R x y) × Pairwise R xs

  pub pairwise_append : (R : A → A → Type 0) (xs ys : List A) → Pairwise R xs → Pairwise R ys
      → ((x y : A) → Mem x xs → Mem y ys → R x y) → Pairwise R (xs ++ ys)
  pairwise_append R [] ys h k c = k
  pairwise_append R (x ∷ xs) ys h k c = (
    λ y m. ⊎_elim (λ a. h.0 y a) (λ b. c x y (Memᴰ.head refl) b) (Memᴰ.append_cases xs m),
    pairwise_append R xs ys h.1 k (λ a b m n. c a b (Memᴰ.tail m) n),
  )

  pub pairwise_weaken : (R S : A → A → Type 0) (xs : List A) → ((x y : A) → R x y → S x y) → Pairwise R xs → Pairwise S xs
  pairwise_weaken R S [] f h = tt
  pairwise_weaken R S (x ∷ xs) f h = ((λ y m. f x y (h.0 y m)), pairwise_weaken R S xs f h.1)

module _ {A B : Type 0} where
  pub mem_flat_map : (f : A → List B) {x : A} {y : B} {xs : List A} → Mem x xs → Mem y (f x) → Mem y (flat_map f xs)
  unfolding flat_map
  mem_flat_map f {x} {y} (Memᴰ.head {x = z} {xs = zs} e) k = Memᴰ.append_left (flat_map f zs) (subst (λ u. Memᴰ y (f u)) e k)
  mem_flat_map f (Memᴰ.tail {x = z} m) k = Memᴰ.append_right (f z) (mem_flat_map f m k)

  pub of_flat_map : (f : A → List B) {y : B} (xs : List A) → Mem y (flat_map f xs) → (x : A) × Mem x xs × Mem y (f x)
  unfolding flat_map
  of_flat_map f [] m = absurd (Memᴰ.not-nil m)
  of_flat_map f (x ∷ xs) m = ⊎_elim
      (λ a. (x, Memᴰ.head refl, a))
      (λ b. let r = of_flat_map f xs b in (r.0, Memᴰ.tail r.1, r.2))
      (Memᴰ.append_cases (f x) m)

  pub pairwise_map : (R : A → A → Type 0) (S : B → B → Type 0) (f : A → B) (xs : List A) → ((x y : A) → R x y → S (f x) (f y))
      → Pairwise R xs → Pairwise S (map f xs)
  pairwise_map R S f [] h p = tt
  pairwise_map R S f (x ∷ xs) h p = (
    λ y m. let r = Memᴰ.of_map f xs m in subst (S (f x)) r.2 (h x r.0 (p.0 r.0 r.1)),
    pairwise_map R S f xs h p.1,
  )

  -- If each part is in order, and the parts of elements in order are in order, so is the whole.
  pub pairwise_flat_map : (R : A → A → Type 0) (S : B → B → Type 0) (f : A → List B) (xs : List A) → Pairwise R xs
      → ((x : A) → Pairwise S (f x)) → ((x y : A) → R x y → (a b : B) → Mem a (f x) → Mem b (f y) → S a b) → Pairwise S (flat_map f xs)
  unfolding flat_map
  pairwise_flat_map R S f [] p h c = tt
  pairwise_flat_map R S f (x ∷ xs) p h c = pairwise_append S (f x) (flat_map f xs) (h x) (pairwise_flat_map R S f xs p.1 h c)
      (λ a b m n. let r = of_flat_map f xs n in c x r.0 (p.0 r.0 r.1) a b m r.2)

  -- A bound on each part bounds the whole.
  pub length_flat_map_le : (f : A → List B) (n : ℕ) (xs : List A) → ((x : A) → Mem x xs → length (f x) ≤ n) → length (flat_map f xs) ≤ length xs * n
  unfolding flat_map
  length_flat_map_le f n [] h = omega arith
  length_flat_map_le f n (x ∷ xs) h =
      let l = length-append (f x) (flat_map f xs) in
      let k = h x (Memᴰ.head refl) in
      let i = length_flat_map_le f n xs (λ y m. h y (Memᴰ.tail m)) in
      omega arith
