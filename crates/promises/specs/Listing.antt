-- A listing of the good ways is determined: two lists that are each the good ways in dictionary order are equal. So what section 5 says fixes the
-- rows and their order, without the search.
use Rattle.std.proofs.Common.{arith, sym, ap₂, ◌∙◌, subst, inl, inr, ⊎_elim}
use Rattle.std.specs.Prelude.{◌≡◌, refl, List, [], ◌∷◌}
use mathlib.Core.List.Memᴰ
use Rattle.rules.specs.Dialects.{Dialect}
use Rattle.rules.specs.Forms.{Matcher, Pattern, Value}
use Rattle.rules.specs.Origins.{Bindings}
use Rattle.rules.specs.Ways.{Way, ◌≺◌, Good}
use Rattle.forms.specs.Lists.{Mem, Pairwise}
use Rattle.rules.specs.Following.{Solution}

-- Two ways do not each come before the other.
pub ≺_asym : (u w : Way) → u ≺ w → w ≺ u → ⊥
unfolding ◌≺◌
≺_asym [] [] h k = h
≺_asym [] (b ∷ w) h k = k
≺_asym (a ∷ u) [] h k = h
≺_asym (a ∷ u) (b ∷ w) (inl h) (inl k) = omega arith
≺_asym (a ∷ u) (b ∷ w) (inl h) (inr k) = let e = k.0 in omega arith
≺_asym (a ∷ u) (b ∷ w) (inr h) (inl k) = let e = h.0 in omega arith
≺_asym (a ∷ u) (b ∷ w) (inr h) (inr k) = ≺_asym u w h.1 k.1

module _ {A : Type 0} (R : A → A → Type 0) (asym : (x y : A) → R x y → R y x → ⊥) where
  -- A list in order is determined by its members.
  pub in_order_unique : (xs ys : List A) → Pairwise R xs → Pairwise R ys → ((z : A) → Mem z xs → Mem z ys) → ((z : A) → Mem z ys → Mem z xs) → xs ≡ ys
  in_order_unique [] [] p q f g = refl
  in_order_unique [] (y ∷ ys) p q f g = absurd (Memᴰ.not-nil (g y (Memᴰ.head refl)))
  in_order_unique (x ∷ xs) [] p q f g = absurd (Memᴰ.not-nil (f x (Memᴰ.head refl)))
  in_order_unique (x ∷ xs) (y ∷ ys) p q f g =
      ap₂ {C = List A} (λ a l. a ∷ l) same (in_order_unique xs ys p.1 q.1
      (λ z m. ⊎_elim (λ e. absurd (asym x z (p.0 z m) (subst (λ a. R a x) (sym (e ∙ sym same)) (subst (R x) (e ∙ sym same) (p.0 z m))))) (λ n. n)
      (Memᴰ.cases_cons (f z (Memᴰ.tail m))))
      (λ z m. ⊎_elim (λ e. absurd (asym y z (q.0 z m) (subst (λ a. R a y) (sym (e ∙ same)) (subst (R y) (e ∙ same) (q.0 z m))))) (λ n. n)
      (Memᴰ.cases_cons (g z (Memᴰ.tail m)))))
    where
      same : x ≡ y
      same = ⊎_elim (λ e. e) (λ m. ⊎_elim (λ e. sym e) (λ n. absurd (asym x y (p.0 y n) (q.0 x m))) (Memᴰ.cases_cons (g y (Memᴰ.head refl))))
          (Memᴰ.cases_cons (f x (Memᴰ.head refl)))

-- The good ways of section 5 with their bindings: each of them, no other, the smaller way first.
pub record Listing (dialect : Dialect) (m : Matcher) (p : Pattern) (v : Value) (ss : List Solution) : Type 0 where
  pub increasing : Pairwise (λ s t. s.way ≺ t.way) ss
  pub sound : (s : Solution) → Mem s ss → Good dialect m p v s.way s.bound
  pub complete : (w : Way) (e : Bindings) → Good dialect m p v w e → Mem (record { way = w; bound = e }) ss
