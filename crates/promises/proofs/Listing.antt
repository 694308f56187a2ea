-- Laws of what specs/Listing.antt defines.
use Rattle.std.proofs.Common.{arith, sym, ap, ◌∙◌, subst, inl, inr, ⊎_elim}
use Rattle.std.specs.Prelude.{◌≡◌, ◌⊎◌, List, [], ◌∷◌, ◌++◌}
use mathlib.Core.List.Memᴰ
use Rattle.rules.specs.Dialects.{Dialect}
use Rattle.rules.specs.Forms.{Matcher, Pattern, Value}
use Rattle.rules.specs.Origins.{Bindings, target}
use Rattle.rules.specs.Ways.{Way, ◌≺◌, Good}
use Rattle.forms.specs.Lists.{Mem, Pairwise}
use Rattle.rules.specs.Following.{Solution, solve}
use Rattle.promises.specs.Twin.{sound, complete}
use Rattle.promises.specs.Order.{◌≪◌, Earlier, solve_in_order, solve_increasing}
use Rattle.promises.specs.Listing.{Listing, in_order_unique, ≺_asym}

pub solve_listing : (dialect : Dialect) (m : Matcher) (p : Pattern) (v : Value) → Listing dialect m p v (solve dialect p m (target v) [])
unfolding Good
solve_listing dialect m p v = record { increasing = solve_increasing dialect p m (target v) []; sound = sound dialect p m (target v) []; complete = complete dialect p m (target v) [] }

pub listing_unique : (dialect : Dialect) (m : Matcher) (p : Pattern) (v : Value) (ss ts : List Solution) → Listing dialect m p v ss → Listing dialect m p v ts → ss ≡ ts
listing_unique dialect m p v ss ts a b = in_order_unique (λ s t. s.way ≺ t.way) (λ s t. ≺_asym s.way t.way) ss ts a.increasing b.increasing
    (λ z i. b.complete z.way z.bound (a.sound z i)) (λ z i. a.complete z.way z.bound (b.sound z i))

-- ---- No good way is the beginning of another.

≪_longer : (u x : Way) → u ≪ (u ++ x) → ⊥
≪_longer [] x h = h
≪_longer (a ∷ u) x (inl h) = omega arith
≪_longer (a ∷ u) x (inr h) = ≪_longer u x h.1

longer_≪ : (u x : Way) → (u ++ x) ≪ u → ⊥
longer_≪ [] [] h = h
longer_≪ [] (b ∷ x) h = h
longer_≪ (a ∷ u) x (inl h) = omega arith
longer_≪ (a ∷ u) x (inr h) = longer_≪ u x h.1

no_longer : (u x : Way) → u ≡ u ++ x → x ≡ []
no_longer [] x e = sym e
no_longer (a ∷ u) x e = no_longer u x (cc e)

-- Two members of a list in order are the same, or one comes before the other.
two_members : {A : Type 0} (R : A → A → Type 0) (xs : List A) → Pairwise R xs → (a b : A) → Mem a xs → Mem b xs → (a ≡ b) ⊎ (R a b ⊎ R b a)
two_members R [] p a b i j = absurd (Memᴰ.not-nil i)
two_members R (x ∷ xs) p a b i j = ⊎_elim
    (λ e. ⊎_elim (λ f. inl (e ∙ sym f)) (λ n. inr (inl (subst (λ y. R y b) (sym e) (p.0 b n)))) (Memᴰ.cases_cons j))
    (λ m. ⊎_elim (λ f. inr (inr (subst (λ y. R y a) (sym f) (p.0 a m)))) (λ n. two_members R xs p.1 a b m n) (Memᴰ.cases_cons j))
    (Memᴰ.cases_cons i)

pub way_ends : (dialect : Dialect) (m : Matcher) (p : Pattern) (v : Value) (u x : Way) (d e : Bindings) → Good dialect m p v u d → Good dialect m p v (u ++ x) e → (x ≡ []) × (d ≡ e)
unfolding Good
way_ends dialect m p v u x d e g h = ⊎_elim
    (λ q. (no_longer u x (ap (λ (s : Solution). s.way) q), ap (λ (s : Solution). s.bound) q))
    (λ q. ⊎_elim (λ l. absurd (≪_longer u x l)) (λ l. absurd (longer_≪ u x l)) q)
    (two_members Earlier (solve dialect p m (target v) []) (solve_in_order dialect p m (target v) []) (record { way = u; bound = d }) (record { way = u ++ x; bound = e })
    (complete dialect p m (target v) [] u d g) (complete dialect p m (target v) [] (u ++ x) e h))
