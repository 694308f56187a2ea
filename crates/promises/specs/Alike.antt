-- A pattern without variables cannot tell equal values apart: a search from one meets the end of a not exactly if the search from the other does.
use Rattle.std.specs.Prelude.{◌≡◌, refl, Bool, true, false, ◌||◌, T}
use Rattle.std.proofs.Common.{ap, subst, inl, inr, ⊎_elim}
use mathlib.Core.List.Memᴰ
use mathlib.Core.List.{List, [], ◌∷◌, ◌++◌}
use Rattle.rules.specs.Forms.{Matcher, multiset}
use Rattle.rules.specs.Forms.{◌▸◌}
use Rattle.rules.specs.Origins.{Valueᵒ, Valuesᵒ, emptyᵒ, ◌▸ᵒ◌, plain, plain_all}
use Rattle.rules.specs.Equality.{equal}
use Rattle.rules.specs.Search.{Taking, takings, behind, Halves, cons_halves}
use Rattle.forms.specs.Lists.{Mem}
use Rattle.forms.specs.Paired.{Ins}
use Rattle.promises.specs.Trace.{Met, taken, ended}

-- ---- The end of a search inside a not is met.

unfoldable pub ends : List Met → Bool
ends [] = false
ends (taken t ∷ ms) = ends ms
ends (ended ∷ ms) = true

pub ends_append : (xs ys : List Met) → ends (xs ++ ys) ≡ (ends xs || ends ys)
unfolding ends
ends_append [] ys = refl
ends_append (taken t ∷ xs) ys = ends_append xs ys
ends_append (ended ∷ xs) ys = refl

-- ---- Cons.

-- What is taken out of a multiset, and what can be: an element put in.
pub taking_ins : (vs : Valuesᵒ) (t : Taking) → Mem t (takings vs) → Ins (plain t.one) (plain_all t.others) (plain_all vs)
unfolding takings behind plain_all
taking_ins emptyᵒ t i = absurd (Memᴰ.not-nil i)
taking_ins (v ▸ᵒ vs) t i = ⊎_elim
    (λ e. inl (ap (λ (z : Taking). plain z.one) e, ap (λ (z : Taking). plain_all z.others) e))
    (λ j. let r = Memᴰ.of_map (behind v) (takings vs) j in
    subst (λ (z : Taking). Ins (plain z.one) (plain_all z.others) (plain v ▸ plain_all vs)) r.2 (inr (plain_all r.0.others, refl, taking_ins vs r.0 r.1)))
    (Memᴰ.cases_cons i)

-- To each choice from one of two equal multisets belongs one from the other.
pub record Partner (m : Matcher) (h : Halves) (w : Valueᵒ) : Type 0 where
  pub half : Halves
  pub member : Mem half (cons_halves (multiset m) w)
  pub first : T (equal m (plain h.first) (plain half.first))
  pub second : T (equal (multiset m) (plain h.second) (plain half.second))
