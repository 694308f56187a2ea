-- Document 02, No. 9: every value that a good way binds comes from the target, and so points back to it.
use Rattle.std.specs.Prelude.{◌≡◌, refl, List, [], ◌∷◌, ◌++◌, ℤ}
use Rattle.std.proofs.Common.{sym, subst, inl, inr, ⊎_elim, append-nil}
use mathlib.Core.List.Memᴰ
use Rattle.rules.specs.Forms.{Matcher, Matchers, no_matchers, ◌▸ᵐ◌, Value, words}
use Rattle.rules.specs.Forms.{Pattern, wildcard, nil, variable, constant, value, cons, join, tuple, both, either, never, Patterns, no_patterns, ◌▸ᵖ◌}
use Rattle.rules.specs.Dialects.{Dialect}
use Rattle.rules.specs.Fit.{element, members}
use Rattle.rules.specs.Origins.{Valueᵒ, intᵒ, collectionᵒ, tupledᵒ, Valuesᵒ, emptyᵒ, ◌▸ᵒ◌, Bindings, target}
use Rattle.rules.specs.Ways.{Way, Follows, FollowsAll, Good}
use Rattle.forms.specs.Lists.{Mem}
use Rattle.promises.specs.Parts.{cons_parts, join_parts}
use Rattle.promises.specs.Room.{cons_member, join_member}
use Rattle.promises.specs.Origins.{PointsBack, Comes, ComeAll, part_comes, parts_come, comes_points}

unfoldable Came : List ℤ → Bindings → Type 0
Came ts [] = Unit {0}
Came ts (u ∷ e) = Comes ts u × Came ts e

came_last : (ts : List ℤ) (e : Bindings) (u : Valueᵒ) → Came ts e → Comes ts u → Came ts (e ++ (u ∷ []))
unfolding Came
came_last ts [] u c k = (k, tt)
came_last ts (v ∷ e) u c k = (c.0, came_last ts e u c.1 k)

mutual
  unfolding Follows ComeAll

  follows_come : (dialect : Dialect) (ts : List ℤ) (p : Pattern) (m : Matcher) (v : Valueᵒ) (e : Bindings) (w : Way) (d : Bindings) → Follows dialect p m v e w d → Comes ts v → Came ts e → Came ts d
  follows_come dialect ts wildcard m v e w d h c k = subst (Came ts) (sym h.1) k
  follows_come dialect ts nil m v e w d h c k = subst (Came ts) (sym h.2) k
  follows_come dialect ts (variable x) m v e w d h c k = subst (Came ts) (sym h.1) (came_last ts e v k c)
  follows_come dialect ts (constant x) m v e w d h c k = subst (Came ts) (sym h.2) k
  follows_come dialect ts (value x y) m v e w d h c k = subst (Came ts) (sym h.2) k
  follows_come dialect ts (cons p q) m v e w d h c k =
      let s = cons_parts m v (record { first = h.a; second = h.b }) (cons_member dialect m v h.here h.a h.b h.divided) in
      follows_come dialect ts q m h.b h.between h.two d h.second (part_comes ts s.second c)
      (follows_come dialect ts p (element m) h.a e h.one h.between h.first (part_comes ts s.first c) k)
  follows_come dialect ts (join p q) m v e w d h c k =
      let s = join_parts v (record { first = h.a; second = h.b }) (join_member v h.here h.a h.b h.divided) in
      follows_come dialect ts q m h.b h.between h.two d h.second (part_comes ts s.second c)
      (follows_come dialect ts p m h.a e h.one h.between h.first (part_comes ts s.first c) k)
  follows_come dialect ts (tuple ps) m (intᵒ o x) e w d h c k = absurd h
  follows_come dialect ts (tuple ps) m (collectionᵒ o vs) e w d h c k = absurd h
  follows_come dialect ts (tuple ps) m (tupledᵒ o vs) e w d h c k = each_come dialect ts ps (members m) vs e w d h (parts_come ts o vs c) k
  follows_come dialect ts (both p q) m v e w d h c k =
      follows_come dialect ts q m v h.between h.two d h.others c (follows_come dialect ts p m v e h.one h.between h.first c k)
  follows_come dialect ts (either p q) m v e w d (inl h) c k = follows_come dialect ts p m v e h.rest d h.inside c k
  follows_come dialect ts (either p q) m v e w d (inr h) c k = follows_come dialect ts q m v e h.rest d h.inside c k
  follows_come dialect ts (never p) m v e w d h c k = subst (Came ts) (sym h.2) k

  each_come : (dialect : Dialect) (ts : List ℤ) (ps : Patterns) (ms : Matchers) (vs : Valuesᵒ) (e : Bindings) (w : Way) (d : Bindings) → FollowsAll dialect ps ms vs e w d → ComeAll ts vs → Came ts e → Came ts d
  each_come dialect ts no_patterns ms vs e w d h c k = subst (Came ts) (sym h.1) k
  each_come dialect ts (p ▸ᵖ ps) no_matchers vs e w d h c k = subst (Came ts) (sym h.1) k
  each_come dialect ts (p ▸ᵖ ps) (m ▸ᵐ ms) emptyᵒ e w d h c k = subst (Came ts) (sym h.1) k
  each_come dialect ts (p ▸ᵖ ps) (m ▸ᵐ ms) (v ▸ᵒ vs) e w d h c k =
      each_come dialect ts ps ms vs h.between h.two d h.others c.1 (follows_come dialect ts p m v e h.one h.between h.first c.0 k)

came_each : (ts : List ℤ) (e : Bindings) → Came ts e → (u : Valueᵒ) → Mem u e → Comes ts u
unfolding Came
came_each ts [] c u i = absurd (Memᴰ.not-nil i)
came_each ts (v ∷ e) c u i = ⊎_elim (λ q. subst (Comes ts) (sym q) c.0) (λ j. came_each ts e c.1 u j) (Memᴰ.cases_cons i)

-- The target comes from its own words.
target_comes : (v : Value) → Comes (words v) (target v)
unfolding target
target_comes v = record { index = 0; place = 0; whole = v; stands = record { after = []; here = sym (append-nil (words v)) }; taken = inl refl }

pub bindings_point_back : (dialect : Dialect) (ts : List ℤ) (m : Matcher) (p : Pattern) (v : Value) (w : Way) (e : Bindings) → ts ≡ words v → Good dialect m p v w e
    → (u : Valueᵒ) → Mem u e → PointsBack ts u
unfolding Good Came
bindings_point_back dialect ts m p v w e q g u i =
    comes_points ts u (came_each ts e (follows_come dialect ts p m (target v) [] w e g (subst (λ l. Comes l (target v)) (sym q) (target_comes v)) tt) u i)
