-- The two forms of document 01, section 5, say the same: a way is good, with its bindings, exactly where the computation lists it with them.
use Rattle.std.specs.Prelude.{ℕ, ◌≡◌, refl, Bool, true, false, ◌↔◌, T}
use Rattle.std.proofs.Common.{sym, ap₂, ◌∙◌, inl, inr, ⊎_elim}
use Rattle.std.proofs.Math.Path.{ap, subst}
use mathlib.Core.List.Memᴰ
use mathlib.Core.List.{List, [], ◌∷◌, ◌++◌, map}
use Rattle.rules.specs.Dialects.{Dialect}
use Rattle.rules.specs.Forms.{Matcher, Matchers, no_matchers, ◌▸ᵐ◌, Value}
use Rattle.rules.specs.Origins.{Valueᵒ, intᵒ, collectionᵒ, tupledᵒ, Valuesᵒ, emptyᵒ, ◌▸ᵒ◌, Bindings, plain, target}
use Rattle.rules.specs.Forms.{Pattern, wildcard, nil, variable, constant, value, cons, join, tuple, both, either, never, Patterns, no_patterns, ◌▸ᵖ◌}
use Rattle.rules.specs.Fit.{element, members}
use Rattle.rules.specs.Equality.{is_constant, is_value, is_empty}
use Rattle.rules.specs.Search.{Halves, cons_halves_in, join_halves}
use Rattle.rules.specs.Ways.{Way, ConsBy, JoinBy, Halved, Next, Side, Follows, FollowsAll, Good}
use Rattle.forms.specs.Lists.{Mem, mem_flat_map, of_flat_map}
use Rattle.rules.specs.Following.{Solution, Numbered, numbered, is_multiset, mark, extend, chain, on_side, combine, just, when_so, no_solution, solve, solve_each, good_ways}
use Rattle.promises.specs.Choices.{Made, cons_sound, cons_complete, join_sound, join_complete}

abbrev pub solution : Way → Bindings → Solution
solution w d = record { way = w; bound = d }

-- ---- The members of a chain.

module _ (w : Way) (ss : List Solution) (g : Bindings → List Solution) where
  pub in_chain : (s t : Solution) → Mem s ss → Mem t (g s.bound) → Mem (extend w s t) (chain w ss g)
  unfolding chain
  in_chain s t i j = mem_flat_map (λ r. map (extend w r) (g r.bound)) i (Memᴰ.map (extend w s) j)

  pub of_chain : (r : Solution) → Mem r (chain w ss g) → (s t : Solution) × Mem s ss × Mem t (g s.bound) × (extend w s t ≡ r)
  unfolding chain
  of_chain r i =
      let x = of_flat_map (λ s. map (extend w s) (g s.bound)) ss i in
      let y = Memᴰ.of_map (extend w x.0) (g x.0.bound) x.2 in
      (x.0, y.0, x.1, y.1, y.2)

-- ---- Leaves: nothing is chosen.

just_sound : (e : Bindings) (s : Solution) → Mem s (just e) → (s.way ≡ []) × (s.bound ≡ e)
unfolding just
just_sound e s i = let q = Memᴰ.eq_of_singleton i in (ap (λ (z : Solution). z.way) q, ap (λ (z : Solution). z.bound) q)

when_sound : (b : Bool) (e : Bindings) (s : Solution) → Mem s (when_so b e) → T b × (s.way ≡ []) × (s.bound ≡ e)
unfolding when_so
when_sound true e s i = let q = just_sound e s i in (tt, q.0, q.1)
when_sound false e s i = absurd (Memᴰ.not-nil i)

just_complete : (e : Bindings) (w : Way) (d : Bindings) → w ≡ [] → d ≡ e → Mem (solution w d) (just e)
unfolding just
just_complete e w d p q = Memᴰ.head (ap₂ solution p q)

when_complete : (b : Bool) (e : Bindings) (w : Way) (d : Bindings) → T b → w ≡ [] → d ≡ e → Mem (solution w d) (when_so b e)
unfolding when_so
when_complete true e w d t p q = just_complete e w d p q
when_complete false e w d t p q = absurd t

-- ---- Cons and join: a choice, then the first part, then the second. What the two share, over how they divide (By) and how the parts are followed.

module _ (b : Bool) (hs : List Halves) (By : Way → Valueᵒ → Valueᵒ → Type 0)
    (First Second : Valueᵒ → Bindings → Way → Bindings → Type 0) (e : Bindings)
    (f : Valueᵒ → List Solution) (g : Valueᵒ → Bindings → List Solution) where
  halved_sound : ((c : Numbered) → Mem c (numbered hs) → By (mark b c.no) c.halves.first c.halves.second)
      → ((a : Valueᵒ) (s : Solution) → Mem s (f a) → First a e s.way s.bound)
      → ((a : Valueᵒ) (d : Bindings) (s : Solution) → Mem s (g a d) → Second a d s.way s.bound)
      → (s : Solution) → Mem s (combine b f g hs) → Halved By First Second e s.way s.bound
  unfolding combine extend
  halved_sound made hf hg s i =
      let x = of_flat_map _ (numbered hs) i in
      let y = of_chain (mark b x.0.no) (f x.0.halves.first) (g x.0.halves.second) s x.2 in
      record {
        here = mark b x.0.no;
        one = y.0.way;
        two = y.1.way;
        a = x.0.halves.first;
        b = x.0.halves.second;
        between = y.0.bound;
        divided = made x.0 x.1;
        first = hf x.0.halves.first y.0 y.2;
        second = subst (λ (t : Solution). Second x.0.halves.second y.0.bound y.1.way t.bound) y.4
            (hg x.0.halves.second y.0.bound y.1 y.3);
        way = ap (λ (t : Solution). t.way) y.4;
      }

  halved_complete : ((here : Way) (x y : Valueᵒ) → By here x y → Made b hs here x y)
      → ((a : Valueᵒ) (w : Way) (d : Bindings) → First a e w d → Mem (solution w d) (f a))
      → ((a : Valueᵒ) (c : Bindings) (w : Way) (d : Bindings) → Second a c w d → Mem (solution w d) (g a c))
      → (w : Way) (d : Bindings) → Halved By First Second e w d → Mem (solution w d) (combine b f g hs)
  unfolding combine extend
  halved_complete made hf hg w d h =
      let c = made h.here h.a h.b h.divided in
      Memᴰ.cast (ap (λ x. solution x d) (sym h.way ∙ ap (λ x. x ++ (h.one ++ h.two)) (sym c.way)))
      (mem_flat_map _ c.member
      (in_chain (mark b c.c.no) (f c.c.halves.first) (g c.c.halves.second) (solution h.one h.between) (solution h.two d)
      (subst (λ (z : Halves). Mem (solution h.one h.between) (f z.first)) (sym c.is) (hf h.a h.one h.between h.first))
      (subst (λ (z : Halves). Mem (solution h.two d) (g z.second h.between)) (sym c.is) (hg h.b h.between h.two d h.second))))

-- ---- A part of a tuple and then the others.

module _ (First Others : Bindings → Way → Bindings → Type 0) (e : Bindings) (ss : List Solution) (g : Bindings → List Solution) where
  next_sound : ((s : Solution) → Mem s ss → First e s.way s.bound)
      → ((d : Bindings) (s : Solution) → Mem s (g d) → Others d s.way s.bound)
      → (s : Solution) → Mem s (chain [] ss g) → Next First Others e s.way s.bound
  unfolding extend
  next_sound hf hg s i =
      let y = of_chain [] ss g s i in
      record {
        one = y.0.way;
        two = y.1.way;
        between = y.0.bound;
        first = hf y.0 y.2;
        others = subst (λ (t : Solution). Others y.0.bound y.1.way t.bound) y.4 (hg y.0.bound y.1 y.3);
        way = ap (λ (t : Solution). t.way) y.4;
      }

  next_complete : ((w : Way) (d : Bindings) → First e w d → Mem (solution w d) ss)
      → ((c : Bindings) (w : Way) (d : Bindings) → Others c w d → Mem (solution w d) (g c))
      → (w : Way) (d : Bindings) → Next First Others e w d → Mem (solution w d) (chain [] ss g)
  unfolding extend
  next_complete hf hg w d h = Memᴰ.cast (ap (λ x. solution x d) (sym h.way))
      (in_chain [] ss g (solution h.one h.between) (solution h.two d)
      (hf h.one h.between h.first) (hg h.between h.two d h.others))

-- ---- The side of an or.

side_sound : (k : ℕ) (In : Way → Bindings → Type 0) (ss : List Solution) → ((s : Solution) → Mem s ss → In s.way s.bound)
    → (s : Solution) → Mem s (map (on_side k) ss) → Side k (λ u. In u s.bound) s.way
unfolding on_side
side_sound k In ss h s i =
    let r = Memᴰ.of_map (on_side k) ss i in
    record {
      rest = r.0.way;
      inside = subst (λ (t : Solution). In r.0.way t.bound) r.2 (h r.0 r.1);
      way = ap (λ (t : Solution). t.way) r.2;
    }

side_complete : (k : ℕ) (In : Way → Bindings → Type 0) (ss : List Solution) → ((w : Way) (d : Bindings) → In w d → Mem (solution w d) ss)
    → (w : Way) (d : Bindings) → Side k (λ u. In u d) w → Mem (solution w d) (map (on_side k) ss)
unfolding on_side
side_complete k In ss h w d s = Memᴰ.cast (ap (λ x. solution x d) (sym s.way)) (Memᴰ.map (on_side k) (h s.rest d s.inside))

-- ---- No way at all, inside a not.

no_solution_sound : (ss : List Solution) → T (no_solution ss) → (s : Solution) → Mem s ss → ⊥
unfolding no_solution
no_solution_sound [] t s i = Memᴰ.not-nil i
no_solution_sound (r ∷ ss) t s i = t

no_solution_complete : (ss : List Solution) → ((s : Solution) → Mem s ss → ⊥) → T (no_solution ss)
unfolding no_solution
no_solution_complete [] h = tt
no_solution_complete (s ∷ ss) h = absurd (h s (Memᴰ.head refl))

-- ---- Sound and complete.

mutual
  unfolding solve Follows

  pub sound : (dialect : Dialect) (p : Pattern) (m : Matcher) (v : Valueᵒ) (e : Bindings) (s : Solution) → Mem s (solve dialect p m v e) → Follows dialect p m v e s.way s.bound
  sound dialect wildcard m v e s i = just_sound e s i
  sound dialect nil m v e s i = when_sound (is_empty (plain v)) e s i
  sound dialect (variable x) m v e s i = just_sound (e ++ (v ∷ [])) s i
  sound dialect (constant c) m v e s i = when_sound (is_constant c (plain v)) e s i
  sound dialect (value x c) m v e s i = when_sound (is_value m (map plain e) x c (plain v)) e s i
  sound dialect (cons p q) m v e s i =
      halved_sound (is_multiset m) (cons_halves_in dialect m v) (ConsBy dialect m v) (Follows dialect p (element m)) (Follows dialect q m) e (λ a. solve dialect p (element m) a e) (solve dialect q m)
      (cons_sound dialect m v) (λ a t j. sound dialect p (element m) a e t j) (λ a d t j. sound dialect q m a d t j) s i
  sound dialect (join p q) m v e s i =
      halved_sound true (join_halves v) (JoinBy v) (Follows dialect p m) (Follows dialect q m) e (λ a. solve dialect p m a e) (solve dialect q m)
      (join_sound v) (λ a t j. sound dialect p m a e t j) (λ a d t j. sound dialect q m a d t j) s i
  sound dialect (tuple ps) m (intᵒ o x) e s i = absurd (Memᴰ.not-nil i)
  sound dialect (tuple ps) m (collectionᵒ o vs) e s i = absurd (Memᴰ.not-nil i)
  sound dialect (tuple ps) m (tupledᵒ o vs) e s i = sound_each dialect ps (members m) vs e s i
  sound dialect (both p q) m v e s i = next_sound (Follows dialect p m v) (Follows dialect q m v) e (solve dialect p m v e) (solve dialect q m v)
      (λ t j. sound dialect p m v e t j) (λ d t j. sound dialect q m v d t j) s i
  sound dialect (either p q) m v e s i = ⊎_elim
      (λ j. inl (side_sound 0 (Follows dialect p m v e) (solve dialect p m v e) (λ t l. sound dialect p m v e t l) s j))
      (λ j. inr (side_sound 1 (Follows dialect q m v e) (solve dialect q m v e) (λ t l. sound dialect q m v e t l) s j))
      (Memᴰ.append_cases (map (on_side 0) (solve dialect p m v e)) i)
  sound dialect (never p) m v e s i =
      let r = when_sound (no_solution (solve dialect p m v e)) e s i in
      ((λ u c h. no_solution_sound (solve dialect p m v e) r.0 (solution u c) (complete dialect p m v e u c h)), r.1, r.2)

  sound_each : (dialect : Dialect) (ps : Patterns) (ms : Matchers) (vs : Valuesᵒ) (e : Bindings) (s : Solution) → Mem s (solve_each dialect ps ms vs e)
      → FollowsAll dialect ps ms vs e s.way s.bound
  sound_each dialect no_patterns ms vs e s i = just_sound e s i
  sound_each dialect (p ▸ᵖ ps) no_matchers vs e s i = just_sound e s i
  sound_each dialect (p ▸ᵖ ps) (m ▸ᵐ ms) emptyᵒ e s i = just_sound e s i
  sound_each dialect (p ▸ᵖ ps) (m ▸ᵐ ms) (v ▸ᵒ vs) e s i =
      next_sound (Follows dialect p m v) (FollowsAll dialect ps ms vs) e (solve dialect p m v e) (solve_each dialect ps ms vs)
      (λ t j. sound dialect p m v e t j) (λ d t j. sound_each dialect ps ms vs d t j) s i

  pub complete : (dialect : Dialect) (p : Pattern) (m : Matcher) (v : Valueᵒ) (e : Bindings) (w : Way) (d : Bindings) → Follows dialect p m v e w d → Mem (solution w d) (solve dialect p m v e)
  complete dialect wildcard m v e w d h = just_complete e w d h.0 h.1
  complete dialect nil m v e w d h = when_complete (is_empty (plain v)) e w d h.0 h.1 h.2
  complete dialect (variable x) m v e w d h = just_complete (e ++ (v ∷ [])) w d h.0 h.1
  complete dialect (constant c) m v e w d h = when_complete (is_constant c (plain v)) e w d h.0 h.1 h.2
  complete dialect (value x c) m v e w d h = when_complete (is_value m (map plain e) x c (plain v)) e w d h.0 h.1 h.2
  complete dialect (cons p q) m v e w d h =
      halved_complete (is_multiset m) (cons_halves_in dialect m v) (ConsBy dialect m v) (Follows dialect p (element m)) (Follows dialect q m) e (λ a. solve dialect p (element m) a e) (solve dialect q m)
      (cons_complete dialect m v) (λ a u c j. complete dialect p (element m) a e u c j) (λ a b u c j. complete dialect q m a b u c j) w d h
  complete dialect (join p q) m v e w d h =
      halved_complete true (join_halves v) (JoinBy v) (Follows dialect p m) (Follows dialect q m) e (λ a. solve dialect p m a e) (solve dialect q m)
      (join_complete v) (λ a u c j. complete dialect p m a e u c j) (λ a b u c j. complete dialect q m a b u c j) w d h
  complete dialect (tuple ps) m (intᵒ o x) e w d h = absurd h
  complete dialect (tuple ps) m (collectionᵒ o vs) e w d h = absurd h
  complete dialect (tuple ps) m (tupledᵒ o vs) e w d h = complete_each dialect ps (members m) vs e w d h
  complete dialect (both p q) m v e w d h = next_complete (Follows dialect p m v) (Follows dialect q m v) e (solve dialect p m v e) (solve dialect q m v)
      (λ u c j. complete dialect p m v e u c j) (λ b u c j. complete dialect q m v b u c j) w d h
  complete dialect (either p q) m v e w d (inl h) = Memᴰ.append_left (map (on_side 1) (solve dialect q m v e))
      (side_complete 0 (Follows dialect p m v e) (solve dialect p m v e) (λ u c j. complete dialect p m v e u c j) w d h)
  complete dialect (either p q) m v e w d (inr h) = Memᴰ.append_right (map (on_side 0) (solve dialect p m v e))
      (side_complete 1 (Follows dialect q m v e) (solve dialect q m v e) (λ u c j. complete dialect q m v e u c j) w d h)
  complete dialect (never p) m v e w d h = when_complete (no_solution (solve dialect p m v e)) e w d
      (no_solution_complete (solve dialect p m v e) (λ s i. h.0 s.way s.bound (sound dialect p m v e s i))) h.1 h.2

  complete_each : (dialect : Dialect) (ps : Patterns) (ms : Matchers) (vs : Valuesᵒ) (e : Bindings) (w : Way) (d : Bindings) → FollowsAll dialect ps ms vs e w d
      → Mem (solution w d) (solve_each dialect ps ms vs e)
  complete_each dialect no_patterns ms vs e w d h = just_complete e w d h.0 h.1
  complete_each dialect (p ▸ᵖ ps) no_matchers vs e w d h = just_complete e w d h.0 h.1
  complete_each dialect (p ▸ᵖ ps) (m ▸ᵐ ms) emptyᵒ e w d h = just_complete e w d h.0 h.1
  complete_each dialect (p ▸ᵖ ps) (m ▸ᵐ ms) (v ▸ᵒ vs) e w d h = next_complete (Follows dialect p m v) (FollowsAll dialect ps ms vs) e (solve dialect p m v e) (solve_each dialect ps ms vs)
      (λ u c j. complete dialect p m v e u c j) (λ b u c j. complete_each dialect ps ms vs b u c j) w d h

-- ---- The theorem.

pub good_is_computed : (dialect : Dialect) (m : Matcher) (p : Pattern) (v : Value) (w : Way) (e : Bindings) → Good dialect m p v w e ↔ Mem (solution w e) (good_ways dialect m p v)
unfolding Good good_ways
good_is_computed dialect m p v w e = (complete dialect p m (target v) [] w e, sound dialect p m (target v) [] (solution w e))
