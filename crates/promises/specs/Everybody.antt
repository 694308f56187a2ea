-- A pattern that is always true has a good way on every value that fits its matcher.
use Rattle.std.specs.Prelude.{ℕ, ◌+◌, ◌≡◌, refl, Bool, true, false, not, ◌&&◌, List, [], ◌∷◌, ◌++◌, T, eqb}
use Rattle.std.proofs.Common.{zero-le, subst, inl}
use Rattle.rules.specs.Dialects.{Dialect}
use Rattle.rules.specs.Forms.{Matcher, something, integer, list, multiset, tuple_of, Matchers, no_matchers, ◌▸ᵐ◌, countᵐ}
use Rattle.rules.specs.Forms.{Pattern, wildcard, nil, variable, constant, value, cons, join, tuple, both, either, never, Patterns, no_patterns, ◌▸ᵖ◌, countᵖ, span}
use Rattle.rules.specs.Origins.{Valueᵒ, intᵒ, collectionᵒ, tupledᵒ, Valuesᵒ, emptyᵒ, ◌▸ᵒ◌, Bindings, plain, plain_all}
use Rattle.rules.specs.Reading.{Verdict, ok, ◌then◌}
use Rattle.rules.specs.Variables.{demand}
use Rattle.rules.specs.Fit.{among, takes, members, told_apart, fits, fits_in, fits_parts, fits_parts_in}
use Rattle.rules.specs.Origins.{Bindings}
use Rattle.rules.specs.Ways.{Way, Parts, JoinBy, Follows, FollowsAll}
use Rattle.rules.specs.Always.{tags, tags_all, failing, none_fails}
use Rattle.forms.specs.Tests.{and_split}
use Rattle.forms.specs.Readers.{then_ok}
use Rattle.forms.specs.Numbering.{demand_ok}
use Rattle.promises.specs.Suited.{Every, Suits, SuitsEach, tuple_suits}

-- None of the tags of two parts fails exactly if none of either does.
pub none_append : (xs ys : List ℕ) → none_fails (xs ++ ys) ≡ (none_fails xs && none_fails ys)
unfolding none_fails
none_append [] ys = refl
none_append (x ∷ xs) ys = both_ways (not (among x failing)) (none_fails xs) (none_fails ys) (none_fails (xs ++ ys)) (none_append xs ys)
  where
    both_ways : (a b c d : Bool) → d ≡ (b && c) → (a && d) ≡ ((a && b) && c)
    both_ways true b c d e = e
    both_ways false b c d e = refl

none_split : (xs ys : List ℕ) → T (none_fails (xs ++ ys)) → T (none_fails xs) × T (none_fails ys)
none_split xs ys h = and_split (none_fails xs) (none_fails ys) (subst T (none_append xs ys) h)

-- From the bindings e some way is good.
abbrev pub Passes : (dialect : Dialect) → Pattern → Matcher → Valueᵒ → Bindings → Type 0
Passes dialect p m v e = (w : Way) × (d : Bindings) × Follows dialect p m v e w d

abbrev PassesAll : (dialect : Dialect) → Patterns → Matchers → Valuesᵒ → Bindings → Type 0
PassesAll dialect ps ms vs e = (w : Way) × (d : Bindings) × FollowsAll dialect ps ms vs e w d

-- A join under a list: the emptyᵒ front, and the whole as its back.
join_passes : (dialect : Dialect) (p q : Pattern) (m : Matcher) (v : Valueᵒ) (e : Bindings) → T (takes m 6) → Suits m (plain v)
    → ((u : Valueᵒ) (c : Bindings) → Suits m (plain u) → Passes dialect p m u c) → ((u : Valueᵒ) (c : Bindings) → Suits m (plain u) → Passes dialect q m u c) → Passes dialect (join p q) m v e
unfolding takes Suits Every Follows JoinBy plain
join_passes dialect p q something v e t s f g = absurd t
join_passes dialect p q integer v e t s f g = absurd t
join_passes dialect p q (list m) (intᵒ o x) e t s f g = absurd s
join_passes dialect p q (list m) (collectionᵒ o vs) e t s f g =
    let x = f (collectionᵒ o emptyᵒ) e tt in
    let y = g (collectionᵒ o vs) x.1 s in (
      0 ∷ (x.0 ++ y.0),
      y.1,
      record {
        here = 0 ∷ [];
        one = x.0;
        two = y.0;
        a = collectionᵒ o emptyᵒ;
        b = collectionᵒ o vs;
        between = x.1;
        divided = (0, refl, zero-le, refl, refl);
        first = x.2;
        second = y.2;
        way = refl;
      },
    )
join_passes dialect p q (list m) (tupledᵒ o vs) e t s f g = absurd s
join_passes dialect p q (multiset m) v e t s f g = absurd t
join_passes dialect p q (tuple_of ms) v e t s f g = absurd t

-- A tuple's parts, of a tuple.
tuple_passes : (dialect : Dialect) (ps : Patterns) (m : Matcher) (v : Valueᵒ) (e : Bindings) → T (takes m 7) → Suits m (plain v)
    → ((vs : Valuesᵒ) → SuitsEach (members m) (plain_all vs) → PassesAll dialect ps (members m) vs e) → Passes dialect (tuple ps) m v e
unfolding takes Suits Follows Parts plain
tuple_passes dialect ps something v e t s f = absurd t
tuple_passes dialect ps integer v e t s f = absurd t
tuple_passes dialect ps (list m) v e t s f = absurd t
tuple_passes dialect ps (multiset m) v e t s f = absurd t
tuple_passes dialect ps (tuple_of ms) (intᵒ o x) e t s f = absurd s
tuple_passes dialect ps (tuple_of ms) (collectionᵒ o vs) e t s f = absurd s
tuple_passes dialect ps (tuple_of ms) (tupledᵒ o vs) e t s f = f vs (tuple_suits (tuple_of ms) (plain_all vs) s)

-- One part, and then the others.
both_passes : (dialect : Dialect) (p q : Pattern) (m : Matcher) (v : Valueᵒ) (e : Bindings) → Passes dialect p m v e → ((d : Bindings) → Passes dialect q m v d) → Passes dialect (both p q) m v e
unfolding Follows
both_passes dialect p q m v e x g =
    let y = g x.1 in
    (x.0 ++ y.0, y.1, record { one = x.0; two = y.0; between = x.1; first = x.2; others = y.2; way = refl })

next_passes : (dialect : Dialect) (p : Pattern) (ps : Patterns) (m : Matcher) (ms : Matchers) (v : Valueᵒ) (vs : Valuesᵒ) (e : Bindings) → Passes dialect p m v e
    → ((d : Bindings) → PassesAll dialect ps ms vs d) → PassesAll dialect (p ▸ᵖ ps) (m ▸ᵐ ms) (v ▸ᵒ vs) e
unfolding FollowsAll
next_passes dialect p ps m ms v vs e x g =
    let y = g x.1 in
    (x.0 ++ y.0, y.1, record { one = x.0; two = y.0; between = x.1; first = x.2; others = y.2; way = refl })

-- An or by its first side.
either_passes : (dialect : Dialect) (p q : Pattern) (m : Matcher) (v : Valueᵒ) (e : Bindings) → Passes dialect p m v e → Passes dialect (either p q) m v e
unfolding Follows
either_passes dialect p q m v e x = (0 ∷ x.0, x.1, inl (record { rest = x.0; inside = x.2; way = refl }))

suits_first : (m : Matcher) (ms : Matchers) (v : Valueᵒ) (vs : Valuesᵒ) → SuitsEach (m ▸ᵐ ms) (plain_all (v ▸ᵒ vs)) → Suits m (plain v)
unfolding SuitsEach plain_all
suits_first m ms v vs s = s.0

suits_others : (m : Matcher) (ms : Matchers) (v : Valueᵒ) (vs : Valuesᵒ) → SuitsEach (m ▸ᵐ ms) (plain_all (v ▸ᵒ vs)) → SuitsEach ms (plain_all vs)
unfolding SuitsEach plain_all
suits_others m ms v vs s = s.1

-- What a tag with two parts demands of its matcher, and the fit of the parts.
two_parts : (b : Bool) (at : ℕ) (ks ls : List Matcher) (f g : List Matcher → Verdict (List Matcher)) → (demand b at ks then λ is. f is then g) ≡ ok ls
    → T b × (is : List Matcher) × (js : List Matcher) × (f is ≡ ok js) × (g js ≡ ok ls)
two_parts b at ks ls f g e =
    let t = then_ok (demand b at ks) (λ is. f is then g) ls e in
    let u = then_ok (f t.0) g ls t.2 in
    ((demand_ok b at ks t.0 t.1).0, t.0, u.0, u.1, u.2)

mutual
  unfolding tags none_fails fits_in fits_parts_in told_apart Follows

  pub always_passes : (dialect : Dialect) (p : Pattern) (m : Matcher) (at : ℕ) (ks ls : List Matcher) → T (none_fails (tags p)) → fits p m at ks ≡ ok ls
      → (v : Valueᵒ) (e : Bindings) → Suits m (plain v) → Passes dialect p m v e
  always_passes dialect wildcard m at ks ls a f v e s = ([], e, (refl, refl))
  always_passes dialect (variable x) m at ks ls a f v e s = ([], e ++ (v ∷ []), (refl, refl))
  always_passes dialect (constant c) m at ks ls a f v e s = absurd a
  always_passes dialect (value x c) m at ks ls a f v e s = absurd a
  always_passes dialect nil m at ks ls a f v e s = absurd a
  always_passes dialect (cons p q) m at ks ls a f v e s = absurd a
  always_passes dialect (join p q) m at ks ls a f v e s =
      let b = none_split (tags p) (tags q) a in
      let t = two_parts (takes m 6) at ks ls (λ is. fits p m (at + 1) is) (λ is. fits q m (at + 1 + span p) is) f in
      join_passes dialect p q m v e t.0 s
      (λ u c h. always_passes dialect p m (at + 1) t.1 t.2 b.0 t.3 u c h)
      (λ u c h. always_passes dialect q m (at + 1 + span p) t.2 ls b.1 t.4 u c h)
  always_passes dialect (tuple ps) m at ks ls a f v e s =
      let t = then_ok (demand (takes m 7 && eqb (countᵖ ps) (countᵐ (members m))) at ks) (λ is. fits_parts ps (members m) (at + 2) is) ls f in
      let d = (demand_ok (takes m 7 && eqb (countᵖ ps) (countᵐ (members m))) at ks t.0 t.1).0 in
      tuple_passes dialect ps m v e (and_split (takes m 7) _ d).0 s (λ vs h. always_passes_all dialect ps (members m) (at + 2) t.0 ls a t.2 vs e h)
  always_passes dialect (both p q) m at ks ls a f v e s =
      let b = none_split (tags p) (tags q) a in
      let t = two_parts (takes m 8) at ks ls (λ is. fits p m (at + 1) is) (λ is. fits q m (at + 1 + span p) is) f in
      both_passes dialect p q m v e (always_passes dialect p m (at + 1) t.1 t.2 b.0 t.3 v e s)
      (λ d. always_passes dialect q m (at + 1 + span p) t.2 ls b.1 t.4 v d s)
  always_passes dialect (either p q) m at ks ls a f v e s =
      let b = none_split (tags p) (tags q) a in
      let t = two_parts (takes m 9) at ks ls (λ is. fits p m (at + 1) is) (λ is. fits q m (at + 1 + span p) is) f in
      either_passes dialect p q m v e (always_passes dialect p m (at + 1) t.1 t.2 b.0 t.3 v e s)
  always_passes dialect (never p) m at ks ls a f v e s = absurd a

  always_passes_all : (dialect : Dialect) (ps : Patterns) (ms : Matchers) (at : ℕ) (ks ls : List Matcher) → T (none_fails (tags_all ps)) → fits_parts ps ms at ks ≡ ok ls
      → (vs : Valuesᵒ) (e : Bindings) → SuitsEach ms (plain_all vs) → PassesAll dialect ps ms vs e
  always_passes_all dialect no_patterns ms at ks ls a f vs e s = ([], e, (refl, refl))
  always_passes_all dialect (p ▸ᵖ ps) no_matchers at ks ls a f vs e s = ([], e, (refl, refl))
  always_passes_all dialect (p ▸ᵖ ps) (m ▸ᵐ ms) at ks ls a f emptyᵒ e s = ([], e, (refl, refl))
  always_passes_all dialect (p ▸ᵖ ps) (m ▸ᵐ ms) at ks ls a f (v ▸ᵒ vs) e s =
      let b = none_split (tags p) (tags_all ps) a in
      let t = then_ok (fits p m at ks) (λ is. fits_parts ps ms (at + span p) is) ls f in
      next_passes dialect p ps m ms v vs e (always_passes dialect p m at ks t.0 b.0 t.1 v e (suits_first m ms v vs s))
      (λ d. always_passes_all dialect ps ms (at + span p) t.0 ls b.1 t.2 vs d (suits_others m ms v vs s))
