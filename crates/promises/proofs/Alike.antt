-- Laws of what specs/Alike.antt defines.
use Rattle.std.specs.Prelude.{◌≡◌, refl, Bool, true, false, not, ◌&&◌, ◌||◌, T, ℤ}
use Rattle.std.proofs.Common.{sym, ap, ap₂, ◌∙◌, subst, inl, inr, ⊎_elim}
use Rattle.std.proofs.Math.Option.{Option, none, some}
use mathlib.Core.List.Memᴰ
use mathlib.Core.List.{List, [], ◌∷◌, map, flat_map}
use Rattle.rules.specs.Forms.{Matcher, something, integer, list, multiset, tuple_of, Matchers, no_matchers, ◌▸ᵐ◌}
use Rattle.rules.specs.Forms.{Value, int, collection, tupled, Values, empty, ◌▸◌}
use Rattle.rules.specs.Forms.{Pattern, wildcard, variable, constant, value, nil, cons, join, tuple, both, either, never, Patterns, no_patterns, ◌▸ᵖ◌}
use Rattle.rules.specs.Origins.{Valueᵒ, intᵒ, collectionᵒ, tupledᵒ, Valuesᵒ, emptyᵒ, ◌▸ᵒ◌, Bindings, plain, plain_all}
use Rattle.rules.specs.Reading.{entry}
use Rattle.rules.specs.Dialects.{every_place}
use Rattle.rules.specs.Fit.{takes, element, members, is_something}
use Rattle.rules.specs.Equality.{in_order, equal, equal_parts, is_constant, raised, equal_to, is_value, is_empty}
use Rattle.rules.specs.Search.{Taking, takings, behind, Cut, cuts, longer, Halves, cons_halves, cons_halves_in, join_halves}
use Rattle.rules.specs.Following.{of_parts}
use Rattle.forms.specs.Tests.{and_split, and_join, or_left, or_right, bool_ext}
use Rattle.forms.specs.Lists.{Mem}
use Rattle.forms.specs.Paired.{Ins, Paired, less}
use Rattle.forms.specs.Pairing.{equal_equiv, same_eq, paired_off_true, true_paired_off}
use Rattle.promises.specs.Trace.{Met, taken, ended, pass, only_if, inside, visit, visit_each}
use Rattle.promises.specs.Told.{Told, ToldAll}
use Rattle.promises.specs.Alike.{Partner, ends, ends_append, taking_ins}

pub ends_inside : (xs ys : List Met) → ends (inside xs ys) ≡ (not (ends xs) && ends ys)
unfolding ends inside
ends_inside [] ys = refl
ends_inside (taken t ∷ xs) ys = ends_inside xs ys
ends_inside (ended ∷ xs) ys = refl

ends_only : (b c : Bool) (xs ys : List Met) → b ≡ c → ends xs ≡ ends ys → ends (only_if b xs) ≡ ends (only_if c ys)
unfolding ends only_if
ends_only true c xs ys e h = h ∙ ap (λ b. ends (only_if b ys)) e
ends_only false c xs ys e h = ap (λ b. ends (only_if b ys)) e

ends_leaf : (b : Bool) (xs ys : List Met) → ends xs ≡ ends ys
    → ends (elim b as (λ _. List Met) [ true ↦ xs | false ↦ pass ∷ xs ]) ≡ ends (elim b as (λ _. List Met) [ true ↦ ys | false ↦ pass ∷ ys ])
unfolding ends
ends_leaf true xs ys h = h
ends_leaf false xs ys h = h

-- After one of several choices.
ends_some : (f : Halves → List Met) (hs : List Halves) → T (ends (flat_map f hs)) → (h : Halves) × Mem h hs × T (ends (f h))
unfolding flat_map ends
ends_some f [] t = absurd t
ends_some f (h ∷ hs) t = go (ends (f h)) refl (subst T (ends_append (f h) (flat_map f hs)) t) (λ s. ends_some f hs s)
  where
    go : (b : Bool) → ends (f h) ≡ b → T (b || ends (flat_map f hs)) → (T (ends (flat_map f hs)) → (g : Halves) × Mem g hs × T (ends (f g)))
        → (g : Halves) × Mem g (h ∷ hs) × T (ends (f g))
    go true e s rec = (h, Memᴰ.head refl, subst T (sym e) tt)
    go false e s rec = let r = rec s in (r.0, Memᴰ.tail r.1, r.2)

ends_by : (f : Halves → List Met) (hs : List Halves) (h : Halves) → Mem h hs → T (ends (f h)) → T (ends (flat_map f hs))
unfolding flat_map
ends_by f [] h i t = absurd (Memᴰ.not-nil i)
ends_by f (g ∷ hs) h i t = subst T (sym (ends_append (f g) (flat_map f hs))) (⊎_elim
    (λ e. or_left (ends (f g)) (ends (flat_map f hs)) (subst (λ x. T (ends (f x))) e t))
    (λ j. or_right (ends (f g)) (ends (flat_map f hs)) (ends_by f hs h j t)) (Memᴰ.cases_cons i))

-- ---- Tags 2, 3 and 4.

constant_alike : (m : Matcher) (c : ℤ) (v w : Value) → T (takes m 2) → T (equal m v w) → is_constant c v ≡ is_constant c w
unfolding takes equal is_constant
constant_alike something c v w t q = absurd t
constant_alike integer c (int x) (int y) t q = ap (λ z. is_constant c (int z)) (same_eq x y q)
constant_alike integer c (int x) (collection ws) t q = absurd q
constant_alike integer c (int x) (tupled ws) t q = absurd q
constant_alike integer c (collection vs) w t q = absurd q
constant_alike integer c (tupled vs) w t q = absurd q
constant_alike (list m) c v w t q = absurd t
constant_alike (multiset m) c v w t q = absurd t
constant_alike (tuple_of ms) c v w t q = absurd t

-- "The matcher at tag 3 decides the equality": it is the one under which v and w are equal.
value_alike : (m : Matcher) (e : List Value) (x c : ℤ) (v w : Value) → T (equal m v w) → is_value m e x c v ≡ is_value m e x c w
unfolding is_value equal_to
value_alike m e x c v w q = go (entry e x)
  where
    to : (o : Option Value) → equal_to m o v ≡ equal_to m o w
    to none = refl
    to (some u) = bool_ext (equal m u v) (equal m u w) (λ t. (equal_equiv m).tran u v w t q) (λ t. (equal_equiv m).tran u w v t ((equal_equiv m).symm v w q))

    go : (o : Option Value) → ◌≡◌ {A = Bool} (elim o as (λ _. Bool) [ none ↦ false | some u ↦ equal_to m (raised c u) v ])
        (elim o as (λ _. Bool) [ none ↦ false | some u ↦ equal_to m (raised c u) w ])
    go none = refl
    go (some u) = to (raised c u)

paired_empty : (E : Value → Value → Bool) (vs ws : Values) → Paired E vs ws → is_empty (collection vs) ≡ is_empty (collection ws)
unfolding is_empty
paired_empty E empty empty p = refl
paired_empty E empty (w ▸ ws) p = absurd p
paired_empty E (v ▸ vs) empty p = absurd p.3
paired_empty E (v ▸ vs) (w ▸ ws) p = refl

empty_alike : (m : Matcher) (v w : Value) → T (takes m 4) → T (equal m v w) → is_empty v ≡ is_empty w
unfolding takes equal is_empty in_order
empty_alike something v w t q = absurd t
empty_alike integer v w t q = absurd t
empty_alike (list m) (int x) w t q = absurd q
empty_alike (list m) (collection vs) (int y) t q = absurd q
empty_alike (list m) (collection empty) (collection empty) t q = refl
empty_alike (list m) (collection empty) (collection (w ▸ ws)) t q = absurd q
empty_alike (list m) (collection (v ▸ vs)) (collection empty) t q = absurd q
empty_alike (list m) (collection (v ▸ vs)) (collection (w ▸ ws)) t q = refl
empty_alike (list m) (collection vs) (tupled ws) t q = absurd q
empty_alike (list m) (tupled vs) w t q = absurd q
empty_alike (multiset m) (int x) w t q = absurd q
empty_alike (multiset m) (collection vs) (int y) t q = absurd q
empty_alike (multiset m) (collection vs) (collection ws) t q = paired_empty (equal m) vs ws (paired_off_true (equal m) vs ws q)
empty_alike (multiset m) (collection vs) (tupled ws) t q = absurd q
empty_alike (multiset m) (tupled vs) w t q = absurd q
empty_alike (tuple_of ms) v w t q = absurd t

ins_taking : (vs : Valuesᵒ) (x : Value) (us : Values) → Ins x us (plain_all vs) → (t : Taking) × Mem t (takings vs) × (plain t.one ≡ x) × (plain_all t.others ≡ us)
unfolding takings behind plain_all
ins_taking emptyᵒ x us i = absurd i
ins_taking (v ▸ᵒ vs) x us (inl i) = (record { one = v; others = vs }, Memᴰ.head refl, sym i.0, sym i.1)
ins_taking (v ▸ᵒ vs) x us (inr i) =
    let r = ins_taking vs x i.0 i.2 in
    (behind v r.0, Memᴰ.tail (Memᴰ.map (behind v) r.1), r.2, ap (λ z. plain v ▸ z) r.3 ∙ sym i.1)

partner : (m : Matcher) (v w : Valueᵒ) → T (equal (multiset m) (plain v) (plain w)) → (h : Halves) → Mem h (cons_halves (multiset m) v) → Partner m h w
unfolding cons_halves plain equal
partner m (intᵒ o x) w q h i = absurd q
partner m (collectionᵒ o vs) (intᵒ a y) q h i = absurd q
partner m (collectionᵒ o vs) (collectionᵒ a ws) q h i =
    let r = Memᴰ.of_map _ (takings vs) i in
    let s = less (equal m) (equal_equiv m) (plain_all vs) _ _ (plain_all ws) (taking_ins vs r.0 r.1) (paired_off_true (equal m) (plain_all vs) (plain_all ws) q) in
    let u = ins_taking ws s.0 s.1 s.3 in
    subst (λ (g : Halves). Partner m g (collectionᵒ a ws)) r.2 (record {
      half = record { first = u.0.one; second = collectionᵒ a u.0.others };
      member = Memᴰ.map _ u.1;
      first = subst (λ z. T (equal m (plain r.0.one) z)) (sym u.2) s.2;
      second = subst (λ z. T (equal (multiset m) (collection (plain_all r.0.others)) (collection z))) (sym u.3) (true_paired_off (equal m) (plain_all r.0.others) s.1 s.4);
    })
partner m (collectionᵒ o vs) (tupledᵒ a ws) q h i = absurd q
partner m (tupledᵒ o vs) w q h i = absurd q

list_alike : (m : Matcher) (v w : Valueᵒ) (f g : Halves → List Met) → T (equal (list m) (plain v) (plain w))
    → ((h i : Halves) → T (equal m (plain h.first) (plain i.first)) → T (equal (list m) (plain h.second) (plain i.second)) → ends (f h) ≡ ends (g i))
    → ends (flat_map f (cons_halves (list m) v)) ≡ ends (flat_map g (cons_halves (list m) w))
unfolding cons_halves flat_map ends plain equal in_order
list_alike m (intᵒ o x) w f g q H = absurd q
list_alike m (collectionᵒ o vs) (intᵒ a y) f g q H = absurd q
list_alike m (collectionᵒ o emptyᵒ) (collectionᵒ a emptyᵒ) f g q H = refl
list_alike m (collectionᵒ o emptyᵒ) (collectionᵒ a (w ▸ᵒ ws)) f g q H = absurd q
list_alike m (collectionᵒ o (v ▸ᵒ vs)) (collectionᵒ a emptyᵒ) f g q H = absurd q
list_alike m (collectionᵒ o (v ▸ᵒ vs)) (collectionᵒ a (w ▸ᵒ ws)) f g q H =
    let s = and_split (equal m (plain v) (plain w)) _ q in
    ends_append (f _) [] ∙ ap (λ b. b || false) (H _ _ s.0 s.1) ∙ sym (ends_append (g _) [])
list_alike m (collectionᵒ o vs) (tupledᵒ a ws) f g q H = absurd q
list_alike m (tupledᵒ o vs) w f g q H = absurd q

multiset_alike : (m : Matcher) (v w : Valueᵒ) (f g : Halves → List Met) → T (equal (multiset m) (plain v) (plain w))
    → ((h i : Halves) → T (equal m (plain h.first) (plain i.first)) → T (equal (multiset m) (plain h.second) (plain i.second)) → ends (f h) ≡ ends (g i))
    → T (ends (flat_map f (cons_halves (multiset m) v))) → T (ends (flat_map g (cons_halves (multiset m) w)))
multiset_alike m v w f g q H t =
    let r = ends_some f (cons_halves (multiset m) v) t in let p = partner m v w q r.0 r.1 in
    ends_by g (cons_halves (multiset m) w) p.half p.member (subst T (H r.0 p.half p.first p.second) r.2)

cons_alike : (m : Matcher) (v w : Valueᵒ) (f g : Halves → List Met) → T (equal m (plain v) (plain w))
    → ((h i : Halves) → T (equal (element m) (plain h.first) (plain i.first)) → T (equal m (plain h.second) (plain i.second)) → ends (f h) ≡ ends (g i))
    → ends (flat_map f (cons_halves m v)) ≡ ends (flat_map g (cons_halves m w))
unfolding cons_halves element flat_map ends
cons_alike something v w f g q H = refl
cons_alike integer v w f g q H = refl
cons_alike (list m) v w f g q H = list_alike m v w f g q H
cons_alike (multiset m) v w f g q H = bool_ext _ _ (multiset_alike m v w f g q H) (multiset_alike m w v g f (turn (plain v) (plain w) q)
    (λ i h a b. sym (H h i ((equal_equiv m).symm (plain i.first) (plain h.first) a) (turn (plain i.second) (plain h.second) b))))
  where
    turn : (a b : Value) → T (equal (multiset m) a b) → T (equal (multiset m) b a)
    turn a b = (equal_equiv (multiset m)).symm a b
cons_alike (tuple_of ms) v w f g q H = refl

-- ---- Join: the fronts and the backs of two equal lists.

-- The choices at two joins, pair by pair.
unfoldable Cuts : (Cut → Cut → Type 0) → List Cut → List Cut → Type 0
Cuts P [] [] = Unit {0}
Cuts P [] (d ∷ ds) = ⊥
Cuts P (c ∷ cs) [] = ⊥
Cuts P (c ∷ cs) (d ∷ ds) = P c d × Cuts P cs ds

cuts_longer : (P Q : Cut → Cut → Type 0) (v w : Valueᵒ) → ((c d : Cut) → P c d → Q (longer v c) (longer w d)) → (cs ds : List Cut) → Cuts P cs ds
    → Cuts Q (map (longer v) cs) (map (longer w) ds)
unfolding Cuts
cuts_longer P Q v w f [] [] h = tt
cuts_longer P Q v w f [] (d ∷ ds) h = absurd h
cuts_longer P Q v w f (c ∷ cs) [] h = absurd h
cuts_longer P Q v w f (c ∷ cs) (d ∷ ds) h = (f c d h.0, cuts_longer P Q v w f cs ds h.1)

cuts_alike : (E : Value → Value → Bool) (vs ws : Valuesᵒ) → T (in_order E (plain_all vs) (plain_all ws))
    → Cuts (λ c d. T (in_order E (plain_all c.front) (plain_all d.front)) × T (in_order E (plain_all c.back) (plain_all d.back))) (cuts vs) (cuts ws)
unfolding Cuts cuts longer plain_all in_order
cuts_alike E emptyᵒ emptyᵒ q = ((tt, tt), tt)
cuts_alike E emptyᵒ (w ▸ᵒ ws) q = absurd q
cuts_alike E (v ▸ᵒ vs) emptyᵒ q = absurd q
cuts_alike E (v ▸ᵒ vs) (w ▸ᵒ ws) q =
    let s = and_split (E (plain v) (plain w)) (in_order E (plain_all vs) (plain_all ws)) q in
    ((tt, q), cuts_longer _ _ v w (λ c d h. (and_join (E (plain v) (plain w)) _ s.0 h.0, h.1)) (cuts vs) (cuts ws) (cuts_alike E vs ws s.1))

each_cut : (P : Cut → Cut → Type 0) (f g : Halves → List Met) (x y : Cut → Halves) → ((c d : Cut) → P c d → ends (f (x c)) ≡ ends (g (y d)))
    → (cs ds : List Cut) → Cuts P cs ds → ends (flat_map f (map x cs)) ≡ ends (flat_map g (map y ds))
unfolding Cuts flat_map
each_cut P f g x y H [] [] h = refl
each_cut P f g x y H [] (d ∷ ds) h = absurd h
each_cut P f g x y H (c ∷ cs) [] h = absurd h
each_cut P f g x y H (c ∷ cs) (d ∷ ds) h =
    ends_append (f (x c)) (flat_map f (map x cs)) ∙ ap₂ (λ a b. a || b) (H c d h.0) (each_cut P f g x y H cs ds h.1) ∙ sym (ends_append (g (y d)) (flat_map g (map y ds)))

join_list : (m : Matcher) (v w : Valueᵒ) (f g : Halves → List Met) → T (equal (list m) (plain v) (plain w))
    → ((h i : Halves) → T (equal (list m) (plain h.first) (plain i.first)) → T (equal (list m) (plain h.second) (plain i.second)) → ends (f h) ≡ ends (g i))
    → ends (flat_map f (join_halves v)) ≡ ends (flat_map g (join_halves w))
unfolding join_halves flat_map ends plain equal
join_list m (intᵒ o x) w f g q H = absurd q
join_list m (collectionᵒ o vs) (intᵒ a y) f g q H = absurd q
join_list m (collectionᵒ o vs) (collectionᵒ a ws) f g q H = each_cut _ f g _ _ (λ c d h. H _ _ h.0 h.1) (cuts vs) (cuts ws) (cuts_alike (λ a b. equal m a b) vs ws q)
join_list m (collectionᵒ o vs) (tupledᵒ a ws) f g q H = absurd q
join_list m (tupledᵒ o vs) w f g q H = absurd q

join_alike : (m : Matcher) (v w : Valueᵒ) (f g : Halves → List Met) → T (takes m 6) → T (equal m (plain v) (plain w))
    → ((h i : Halves) → T (equal m (plain h.first) (plain i.first)) → T (equal m (plain h.second) (plain i.second)) → ends (f h) ≡ ends (g i))
    → ends (flat_map f (join_halves v)) ≡ ends (flat_map g (join_halves w))
unfolding takes
join_alike something v w f g t q H = absurd t
join_alike integer v w f g t q H = absurd t
join_alike (list m) v w f g t q H = join_list m v w f g q H
join_alike (multiset m) v w f g t q H = absurd t
join_alike (tuple_of ms) v w f g t q H = absurd t

-- ---- A tuple's parts.

tuple_parts : (ms : Matchers) (v w : Valueᵒ) (f g : Valuesᵒ → List Met) → T (equal (tuple_of ms) (plain v) (plain w))
    → ((vs ws : Valuesᵒ) → T (equal_parts ms (plain_all vs) (plain_all ws)) → ends (f vs) ≡ ends (g ws)) → ends (of_parts f v) ≡ ends (of_parts g w)
unfolding of_parts plain equal
tuple_parts ms (intᵒ o x) w f g q H = absurd q
tuple_parts ms (collectionᵒ o vs) w f g q H = absurd q
tuple_parts ms (tupledᵒ o vs) (intᵒ a y) f g q H = absurd q
tuple_parts ms (tupledᵒ o vs) (collectionᵒ a ws) f g q H = absurd q
tuple_parts ms (tupledᵒ o vs) (tupledᵒ a ws) f g q H = H vs ws q

tuple_alike : (m : Matcher) (v w : Valueᵒ) (f g : Valuesᵒ → List Met) → T (takes m 7) → T (equal m (plain v) (plain w))
    → ((vs ws : Valuesᵒ) → T (equal_parts (members m) (plain_all vs) (plain_all ws)) → ends (f vs) ≡ ends (g ws)) → ends (of_parts f v) ≡ ends (of_parts g w)
unfolding takes members
tuple_alike something v w f g t q H = absurd t
tuple_alike integer v w f g t q H = absurd t
tuple_alike (list m) v w f g t q H = absurd t
tuple_alike (multiset m) v w f g t q H = absurd t
tuple_alike (tuple_of ms) v w f g t q H = tuple_parts ms v w f g q H

-- ---- The pattern: k and l are what comes after it. No variable stands in it, so that they come from the bindings e.

mutual
  unfolding visit visit_each Told ToldAll ends cons_halves_in equal_parts plain_all

  pub alike : (p : Pattern) (m : Matcher) (v w : Valueᵒ) (e : Bindings) (k l : Bindings → List Met) → Told false p m → T (equal m (plain v) (plain w))
      → ends (k e) ≡ ends (l e) → ends (visit every_place p m v e k) ≡ ends (visit every_place p m w e l)
  alike wildcard m v w e k l t q h = ends_leaf (is_something m) (k e) (l e) h
  alike (variable x) m v w e k l t q h = absurd t
  alike (constant c) m v w e k l t q h = ends_only _ _ (k e) (l e) (constant_alike m c (plain v) (plain w) t q) h
  alike (value x c) m v w e k l t q h = ends_only _ _ (k e) (l e) (value_alike m (map plain e) x c (plain v) (plain w) q) h
  alike nil m v w e k l t q h = ends_only _ _ (k e) (l e) (empty_alike m (plain v) (plain w) t q) h
  alike (cons p r) m v w e k l t q h = cons_alike m v w _ _ q (λ a b x y. alike p (element m) a.first b.first e
      (λ d. visit every_place r m a.second d k) (λ d. visit every_place r m b.second d l) t.1 x (alike r m a.second b.second e k l t.2 y h))
  alike (join p r) m v w e k l t q h = join_alike m v w _ _ t.0 q (λ a b x y. alike p m a.first b.first e
      (λ d. visit every_place r m a.second d k) (λ d. visit every_place r m b.second d l) t.1 x (alike r m a.second b.second e k l t.2 y h))
  alike (tuple ps) m v w e k l t q h = tuple_alike m v w _ _ t.0 q (λ vs ws x. alike_each ps (members m) vs ws e k l t.1 x h)
  alike (both p r) m v w e k l t q h =
      alike p m v w e (λ d. visit every_place r m v d k) (λ d. visit every_place r m w d l) t.0 q (alike r m v w e k l t.1 q h)
  alike (either p r) m v w e k l t q h = ends_append (visit every_place p m v e k) (visit every_place r m v e k)
      ∙ ap₂ (λ a b. a || b) (alike p m v w e k l t.0 q h) (alike r m v w e k l t.1 q h) ∙ sym (ends_append (visit every_place p m w e l) (visit every_place r m w e l))
  alike (never p) m v w e k l t q h = ends_inside (visit every_place p m v e (λ d. ended ∷ [])) (k e)
      ∙ ap₂ (λ a b. not a && b) (alike p m v w e (λ d. ended ∷ []) (λ d. ended ∷ []) t q refl) h ∙ sym (ends_inside (visit every_place p m w e (λ d. ended ∷ [])) (l e))

  alike_each : (ps : Patterns) (ms : Matchers) (vs ws : Valuesᵒ) (e : Bindings) (k l : Bindings → List Met) → ToldAll false ps ms
      → T (equal_parts ms (plain_all vs) (plain_all ws)) → ends (k e) ≡ ends (l e) → ends (visit_each every_place ps ms vs e k) ≡ ends (visit_each every_place ps ms ws e l)
  alike_each no_patterns ms vs ws e k l t q h = h
  alike_each (p ▸ᵖ ps) no_matchers vs ws e k l t q h = h
  alike_each (p ▸ᵖ ps) (m ▸ᵐ ms) emptyᵒ ws e k l t q h = absurd q
  alike_each (p ▸ᵖ ps) (m ▸ᵐ ms) (v ▸ᵒ vs) emptyᵒ e k l t q h = absurd q
  alike_each (p ▸ᵖ ps) (m ▸ᵐ ms) (v ▸ᵒ vs) (w ▸ᵒ ws) e k l t q h =
      let s = and_split (equal m (plain v) (plain w)) _ q in
      alike p m v w e (λ d. visit_each every_place ps ms vs d k) (λ d. visit_each every_place ps ms ws d l) t.0 s.0 (alike_each ps ms vs ws e k l t.1 s.1 h)
