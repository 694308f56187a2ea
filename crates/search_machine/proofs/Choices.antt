-- The choices of cons and join by marks are the definitions' choices, one by one in their order. Assumes nothing.
use Prim.Native.Nat.{ℕ, zero, suc, ◌+◌, ◌-◌, ◌^◌, ◌≤◌, ◌<◌}
use mathlib.Core.Path.{◌≡◌, refl, sym, ◌∙◌, ap, ap₂, subst}
use mathlib.Core.Option.{Option, none, some}
use mathlib.Core.List.{List, [], ◌∷◌, map}
use native.Mathlib.Nat.{add-zero}
use native.Mathlib.Omega.{arith}
use borrow.Author.Tests.{eq-eqb, ne_eqb}
use lib.Pow.{pow_pos, pow-lt}
use lib.Count.{count_trailing_zeros}
use lib.IntN.{ℤ}
use Rattle.rules.specs.Forms.{Matcher, list, multiset, Values, count}
use Rattle.rules.specs.Origins.{Origin, Valueᵒ, collectionᵒ, Valuesᵒ, emptyᵒ, ◌▸ᵒ◌, plain, plain_all}
use Rattle.rules.specs.Fit.{takes, tags_of, among, element}
use Rattle.rules.specs.Equality.{equal}
use Rattle.rules.specs.Dialects.{Dialect, every_place, first_places}
use Rattle.rules.specs.Search.{Halves, cons_halves, differing, cons_halves_in, is_multiset, join_halves}
use Rattle.words.specs.Words.{tag_at}
use Rattle.words.specs.Marked.{nth}
use Rattle.words.specs.Marks.{clear, positions, raise, splits, Longer}
use Rattle.words.proofs.marks.Places.{low_digit, clear_add, positions_one, positions_low, positions_none}
use Rattle.words.proofs.marks.Fronts.{raise_none, splits_next, splits_last}
use Rattle.value_places.specs.Places.{value_at, elements, count_at, Target, element_at}
use Rattle.value_places.specs.Held.{Held}
use Rattle.value_places.specs.Origins.{nthᵒ, markedᵒ, origin_at, elementsᵒ}
use Rattle.forms.specs.Origins.{plain_placed_all}
use Rattle.value_firsts.specs.Firsts.{firsts_of}
use Rattle.value_firsts.proofs.Differing.{firsts_le, firsts_some, firsts_are}
use Rattle.value_rows.specs.declared.Binding.{Binding}
use Rattle.value_places.proofs.Held.{marks_all_lem, held_64, held_less, held_clear, held_some, whole_held, next_in, next_64, next_tag}
use Rattle.value_places.proofs.Origins.{origin_collection, origin_whole, element_origin}
use Rattle.program_rules.specs.Points.{Kind, list_cons, multiset_cons, joins, over, first_by, halves}
use Rattle.search_machine.specs.Held.{Picked, Opened}
use Rattle.search_atom.specs.Leaves.{when, none_of, longer_of}
use Rattle.search_machine.specs.Fitting.{Fine}
use Rattle.search_machine.specs.Operations.{Is, code, some_of, opens_by, choices_by, opens_with, opens, part_of, take_place, take_front, pick, origin_by, choice_at, parts_at, elements_at, LeftPlaces, LeftFronts, Left}
use Rattle.search_machine.proofs.Fitting.{halves_fine, firsts_fine}
use Rattle.search_machine.proofs.Marked.{cons_multiset, cons_list, cons_list_none, join_splits}
use Rattle.search_machine.proofs.Tests.{is_many}

-- What a pick says of the choices.
abbrev pub Picks : List ℤ → Kind → Binding → Picked Binding ℕ → List Halves → Type 0
Picks s k h p hs = (f : Halves) × (rest : List Halves) × (hs ≡ f ∷ rest) × Is s (first_by k) p.one f.first × Is s (over k) p.two f.second × Opened (Left s k h) p.more rest

some_none : (c : ℕ) → c ≡ 0 → some_of c ≡ none
unfolding some_of when
some_none c z = rw (eq-eqb c 0 z)

some_some : (c : ℕ) → 0 < c → some_of c ≡ some c
unfolding some_of when
some_some c h = rw (ne_eqb c 0 (λ z. omega arith))

minus_none : (m : ℕ) → m ≡ m - 0
minus_none m = omega arith

plain_nth : (vs : Valuesᵒ) (j : ℕ) → plain (nthᵒ vs j) ≡ nth (plain_all vs) j
unfolding nthᵒ nth plain plain_all
plain_nth emptyᵒ j = refl
plain_nth (v ▸ᵒ vs) zero = refl
plain_nth (v ▸ᵒ vs) (suc j) = plain_nth vs j

by_zero : (P : Type 0) (c : ℕ) → (c ≡ 0 → P) → (0 < c → P) → P
by_zero P zero f h = f refl
by_zero P (suc c) f h = h (omega arith)

module _ (s : List ℤ) (g : Target s) where
  -- What is held of a collection.
  of_elements : (h : Binding) (place m : ℕ) → Held s h.at m → tag_at s h.at ≡ 1 → origin_at s h.at m place ≡ collectionᵒ (origin_by h place) (markedᵒ (elements_at s h) m)
  of_elements h place m w f = origin_collection s h.at m place g w.tag f

  some_of_lem : (at m : ℕ) → Held s at m → m < 2 ^ count (plain_all (elementsᵒ s at))
  unfolding elementsᵒ
  some_of_lem at m w = rw (plain_placed_all (at + 2) 0 (elements (value_at s at))) (held_some s at m g w)

  plain_element : (at j : ℕ) → plain (nthᵒ (elementsᵒ s at) j) ≡ nth (elements (value_at s at)) j
  unfolding elementsᵒ
  plain_element at j = plain_nth (elementsᵒ s at) j ∙ ap (λ (us : Values). nth us j) (plain_placed_all (at + 2) 0 (elements (value_at s at)))

  -- ---- Cons: places.

  module _ (k : Kind) (h : Binding) (place c : ℕ) (w : Held s h.at h.marks) (f : tag_at s h.at ≡ 1) (hs : List Halves) (fine : Fine k hs) where
    places_opened : Held s h.at c → hs ≡ map (choice_at (origin_by h place) (elements_at s h) h.marks) (positions 64 c)
        → ((c : ℕ) → LeftPlaces s k h c hs → Left s k h c hs) → Opened (Left s k h) (some_of c) hs
    unfolding Opened
    places_opened u e into = by_zero _ c
        (λ z. rw (some_none c z) (e ∙ rw (z, positions_none 64)))
        (λ z. rw (some_some c z) (into c (record { place = place; held = w; many = f; some = z; choices = u; are = e; fine = fine })))

  place_taken : (k : Kind) (h : Binding) (c : ℕ) (hs : List Halves) → ((c : ℕ) (us : List Halves) → LeftPlaces s k h c us → Left s k h c us)
      → LeftPlaces s k h c hs → Picks s k h (take_place s h c (count_trailing_zeros 64 c)) hs
  unfolding take_place part_of choice_at Fine
  place_taken k h c hs into l =
      let t = count_trailing_zeros 64 c in
      let e = element_at s h.at t in
      let vs = elements_at s h in
      let o = origin_by h l.place in
      let tag = next_tag s h.at c t g l.choices refl l.some e refl in
      let here = l.are ∙ ap (map (choice_at o vs h.marks)) (positions_low 64 c l.some (held_64 s h.at c g l.choices)) in
      let fine : Fine k (choice_at o vs h.marks t ∷ map (choice_at o vs h.marks) (positions 64 (clear t c))) = subst (Fine k) here l.fine in
      let u = held_clear s h.at c t (clear t c) l.choices refl in
      let two = held_clear s h.at h.marks t (clear t h.marks) l.held refl in (
        choice_at o vs h.marks t,
        map (choice_at o vs h.marks) (positions 64 (clear t c)),
        here,
        record {
          held = whole_held s e g tag;
          place = t;
          is = origin_whole s e t g tag ∙ sym (element_origin s h.at t g l.held.tag (next_in s h.at c t g l.choices refl l.some));
          fits = fine.0;
        },
        record { held = two; place = l.place; is = of_elements h l.place (clear t h.marks) two l.many; fits = fine.1 },
        places_opened k h l.place (clear t c) l.held l.many (map (choice_at o vs h.marks) (positions 64 (clear t c))) fine.2 u refl (λ d. into d _),
      )

  -- ---- Join: fronts.

  module _ (m : Matcher) (h : Binding) where
    fronts_left : (f : ℕ) (hs : List Halves) → LeftFronts s (joins m) h f hs → Left s (joins m) h f hs
    unfolding Left
    fronts_left f hs l = l

    longer_is : (f b : ℕ) → 0 < b → b < 2 ^ 64 → Longer f b (f + 2 ^ count_trailing_zeros 64 b) (clear (count_trailing_zeros 64 b) b)
    longer_is f b z l = let c = clear_add (count_trailing_zeros 64 b) b (low_digit 64 b z l) in record { front = refl; back = refl; sum = omega arith }

    front_halves : (place f b : ℕ) → Held s h.at f → Held s h.at b → tag_at s h.at ≡ 1 → parts_at (origin_by h place) (elements_at s h) (record { front = f + 0; back = b })
        ≡ record { first = origin_at s h.at f place; second = origin_at s h.at b place }
    unfolding parts_at
    front_halves place f b u w n = rw (add-zero f, of_elements h place f u n, of_elements h place b w n)

    more_none : (f b : ℕ) → b ≡ 0 → some_of (longer_of f b) ≡ none
    unfolding longer_of when
    more_none f b z = ap some_of (rw (eq-eqb b 0 z)) ∙ some_none 0 refl

    more_some : (f b : ℕ) → 0 < b → some_of (longer_of f b) ≡ some (f + 2 ^ count_trailing_zeros 64 b)
    unfolding longer_of when
    more_some f b z = ap some_of (rw (ne_eqb b 0 (λ y. omega arith))) ∙ some_some (f + 2 ^ count_trailing_zeros 64 b) (omega (arith, pow_pos (count_trailing_zeros 64 b)))

    front_taken : (f : ℕ) (hs : List Halves) → LeftFronts s (joins m) h f hs → Picks s (joins m) h (take_front h f) hs
    unfolding take_front Fine Opened
    front_taken f hs l = by_zero _ b
        (λ z.
        let here = l.are ∙ ap (λ (x : ℕ). map (parts_at o vs) (map (raise f) (splits 64 x))) z ∙ ap (map (parts_at o vs)) (splits_last f) ∙ ap (λ (x : Halves). x ∷ [])
        (ap (λ (x : ℕ). parts_at o vs (record { front = f + 0; back = x })) (sym z) ∙ front_halves l.place f b one two l.many) in
        let fine : Fine (joins m) (record { first = origin_at s h.at f l.place; second = origin_at s h.at b l.place } ∷ []) = subst (Fine (joins m)) here l.fine in (
          record { first = origin_at s h.at f l.place; second = origin_at s h.at b l.place },
          [],
          here,
          record { held = one; place = l.place; is = refl; fits = fine.0 },
          record { held = two; place = l.place; is = refl; fits = fine.1 },
          subst (λ (o : Option ℕ). Opened (Left s (joins m) h) o []) (sym (more_none f b z)) refl,
        ))
        (λ z.
        let t = 2 ^ count_trailing_zeros 64 b in
        let n = longer_is f b z (held_64 s h.at b g two) in
        let q : h.marks - (f + t) ≡ clear (count_trailing_zeros 64 b) b = omega (arith, n.sum, l.within) in
        let rest = map (parts_at o vs) (map (raise (f + t)) (splits 64 (h.marks - (f + t)))) in
        let here = l.are ∙ ap (map (parts_at o vs)) (splits_next f b (f + t) (clear (count_trailing_zeros 64 b) b) z (held_64 s h.at b g two) n)
        ∙ ap₂ (λ (x : Halves) (y : List Halves). x ∷ y) (front_halves l.place f b one two l.many) (ap (λ (x : ℕ). map (parts_at o vs) (map (raise (f + t)) (splits 64 x))) (sym q)) in
        let fine : Fine (joins m) (record { first = origin_at s h.at f l.place; second = origin_at s h.at b l.place } ∷ rest) = subst (Fine (joins m)) here l.fine in (
          record { first = origin_at s h.at f l.place; second = origin_at s h.at b l.place },
          rest,
          here,
          record { held = one; place = l.place; is = refl; fits = fine.0 },
          record { held = two; place = l.place; is = refl; fits = fine.1 },
          subst (λ (o : Option ℕ). Opened (Left s (joins m) h) o rest) (sym (more_some f b z))
              (fronts_left (f + t) rest (record { place = l.place; held = l.held; many = l.many; within = omega (arith, n.sum); are = refl; fine = fine.2 })),
        ))
      where
        b : ℕ
        b = h.marks - f

        o : Origin
        o = origin_by h l.place

        vs : Valuesᵒ
        vs = elements_at s h

        one : Held s h.at f
        one = held_less s h.at h.marks f l.held l.within

        two : Held s h.at b
        two = held_less s h.at h.marks b l.held (omega arith)

  -- ---- All kinds.

  pub pick_ok : (k : Kind) (h : Binding) (c : ℕ) (hs : List Halves) → Left s k h c hs → Picks s k h (pick s k h c) hs
  unfolding pick Left
  pick_ok (list_cons m) h c hs l = place_taken (list_cons m) h c hs (λ d us u. u) l
  pick_ok (multiset_cons m) h c hs l = place_taken (multiset_cons m) h c hs (λ d us u. u) l
  pick_ok (joins m) h f hs l = front_taken m h f hs l

  opens_list : (m : Matcher) (h : Binding) (v : Valueᵒ) (c : ℕ) → Is s (list m) h v
      → Opened (Left s (list_cons m) h) (opens_by (none_of 8 h.marks) (opens_with 8 h.marks c)) (cons_halves (list m) v)
  unfolding opens_by none_of opens_with when Opened Left halves over takes tags_of among
  opens_list m h v c i =
      let f = is_many s g (list m) h v refl i in
      let e = sym i.is ∙ of_elements h i.place h.marks i.held f in
      by_zero _ h.marks
      (λ z. rw (eq-eqb h.marks 0 z) (ap (cons_halves (list m)) (e ∙ ap (λ (x : ℕ). collectionᵒ (origin_by h i.place) (markedᵒ (elements_at s h) x)) z) ∙ cons_list_none (origin_by h i.place) (elements_at s h) m))
      (λ z.
      let t = count_trailing_zeros 64 h.marks in
      let l : t < count_at s h.at = next_in s h.at h.marks t g i.held refl z in
      rw (ne_eqb h.marks 0 (λ y. omega arith)) (record {
        place = i.place;
        held = i.held;
        many = f;
        some = pow_pos t;
        choices = record { tag = i.held.tag; marks = rw (marks_all_lem s h.at f) (pow-lt l) };
        are = ap (cons_halves (list m)) e ∙ cons_list (origin_by h i.place) (elements_at s h) h.marks (some_of_lem h.at h.marks i.held) (held_64 s h.at h.marks g i.held) m z
            ∙ ap (map (choice_at (origin_by h i.place) (elements_at s h) h.marks)) (sym (positions_one 64 t (next_64 s h.at h.marks t g i.held refl z)));
        fine = halves_fine (list_cons m) v i.fits;
      }))

  opens_join : (m : Matcher) (h : Binding) (v : Valueᵒ) (c : ℕ) → Is s (list m) h v
      → Opened (Left s (joins m) h) (opens_by (none_of 10 h.marks) (opens_with 10 h.marks c)) (join_halves v)
  unfolding opens_by none_of opens_with when Opened Left halves over takes tags_of among
  opens_join m h v c i =
      let f = is_many s g (list m) h v refl i in
      record {
        place = i.place;
        held = i.held;
        many = f;
        within = omega arith;
        are = ap join_halves (sym i.is ∙ of_elements h i.place h.marks i.held f)
            ∙ join_splits (origin_by h i.place) (elements_at s h) h.marks (some_of_lem h.at h.marks i.held) (held_64 s h.at h.marks g i.held)
            ∙ ap (map (parts_at (origin_by h i.place) (elements_at s h))) (sym (raise_none (splits 64 h.marks))) ∙ ap (λ (x : ℕ). map (parts_at (origin_by h i.place) (elements_at s h)) (map (raise 0) (splits 64 x))) (minus_none h.marks);
        fine = halves_fine (joins m) v i.fits;
      }

  module _ (m : Matcher) (h : Binding) (v : Valueᵒ) (i : Is s (multiset m) h v) where
    many : tag_at s h.at ≡ 1
    unfolding takes tags_of among
    many = is_many s g (multiset m) h v refl i

    -- Every place; of these the first ones.
    every : cons_halves (multiset m) v ≡ map (choice_at (origin_by h i.place) (elements_at s h) h.marks) (positions 64 h.marks)
    every = ap (cons_halves (multiset m)) (sym i.is ∙ of_elements h i.place h.marks i.held many)
        ∙ cons_multiset (origin_by h i.place) (elements_at s h) h.marks (some_of_lem h.at h.marks i.held) (held_64 s h.at h.marks g i.held) m

    opens_every : Opened (Left s (multiset_cons m) h) (opens_by (none_of 9 h.marks) (opens_with 9 h.marks h.marks)) (cons_halves (multiset m) v)
    unfolding opens_by none_of opens_with when Opened Left over
    opens_every = by_zero _ h.marks
        (λ z. rw (eq-eqb h.marks 0 z) (every ∙ ap (map (choice_at (origin_by h i.place) (elements_at s h) h.marks)) (ap (positions 64) z ∙ positions_none 64)))
        (λ z. rw (ne_eqb h.marks 0 (λ y. omega arith)) (record {
          place = i.place;
          held = i.held;
          many = many;
          some = z;
          choices = i.held;
          are = every;
          fine = unfold halves cons_halves_in in halves_fine (multiset_cons m) v i.fits;
        }))

    vs : Values
    vs = elements (value_at s h.at)

    places : ℕ
    places = firsts_of (equal m) vs h.marks

    first_are : halves first_places (multiset_cons m) v ≡ map (choice_at (origin_by h i.place) (elements_at s h) h.marks) (positions 64 places)
    unfolding halves cons_halves_in is_multiset element firsts_of places vs choice_at
    first_are = ap (differing (equal m) []) every
        ∙ firsts_are (equal m) [] vs 64 h.marks (choice_at (origin_by h i.place) (elements_at s h) h.marks) (λ j u. plain_element h.at j)
        (held_some s h.at h.marks g i.held) (held_64 s h.at h.marks g i.held)

    few : places ≤ h.marks
    unfolding places firsts_of
    few = firsts_le (equal m) [] vs h.marks

    opens_firsts : Opened (Left s (multiset_cons m) h) (opens_by (none_of 9 h.marks) (opens_with 9 h.marks places)) (halves first_places (multiset_cons m) v)
    unfolding opens_by none_of opens_with when Opened Left over vs elements
    opens_firsts = by_zero _ h.marks
        (λ z. let y : places ≡ 0 = omega (arith, few) in
        rw (eq-eqb h.marks 0 z) (first_are ∙ ap (map (choice_at (origin_by h i.place) (elements_at s h) h.marks)) (ap (positions 64) y ∙ positions_none 64)))
        (λ z. rw (ne_eqb h.marks 0 (λ y. omega arith)) (record {
          place = i.place;
          held = i.held;
          many = many;
          some = unfold places firsts_of in firsts_some (equal m) vs h.marks z (held_some s h.at h.marks g i.held);
          choices = held_less s h.at h.marks places i.held few;
          are = first_are;
          fine = firsts_fine m v i.fits;
        }))

  pub opens_ok : (dialect : Dialect) (k : Kind) (h : Binding) (v : Valueᵒ) → Is s (over k) h v → Opened (Left s k h) (opens dialect s k h) (halves dialect k v)
  unfolding opens choices_by code halves cons_halves_in over places vs
  opens_ok every_place (list_cons m) h v i = opens_list m h v h.marks i
  opens_ok every_place (multiset_cons m) h v i = opens_every m h v i
  opens_ok every_place (joins m) h v i = opens_join m h v h.marks i
  opens_ok first_places (list_cons m) h v i = opens_list m h v h.marks i
  opens_ok first_places (multiset_cons m) h v i = opens_firsts m h v i
  opens_ok first_places (joins m) h v i = opens_join m h v h.marks i
