-- The choices at a cons or a join: those that section 5 names by their number are the states that follow in section 4, numbered from 0.
use Rattle.std.specs.Prelude.{ℕ, zero, suc, ◌+◌, ◌≡◌, refl, Bool, true, false, List, [], ◌∷◌, ◌++◌, map, T, leb}
use Rattle.std.proofs.Common.{suc-ne-zero, zero-add, arith, sym, ap, ap₂, ◌∙◌, subst, ⊎_elim, leb→le, le→leb}
use Rattle.std.proofs.Math.Option.{Option, none, some}
use mathlib.Core.List.Memᴰ
use Rattle.std.proofs.Math.ListN.{get_elem?}
use Rattle.std.proofs.Math.Dec.{leb-zero, leb-suc-zero, leb-suc-suc}
use Rattle.rules.specs.Forms.{Matcher, something, integer, list, multiset, tuple_of, Value, count}
use Rattle.rules.specs.Origins.{Valueᵒ, intᵒ, collectionᵒ, tupledᵒ, Valuesᵒ, emptyᵒ, ◌▸ᵒ◌, Origin, plain, plain_all}
use Rattle.rules.specs.Search.{Taking, takings, behind, Cut, cuts, longer, Halves, cons_halves, cons_halves_in, any_equal, differing, join_halves}
use Rattle.rules.specs.Ways.{Way, at, without, elements, places_from, place_of, front, back, ConsBy, JoinBy}
use Rattle.rules.specs.Dialects.{Dialect, every_place, first_places}
use Rattle.rules.specs.Equality.{equal}
use Rattle.forms.specs.Lists.{Mem}
use Rattle.rules.specs.Following.{Numbered, up, numbered, is_multiset, mark}

true_path : (b : Bool) → T b → b ≡ true
true_path true t = refl
true_path false t = absurd t

abbrev halves : Valueᵒ → Valueᵒ → Halves
halves a b = record { first = a; second = b }

-- ---- An entry of a list by its number.

unfoldable opt_map : {A B : Type 0} → (A → B) → Option A → Option B
opt_map f none = none
opt_map f (some a) = some (f a)

get_elem_map : {A B : Type 0} (f : A → B) (xs : List A) (k : ℕ) → get_elem? (map f xs) k ≡ opt_map f (get_elem? xs k)
unfolding opt_map
get_elem_map f [] k = refl
get_elem_map f (x ∷ xs) zero = refl
get_elem_map f (x ∷ xs) (suc k) = get_elem_map f xs k

unfoldable picked : Option Valueᵒ → Valuesᵒ → Option Taking
picked none r = none
picked (some x) r = some (record { one = x; others = r })

behind_picked : (v : Valueᵒ) (o : Option Valueᵒ) (r : Valuesᵒ) → opt_map (behind v) (picked o r) ≡ picked o (v ▸ᵒ r)
unfolding opt_map picked behind
behind_picked v none r = refl
behind_picked v (some x) r = refl

takings_nth : (vs : Valuesᵒ) (k : ℕ) → get_elem? (takings vs) k ≡ picked (at vs k) (without vs k)
unfolding takings picked at without
takings_nth emptyᵒ k = refl
takings_nth (v ▸ᵒ vs) zero = refl
takings_nth (v ▸ᵒ vs) (suc k) = get_elem_map (behind v) (takings vs) k ∙ ap (opt_map (behind v)) (takings_nth vs k) ∙ behind_picked v (at vs k) (without vs k)

unfoldable cut_at : Bool → Valuesᵒ → Valuesᵒ → Option Cut
cut_at true f b = some (record { front = f; back = b })
cut_at false f b = none

longer_cut : (v : Valueᵒ) (t : Bool) (f b : Valuesᵒ) → opt_map (longer v) (cut_at t f b) ≡ cut_at t (v ▸ᵒ f) b
unfolding opt_map cut_at longer
longer_cut v true f b = refl
longer_cut v false f b = refl

cuts_nth : (vs : Valuesᵒ) (k : ℕ) → get_elem? (cuts vs) k ≡ cut_at (leb k (count (plain_all vs))) (front vs k) (back vs k)
unfolding cuts cut_at count plain_all front back
cuts_nth emptyᵒ zero = refl
cuts_nth emptyᵒ (suc k) = rw (leb-suc-zero k)
cuts_nth (v ▸ᵒ vs) zero = rw (leb-zero (suc (count (plain_all vs))))
cuts_nth (v ▸ᵒ vs) (suc k) =
    get_elem_map (longer v) (cuts vs) k ∙ ap (opt_map (longer v)) (cuts_nth vs k) ∙ longer_cut v (leb k (count (plain_all vs))) (front vs k) (back vs k)
    ∙ ap (λ t. cut_at t (v ▸ᵒ front vs k) (back vs k)) (sym (leb-suc-suc k (count (plain_all vs))))

unfoldable pick_halves : Origin → Taking → Halves
pick_halves o p = halves p.one (collectionᵒ o p.others)

unfoldable cut_halves : Origin → Cut → Halves
cut_halves o c = halves (collectionᵒ o c.front) (collectionᵒ o c.back)

pick_nth : (o : Origin) (vs : Valuesᵒ) (k : ℕ) → get_elem? (map (pick_halves o) (takings vs)) k ≡ opt_map (pick_halves o) (picked (at vs k) (without vs k))
pick_nth o vs k = get_elem_map (pick_halves o) (takings vs) k ∙ ap (opt_map (pick_halves o)) (takings_nth vs k)

cut_nth : (o : Origin) (vs : Valuesᵒ) (k : ℕ) → get_elem? (map (cut_halves o) (cuts vs)) k ≡ opt_map (cut_halves o) (cut_at (leb k (count (plain_all vs))) (front vs k) (back vs k))
cut_nth o vs k = get_elem_map (cut_halves o) (cuts vs) k ∙ ap (opt_map (cut_halves o)) (cuts_nth vs k)

-- ---- The numbered ones are the entries.

numbered_nth : (hs : List Halves) (c : Numbered) → Mem c (numbered hs) → get_elem? hs c.no ≡ some c.halves
unfolding numbered up
numbered_nth [] c m = absurd (Memᴰ.not-nil m)
numbered_nth (h ∷ hs) c m = ⊎_elim
    (λ e. subst (λ (d : Numbered). get_elem? (h ∷ hs) d.no ≡ some d.halves) (sym e) refl)
    (λ k. let r = Memᴰ.of_map up (numbered hs) k in
    subst (λ (d : Numbered). get_elem? (h ∷ hs) d.no ≡ some d.halves) r.2 (numbered_nth hs r.0 r.1))
    (Memᴰ.cases_cons m)

nth_numbered : (hs : List Halves) (k : ℕ) (h : Halves) → get_elem? hs k ≡ some h → Mem (record { no = k; halves = h }) (numbered hs)
unfolding numbered up
nth_numbered [] k h e = let z : ◌≡◌ {A = ℕ} 0 1 = cc in absurd (suc-ne-zero 0 (sym z))
nth_numbered (g ∷ hs) zero h e = let z : h ≡ g = cc in Memᴰ.head (ap (λ (x : Halves). let c : Numbered = record { no = 0; halves = x } in c) z)
nth_numbered (g ∷ hs) (suc k) h e = Memᴰ.tail (Memᴰ.map up (nth_numbered hs k h e))

pub in_numbered : (hs : List Halves) (c : Numbered) → Mem c (numbered hs) → Mem c.halves hs
unfolding numbered up
in_numbered [] c m = absurd (Memᴰ.not-nil m)
in_numbered (h ∷ hs) c m = ⊎_elim
    (λ e. Memᴰ.head (ap (λ (x : Numbered). x.halves) e))
    (λ k. let r = Memᴰ.of_map up (numbered hs) k in
    Memᴰ.tail (subst (λ (x : Numbered). Mem x.halves hs) r.2 (in_numbered hs r.0 r.1)))
    (Memᴰ.cases_cons m)

-- ---- What can be chosen is numbered, and what is numbered can be chosen.

picked_some : (o : Origin) (x : Option Valueᵒ) (r : Valuesᵒ) (h : Halves) → opt_map (pick_halves o) (picked x r) ≡ some h → (x ≡ some h.first) × (h.second ≡ collectionᵒ o r)
unfolding opt_map picked pick_halves
picked_some o none r h e = let z : ◌≡◌ {A = ℕ} 0 1 = cc in absurd (suc-ne-zero 0 (sym z))
picked_some o (some x) r h e = let z : halves x (collectionᵒ o r) ≡ h = cc in (ap (λ (y : Halves). some y.first) z, sym (ap (λ (y : Halves). y.second) z))

cut_some : (o : Origin) (t : Bool) (f b : Valuesᵒ) (h : Halves) → opt_map (cut_halves o) (cut_at t f b) ≡ some h → T t × (h.first ≡ collectionᵒ o f) × (h.second ≡ collectionᵒ o b)
unfolding opt_map cut_at cut_halves
cut_some o true f b h e =
    let z : halves (collectionᵒ o f) (collectionᵒ o b) ≡ h = cc in (tt, sym (ap (λ (y : Halves). y.first) z), sym (ap (λ (y : Halves). y.second) z))
cut_some o false f b h e = let z : ◌≡◌ {A = ℕ} 0 1 = cc in absurd (suc-ne-zero 0 (sym z))

-- The choice `here` that divides a value into x and y is one of the numbered; with `false` no choice is put into the way.
pub record Made (b : Bool) (hs : List Halves) (here : Way) (x y : Valueᵒ) : Type 0 where
  pub c : Numbered
  pub member : Mem c (numbered hs)
  pub way : mark b c.no ≡ here
  pub is : c.halves ≡ halves x y

sound_one : (m : Matcher) (v : Valueᵒ) (c : Numbered) → Mem c (numbered (cons_halves m v))
    → ConsBy every_place m v (mark (is_multiset m) c.no) c.halves.first c.halves.second
unfolding cons_halves numbered is_multiset mark ConsBy place_of pick_halves
sound_one something v c i = absurd (Memᴰ.not-nil i)
sound_one integer v c i = absurd (Memᴰ.not-nil i)
sound_one (list m) (intᵒ o x) c i = absurd (Memᴰ.not-nil i)
sound_one (list m) (collectionᵒ o emptyᵒ) c i = absurd (Memᴰ.not-nil i)
sound_one (list m) (collectionᵒ o (v ▸ᵒ vs)) c i =
    let e = Memᴰ.eq_of_singleton i in (refl, ap (λ (y : Numbered). y.halves.first) e, ap (λ (y : Numbered). y.halves.second) e)
sound_one (list m) (tupledᵒ o vs) c i = absurd (Memᴰ.not-nil i)
sound_one (multiset m) (intᵒ o x) c i = absurd (Memᴰ.not-nil i)
sound_one (multiset m) (collectionᵒ o vs) c i =
    let r = picked_some o (at vs c.no) (without vs c.no) c.halves (sym (pick_nth o vs c.no) ∙ numbered_nth (map (pick_halves o) (takings vs)) c i) in
    (c.no, c.no, refl, refl, r.0, r.1)
sound_one (multiset m) (tupledᵒ o vs) c i = absurd (Memᴰ.not-nil i)
sound_one (tuple_of ms) v c i = absurd (Memᴰ.not-nil i)

complete_one : (m : Matcher) (v : Valueᵒ) (here : Way) (a b : Valueᵒ) → ConsBy every_place m v here a b → Made (is_multiset m) (cons_halves m v) here a b
unfolding cons_halves numbered is_multiset mark ConsBy place_of pick_halves opt_map picked
complete_one something v here a b h = absurd h
complete_one integer v here a b h = absurd h
complete_one (list m) (intᵒ o x) here a b h = absurd h
complete_one (list m) (collectionᵒ o emptyᵒ) here a b h = absurd h
complete_one (list m) (collectionᵒ o (x ▸ᵒ xs)) here a b h = record {
  c = record { no = 0; halves = halves x (collectionᵒ o xs) };
  member = Memᴰ.head refl;
  way = sym h.0;
  is = sym (ap₂ halves h.1 h.2);
}
complete_one (list m) (tupledᵒ o vs) here a b h = absurd h
complete_one (multiset m) (intᵒ o x) here a b h = absurd h
complete_one (multiset m) (collectionᵒ o vs) here a b h =
    let z : h.0 ≡ h.1 = cc in
    let e : get_elem? (map (pick_halves o) (takings vs)) h.1 ≡ some (halves a (collectionᵒ o (without vs h.1))) =
    pick_nth o vs h.1 ∙ ap (λ x. opt_map (pick_halves o) (picked x (without vs h.1))) h.4 in
    record {
      c = record { no = h.1; halves = halves a (collectionᵒ o (without vs h.1)) };
      member = nth_numbered (map (pick_halves o) (takings vs)) h.1 _ e;
      way = sym (h.2 ∙ ap (λ (x : ℕ). let w : Way = x ∷ [] in w) z);
      is = ap (halves a) (sym h.5);
    }
complete_one (multiset m) (tupledᵒ o vs) here a b h = absurd h
complete_one (tuple_of ms) v here a b h = absurd h

-- ---- In dialect 2: the first places.

firsts_taken : (o : Origin) (vs : Valuesᵒ) → map (λ h. plain h.first) (map (pick_halves o) (takings vs)) ≡ elements vs
unfolding takings elements pick_halves
firsts_taken o emptyᵒ = refl
firsts_taken o (v ▸ᵒ vs) = ap {B = List Value} (λ l. plain v ∷ l) (again (takings vs) ∙ firsts_taken o vs)
  where
    again : (ts : List Taking) → map (λ h. plain h.first) (map (pick_halves o) (map (behind v) ts)) ≡ map (λ h. plain h.first) (map (pick_halves o) ts)
    again [] = refl
    again (t ∷ ts) = ap {B = List Value} (λ l. plain t.one ∷ l) (again ts)

none_some : {A : Type 0} {B : Type 0} {x : A} → ◌≡◌ {A = Option A} none (some x) → B
none_some e = let z : ◌≡◌ {A = ℕ} 0 1 = cc in absurd (suc-ne-zero 0 (sym z))

-- A choice that is there is one of all, at a first place.
kept_nth : (eq : Value → Value → Bool) (before : List Value) (k : ℕ) (hs : List Halves) (n : ℕ) (h : Halves) → get_elem? (differing eq before hs) n ≡ some h
    → (j : ℕ) × (get_elem? (places_from eq before k (map (λ g. plain g.first) hs)) n ≡ some (k + j)) × (get_elem? hs j ≡ some h)
unfolding differing places_from
kept_nth eq before k [] n h e = none_some e
kept_nth eq before k (g ∷ hs) n h e =
    go (any_equal eq before (plain g.first)) n e (λ i f. kept_nth eq (before ++ (plain g.first ∷ [])) (suc k) hs i h f)
  where
    go : (b : Bool) (n : ℕ) → get_elem? (elim b as (λ _. List Halves) [
      | true ↦ differing eq (before ++ (plain g.first ∷ [])) hs
      | false ↦ g ∷ differing eq (before ++ (plain g.first ∷ [])) hs
    ]) n ≡ some h
        → ((i : ℕ) → get_elem? (differing eq (before ++ (plain g.first ∷ [])) hs) i ≡ some h
        → (j : ℕ) × (get_elem? (places_from eq (before ++ (plain g.first ∷ [])) (suc k) (map (λ x. plain x.first) hs)) i ≡ some (suc k + j)) × (get_elem? hs j ≡ some h))
        → (j : ℕ) × (get_elem? (elim b as (λ _. List ℕ) [
          | true ↦ places_from eq (before ++ (plain g.first ∷ [])) (suc k) (map (λ x. plain x.first) hs)
          | false ↦ k ∷ places_from eq (before ++ (plain g.first ∷ [])) (suc k) (map (λ x. plain x.first) hs)
        ]) n ≡ some (k + j)) × (get_elem? (g ∷ hs) j ≡ some h)
    go true n e rec = let r = rec n e in (suc r.0, r.1 ∙ ap some (later r.0), r.2)
      where
        later : (j : ℕ) → suc k + j ≡ k + suc j
        later j = omega arith
    go false zero e rec = (0, ap some (here k), e)
      where
        here : (k : ℕ) → k ≡ k + 0
        here k = omega arith
    go false (suc n) e rec = let r = rec n e in (suc r.0, r.1 ∙ ap some (later r.0), r.2)
      where
        later : (j : ℕ) → suc k + j ≡ k + suc j
        later j = omega arith

-- A choice at a first place is there.
place_nth : (eq : Value → Value → Bool) (before : List Value) (k : ℕ) (hs : List Halves) (n i : ℕ)
    → get_elem? (places_from eq before k (map (λ g. plain g.first) hs)) n ≡ some i
    → (j : ℕ) × (i ≡ k + j) × ((h : Halves) → get_elem? hs j ≡ some h → get_elem? (differing eq before hs) n ≡ some h)
unfolding differing places_from
place_nth eq before k [] n i e = none_some e
place_nth eq before k (g ∷ hs) n i e =
    go (any_equal eq before (plain g.first)) n e (λ l f. place_nth eq (before ++ (plain g.first ∷ [])) (suc k) hs l i f)
  where
    go : (b : Bool) (n : ℕ) → get_elem? (elim b as (λ _. List ℕ) [
      | true ↦ places_from eq (before ++ (plain g.first ∷ [])) (suc k) (map (λ x. plain x.first) hs)
      | false ↦ k ∷ places_from eq (before ++ (plain g.first ∷ [])) (suc k) (map (λ x. plain x.first) hs)
    ]) n ≡ some i
        → ((l : ℕ) → get_elem? (places_from eq (before ++ (plain g.first ∷ [])) (suc k) (map (λ x. plain x.first) hs)) l ≡ some i
        → (j : ℕ) × (i ≡ suc k + j) × ((h : Halves) → get_elem? hs j ≡ some h → get_elem? (differing eq (before ++ (plain g.first ∷ [])) hs) l ≡ some h))
        → (j : ℕ) × (i ≡ k + j) × ((h : Halves) → get_elem? (g ∷ hs) j ≡ some h → get_elem? (elim b as (λ _. List Halves) [
          | true ↦ differing eq (before ++ (plain g.first ∷ [])) hs
          | false ↦ g ∷ differing eq (before ++ (plain g.first ∷ [])) hs
        ]) n ≡ some h)
    go true n e rec = let r = rec n e in (suc r.0, later r.0 r.1, r.2)
      where
        later : (j : ℕ) → i ≡ suc k + j → i ≡ k + suc j
        later j e = omega arith
    go false zero e rec = let z : k ≡ i = cc in (0, here z, λ h f. f)
      where
        here : k ≡ i → i ≡ k + 0
        here e = omega arith
    go false (suc n) e rec = let r = rec n e in (suc r.0, later r.0 r.1, r.2)
      where
        later : (j : ℕ) → i ≡ suc k + j → i ≡ k + suc j
        later j e = omega arith

sound_two : (m : Matcher) (v : Valueᵒ) (c : Numbered) → Mem c (numbered (cons_halves_in first_places m v))
    → ConsBy first_places m v (mark (is_multiset m) c.no) c.halves.first c.halves.second
unfolding cons_halves_in cons_halves differing numbered is_multiset mark ConsBy place_of pick_halves
sound_two something v c i = absurd (Memᴰ.not-nil i)
sound_two integer v c i = absurd (Memᴰ.not-nil i)
sound_two (list m) (intᵒ o x) c i = absurd (Memᴰ.not-nil i)
sound_two (list m) (collectionᵒ o emptyᵒ) c i = absurd (Memᴰ.not-nil i)
sound_two (list m) (collectionᵒ o (v ▸ᵒ vs)) c i =
    let e = Memᴰ.eq_of_singleton i in (refl, ap (λ (y : Numbered). y.halves.first) e, ap (λ (y : Numbered). y.halves.second) e)
sound_two (list m) (tupledᵒ o vs) c i = absurd (Memᴰ.not-nil i)
sound_two (multiset m) (intᵒ o x) c i = absurd (Memᴰ.not-nil i)
sound_two (multiset m) (collectionᵒ o vs) c i =
    let f = kept_nth (equal m) [] 0 (map (pick_halves o) (takings vs)) c.no c.halves (numbered_nth (differing (equal m) [] (map (pick_halves o) (takings vs))) c i) in
    let r = picked_some o (at vs f.0) (without vs f.0) c.halves (sym (pick_nth o vs f.0) ∙ f.2) in (
      c.no,
      f.0,
      refl,
      sym (ap (λ l. get_elem? (places_from (equal m) [] 0 l) c.no) (firsts_taken o vs)) ∙ f.1 ∙ ap some (zero-add f.0),
      r.0,
      r.1,
    )
sound_two (multiset m) (tupledᵒ o vs) c i = absurd (Memᴰ.not-nil i)
sound_two (tuple_of ms) v c i = absurd (Memᴰ.not-nil i)

complete_two : (m : Matcher) (v : Valueᵒ) (here : Way) (a b : Valueᵒ) → ConsBy first_places m v here a b → Made (is_multiset m) (cons_halves_in first_places m v) here a b
unfolding cons_halves_in cons_halves differing numbered is_multiset mark ConsBy place_of pick_halves opt_map picked
complete_two something v here a b h = absurd h
complete_two integer v here a b h = absurd h
complete_two (list m) (intᵒ o x) here a b h = absurd h
complete_two (list m) (collectionᵒ o emptyᵒ) here a b h = absurd h
complete_two (list m) (collectionᵒ o (x ▸ᵒ xs)) here a b h = record {
  c = record { no = 0; halves = halves x (collectionᵒ o xs) };
  member = Memᴰ.head refl;
  way = sym h.0;
  is = sym (ap₂ halves h.1 h.2);
}
complete_two (list m) (tupledᵒ o vs) here a b h = absurd h
complete_two (multiset m) (intᵒ o x) here a b h = absurd h
complete_two (multiset m) (collectionᵒ o vs) here a b h =
    let f = place_nth (equal m) [] 0 (map (pick_halves o) (takings vs)) h.0 h.1
    (ap (λ l. get_elem? (places_from (equal m) [] 0 l) h.0) (firsts_taken o vs) ∙ h.3) in
    let z : f.0 ≡ h.1 = sym (f.1 ∙ zero-add f.0) in
    let e : get_elem? (map (pick_halves o) (takings vs)) h.1 ≡ some (halves a (collectionᵒ o (without vs h.1))) =
    pick_nth o vs h.1 ∙ ap (λ x. opt_map (pick_halves o) (picked x (without vs h.1))) h.4 in
    record {
      c = record { no = h.0; halves = halves a (collectionᵒ o (without vs h.1)) };
      member = nth_numbered (differing (equal m) [] (map (pick_halves o) (takings vs))) h.0 _
          (f.2 _ (ap (λ (x : ℕ). get_elem? (map (pick_halves o) (takings vs)) x) z ∙ e));
      way = sym h.2;
      is = ap (halves a) (sym h.5);
    }
complete_two (multiset m) (tupledᵒ o vs) here a b h = absurd h
complete_two (tuple_of ms) v here a b h = absurd h

pub cons_sound : (dialect : Dialect) (m : Matcher) (v : Valueᵒ) (c : Numbered) → Mem c (numbered (cons_halves_in dialect m v))
    → ConsBy dialect m v (mark (is_multiset m) c.no) c.halves.first c.halves.second
unfolding cons_halves_in
cons_sound every_place m v c i = sound_one m v c i
cons_sound first_places m v c i = sound_two m v c i

pub cons_complete : (dialect : Dialect) (m : Matcher) (v : Valueᵒ) (here : Way) (a b : Valueᵒ) → ConsBy dialect m v here a b
    → Made (is_multiset m) (cons_halves_in dialect m v) here a b
unfolding cons_halves_in
cons_complete every_place m v here a b h = complete_one m v here a b h
cons_complete first_places m v here a b h = complete_two m v here a b h

pub join_sound : (v : Valueᵒ) (c : Numbered) → Mem c (numbered (join_halves v)) → JoinBy v (mark true c.no) c.halves.first c.halves.second
unfolding join_halves numbered mark JoinBy cut_halves
join_sound (intᵒ o x) c i = absurd (Memᴰ.not-nil i)
join_sound (collectionᵒ o vs) c i =
    let r = cut_some o (leb c.no (count (plain_all vs))) (front vs c.no) (back vs c.no) c.halves
    (sym (cut_nth o vs c.no) ∙ numbered_nth (map (cut_halves o) (cuts vs)) c i) in
    (c.no, refl, leb→le c.no (count (plain_all vs)) r.0, r.1, r.2)
join_sound (tupledᵒ o vs) c i = absurd (Memᴰ.not-nil i)

pub join_complete : (v : Valueᵒ) (here : Way) (a b : Valueᵒ) → JoinBy v here a b → Made true (join_halves v) here a b
unfolding join_halves numbered mark JoinBy cut_halves opt_map cut_at
join_complete (intᵒ o x) here a b h = absurd h
join_complete (collectionᵒ o vs) here a b h =
    let e : get_elem? (map (cut_halves o) (cuts vs)) h.0 ≡ some (halves (collectionᵒ o (front vs h.0)) (collectionᵒ o (back vs h.0))) =
    cut_nth o vs h.0 ∙ ap (λ t. opt_map (cut_halves o) (cut_at t (front vs h.0) (back vs h.0))) (true_path (leb h.0 (count (plain_all vs))) (le→leb h.0 (count (plain_all vs)) h.2)) in
    record {
      c = record { no = h.0; halves = halves (collectionᵒ o (front vs h.0)) (collectionᵒ o (back vs h.0)) };
      member = nth_numbered (map (cut_halves o) (cuts vs)) h.0 _ e;
      way = sym h.1;
      is = ap₂ halves (sym h.3) (sym h.4);
    }
join_complete (tupledᵒ o vs) here a b h = absurd h
