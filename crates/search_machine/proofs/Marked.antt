-- The choices of a cons and of a join on the elements that marks leave. Assumes nothing.
use mathlib.Core.Path.{◌≡◌, refl, sym, ◌∙◌, ap, ap₂}
use mathlib.Core.List.{List, [], ◌∷◌, map}
use Prim.Native.Nat.{ℕ, zero, suc, ◌+◌, ◌-◌, ◌*◌, ◌/◌, ◌%◌, ◌^◌, ◌<◌, ◌≤◌}
use native.Mathlib.Omega.{arith}
use lib.Count.{count_trailing_zeros}
use Rattle.rules.specs.Forms.{Matcher, list, multiset, count}
use Rattle.rules.specs.Origins.{Origin, Valueᵒ, collectionᵒ, Valuesᵒ, emptyᵒ, ◌▸ᵒ◌, plain_all}
use Rattle.rules.specs.Search.{Taking, behind, takings, Halves, cons_halves, Cut, longer, cuts, join_halves}
use Rattle.words.specs.Marks.{clear, positions, Split, under, splits}
use Rattle.words.proofs.marks.Places.{by_digit_lem, half_lt, half_pos, double_half, double_digit, digit_2, even_half, even_digit, low_even, low_odd, positions_none}
use Rattle.words.proofs.marks.Fronts.{splits_none}
use Rattle.value_places.specs.Origins.{nthᵒ, keepᵒ, markedᵒ}
use Rattle.search_machine.specs.Operations.{choice_at, parts_at}

marked_none : (vs : Valuesᵒ) → markedᵒ vs 0 ≡ emptyᵒ
unfolding markedᵒ
marked_none emptyᵒ = refl
marked_none (v ▸ᵒ vs) = marked_none vs

-- The first element marked, and the rest.
marked_low : (vs : Valuesᵒ) (k m : ℕ) → 0 < m → m < 2 ^ count (plain_all vs) → m < 2 ^ k
    → markedᵒ vs m ≡ nthᵒ vs (count_trailing_zeros k m) ▸ᵒ markedᵒ vs (clear (count_trailing_zeros k m) m)
unfolding markedᵒ count plain_all nthᵒ clear
marked_low emptyᵒ k m p h l = absurd (omega arith)
marked_low (v ▸ᵒ vs) zero m p h l = absurd (omega arith)
marked_low (v ▸ᵒ vs) (suc k) m p h l = by_digit_lem _ m
    (λ e.
    let t = count_trailing_zeros k (m / 2) in
    rw (low_even k m e, double_digit (clear t (m / 2)) (m % 2) (digit_2 m), double_half (clear t (m / 2)) (m % 2) (digit_2 m), e)
    (marked_low vs k (m / 2) (half_pos m p e) (half_lt (count (plain_all vs)) m h) (half_lt k m l)))
    (λ e. rw (low_odd k m e, e, even_digit m, even_half m))

-- ---- One element, and the rest without that one place.

pub pick_at : Valuesᵒ → ℕ → ℕ → Taking
pick_at vs m k = record { one = nthᵒ vs k; others = markedᵒ vs (clear k m) }

pick_is : {a b : Valueᵒ} {us vs : Valuesᵒ} → a ≡ b → us ≡ vs → ◌≡◌ {A = Taking} (record { one = a; others = us }) (record { one = b; others = vs })
pick_is p q = ap₂ (λ (x : Valueᵒ) (y : Valuesᵒ). record { one = x; others = y }) p q

module _ (v : Valueᵒ) (vs : Valuesᵒ) (m : ℕ) where
  pick_even : m % 2 ≡ 0 → (l : List ℕ) → map (pick_at (v ▸ᵒ vs) m) (map suc l) ≡ map (pick_at vs (m / 2)) l
  unfolding pick_at nthᵒ markedᵒ clear
  pick_even e [] = refl
  pick_even e (k ∷ l) = ap₂ (λ (x : Taking) (y : List Taking). x ∷ y)
      (pick_is refl (rw (double_digit (clear k (m / 2)) (m % 2) (digit_2 m), double_half (clear k (m / 2)) (m % 2) (digit_2 m), e)))
      (pick_even e l)

  pick_odd : m % 2 ≡ 1 → (l : List ℕ) → map (pick_at (v ▸ᵒ vs) m) (map suc l) ≡ map (behind v) (map (pick_at vs (m / 2)) l)
  unfolding pick_at nthᵒ markedᵒ clear behind
  pick_odd e [] = refl
  pick_odd e (k ∷ l) = ap₂ (λ (x : Taking) (y : List Taking). x ∷ y)
      (pick_is refl (rw (double_digit (clear k (m / 2)) (m % 2) (digit_2 m), double_half (clear k (m / 2)) (m % 2) (digit_2 m), e)))
      (pick_odd e l)

  pick_zero : pick_at (v ▸ᵒ vs) m 0 ≡ record { one = v; others = markedᵒ vs (m / 2) }
  unfolding pick_at nthᵒ markedᵒ clear
  pick_zero = rw (even_digit m, even_half m)

-- The choices of a cons under a multiset are the places markedᵒ, in order.
pub takings_marked : (vs : Valuesᵒ) (k m : ℕ) → m < 2 ^ count (plain_all vs) → m < 2 ^ k → takings (markedᵒ vs m) ≡ map (pick_at vs m) (positions k m)
unfolding markedᵒ count plain_all takings behind positions
takings_marked emptyᵒ k m h l = let z : m ≡ 0 = omega arith in rw (z, positions_none k)
takings_marked (v ▸ᵒ vs) zero m h l = let z : m ≡ 0 = omega arith in rw (z, marked_none vs)
takings_marked (v ▸ᵒ vs) (suc k) m h l =
    let r = takings_marked vs k (m / 2) (half_lt (count (plain_all vs)) m h) (half_lt k m l) in
    by_digit_lem _ m
    (λ e. rw e (r ∙ sym (pick_even v vs m e (positions k (m / 2)))))
    (λ e. rw e (ap₂ (λ (x : Taking) (y : List Taking). x ∷ y) (sym (pick_zero v vs m)) (ap (map (behind v)) r ∙ sym (pick_odd v vs m e (positions k (m / 2))))))

-- ---- A front and a back.

pub cut_at : Valuesᵒ → Split → Cut
cut_at vs s = record { front = markedᵒ vs s.front; back = markedᵒ vs s.back }

cut_is : {a b c d : Valuesᵒ} → a ≡ c → b ≡ d → ◌≡◌ {A = Cut} (record { front = a; back = b }) (record { front = c; back = d })
cut_is p q = ap₂ (λ (x y : Valuesᵒ). record { front = x; back = y }) p q

module _ (v : Valueᵒ) (vs : Valuesᵒ) where
  marked_double : (x d : ℕ) → d < 2 → markedᵒ (v ▸ᵒ vs) (x * 2 + d) ≡ keepᵒ d v (markedᵒ vs x)
  unfolding markedᵒ
  marked_double x d h = rw (double_digit x d h, double_half x d h)

  marked_even : (x : ℕ) → markedᵒ (v ▸ᵒ vs) (x * 2) ≡ markedᵒ vs x
  unfolding markedᵒ
  marked_even x = let p : x * 2 % 2 ≡ 0 = omega arith in let q : x * 2 / 2 ≡ x = omega arith in rw (p, q)

  cut_even : (l : List Split) → map (cut_at (v ▸ᵒ vs)) (map (under 0) l) ≡ map (cut_at vs) l
  unfolding cut_at under
  cut_even [] = refl
  cut_even (s ∷ l) = ap₂ (λ (x : Cut) (y : List Cut). x ∷ y) (cut_is (marked_double s.front 0 (omega arith)) (marked_even s.back)) (cut_even l)

  cut_odd : (l : List Split) → map (cut_at (v ▸ᵒ vs)) (map (under 1) l) ≡ map (longer v) (map (cut_at vs) l)
  unfolding cut_at under longer
  cut_odd [] = refl
  cut_odd (s ∷ l) = ap₂ (λ (x : Cut) (y : List Cut). x ∷ y) (cut_is (marked_double s.front 1 (omega arith)) (marked_even s.back)) (cut_odd l)

  cut_first : (m : ℕ) → m % 2 ≡ 1 → cut_at (v ▸ᵒ vs) (record { front = 0; back = m }) ≡ record { front = emptyᵒ; back = v ▸ᵒ markedᵒ vs (m / 2) }
  unfolding cut_at markedᵒ
  cut_first m e = rw (e, marked_none vs)

cut_none : (vs : Valuesᵒ) → record { front = emptyᵒ; back = emptyᵒ } ∷ [] ≡ cut_at vs (record { front = 0; back = 0 }) ∷ []
unfolding cut_at
cut_none vs = rw (marked_none vs)

-- The choices of a join are the ways to part the marks, the shortest front first.
pub cuts_marked : (vs : Valuesᵒ) (k m : ℕ) → m < 2 ^ count (plain_all vs) → m < 2 ^ k → cuts (markedᵒ vs m) ≡ map (cut_at vs) (splits k m)
unfolding markedᵒ count plain_all cuts longer splits
cuts_marked emptyᵒ k m h l = let z : m ≡ 0 = omega arith in rw (z, splits_none k) (cut_none emptyᵒ)
cuts_marked (v ▸ᵒ vs) zero m h l = let z : m ≡ 0 = omega arith in rw (z, marked_none vs) (cut_none (v ▸ᵒ vs))
cuts_marked (v ▸ᵒ vs) (suc k) m h l =
    let r = cuts_marked vs k (m / 2) (half_lt (count (plain_all vs)) m h) (half_lt k m l) in
    by_digit_lem _ m
    (λ e. rw e (r ∙ sym (cut_even v vs (splits k (m / 2)))))
    (λ e.
    let z = cut_first v vs m e in
    rw e (ap₂ (λ (x : Cut) (y : List Cut). x ∷ y) (sym z) (ap (map (longer v)) r ∙ sym (cut_odd v vs (splits k (m / 2))))))

-- ---- The halves of what is held.

map_map : {A B C : Type 0} (f : B → C) (g : A → B) (l : List A) → map f (map g l) ≡ map (λ (x : A). f (g x)) l
map_map f g [] = refl
map_map f g (a ∷ l) = ap (λ y. f (g a) ∷ y) (map_map f g l)

module _ (o : Origin) (vs : Valuesᵒ) (m : ℕ) (h : m < 2 ^ count (plain_all vs)) (l : m < 2 ^ 64) where
  pub cons_multiset : (e : Matcher) → cons_halves (multiset e) (collectionᵒ o (markedᵒ vs m)) ≡ map (choice_at o vs m) (positions 64 m)
  unfolding cons_halves choice_at pick_at
  cons_multiset e = ap (map _) (takings_marked vs 64 m h l) ∙ map_map _ _ (positions 64 m)

  pub cons_list : (e : Matcher) → 0 < m → cons_halves (list e) (collectionᵒ o (markedᵒ vs m)) ≡ choice_at o vs m (count_trailing_zeros 64 m) ∷ []
  unfolding cons_halves choice_at
  cons_list e p = rw (marked_low vs 64 m p h l)

  pub join_splits : join_halves (collectionᵒ o (markedᵒ vs m)) ≡ map (parts_at o vs) (splits 64 m)
  unfolding join_halves cut_at parts_at
  join_splits = ap (map _) (cuts_marked vs 64 m h l) ∙ map_map _ _ (splits 64 m)

pub cons_list_none : (o : Origin) (vs : Valuesᵒ) (e : Matcher) → cons_halves (list e) (collectionᵒ o (markedᵒ vs 0)) ≡ []
unfolding cons_halves
cons_list_none o vs e = rw (marked_none vs)
