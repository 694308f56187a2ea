-- Document 02, No. 13: the two dialects. That demands 1 to 3 hold in either is said where they stand: Ways, Runs, Reviews and Bounds take the dialect.
use Rattle.std.specs.Prelude.{ℕ, ◌≡◌, refl, false, ◌↔◌, List, [], ◌∷◌, ◌++◌, map, ℤ}
use Rattle.std.proofs.Math.Path.{ap, ap₂}
use Rattle.std.proofs.Math.Option.{Option, none, some}
use Rattle.rules.specs.Forms.{Matcher, multiset, Pattern, cons, Value}
use Rattle.rules.specs.Origins.{Valueᵒ, Bindings, plain}
use Rattle.rules.specs.Reading.{fault}
use Rattle.rules.specs.Variables.{demand}
use Rattle.rules.specs.Dialects.{Dialect, every_place, first_places, dialect_of}
use Rattle.rules.specs.Fit.{takes, without_something, told_apart, fits_in}
use Rattle.rules.specs.Equality.{equal}
use Rattle.rules.specs.Rows.{Form, form_of}
use Rattle.rules.specs.Search.{Halves, cons_halves, cons_halves_in, any_equal, differing}
use Rattle.rules.specs.Ways.{Way, Follows, Good}
use Rattle.rules.specs.Services.{accepted, Rule, rule_in, target_of, Matched, turned_away, match_of, match_with, match_picked, Reviewed, declined, review, review_of, review_picked}
use Rattle.promises.specs.Matching.{states, ways}
use Rattle.promises.specs.Suited.{Suits}
use Rattle.promises.specs.Told.{Told}
use Rattle.promises.specs.Dialects.{NoMore}
use Rattle.promises.proofs.Dialects.{rule_states, rule_rows_lem, rule_way, rule_done, not_alike}
use Rattle.promises.specs.FirstPlaces.{Some, halves_some, firsts, unless, choice_exactly}

-- ---- "Dialect 1 runs on."

pub match_stays : (form : ℕ) (ms ps ts : List ℤ) (budget : ℕ) (room : List ℤ) → match_picked form 1 ms ps ts budget room ≡ match_with form ms ps ts budget room
unfolding match_picked match_with dialect_of
match_stays form ms ps ts budget room = refl

pub review_stays : (ms ps : List ℤ) (cap : ℤ) → review_picked 1 ms ps cap ≡ review ms ps cap
unfolding review_picked review_of review dialect_of
review_stays ms ps cap = refl

-- ---- "22, unknown dialect, before 1 and after 20"; 0 in every further number, and the room as it was.

module _ (form dialect : ℕ) (ms ps ts : List ℤ) (budget : ℕ) (room : List ℤ) where
  by : Option Form → Option Dialect → Matched
  by x y = elim x [
    | none ↦ turned_away 20 0 0 room
    | some f ↦ elim y [ none ↦ turned_away 22 0 0 room | some d ↦ match_of d f ms ps ts budget room ]
  ]

  pub unknown_form_first : form_of form ≡ none → match_picked form dialect ms ps ts budget room ≡ turned_away 20 0 0 room
  unfolding match_picked by
  unknown_form_first e = ap (λ x. by x (dialect_of dialect)) e

  pub unknown_dialect : (f : Form) → form_of form ≡ some f → dialect_of dialect ≡ none → match_picked form dialect ms ps ts budget room ≡ turned_away 22 0 0 room
  unfolding match_picked by
  unknown_dialect f e h = ap₂ by e h

pub unknown_dialect_reviewed : (dialect : ℕ) → dialect_of dialect ≡ none → (ms ps : List ℤ) (cap : ℤ) → review_picked dialect ms ps cap ≡ declined 22 0
unfolding review_picked
unknown_dialect_reviewed dialect e ms ps cap =
    ap (λ (x : Option Dialect). elim x as (λ _. Reviewed) [ none ↦ declined 22 0 | some d ↦ review_of d ms ps cap ]) e

-- ---- "In dialect 2 a cons under a multiset whose element matcher has something in it is 4", at its own tag.

pub something_is_misfit : (p q : Pattern) (m : Matcher) (at : ℕ) (ks : List Matcher) → without_something m ≡ false
    → fits_in first_places (cons p q) (multiset m) at ks ≡ fault at
unfolding fits_in told_apart takes demand
something_is_misfit p q m at ks e = rw e

-- ---- A cons under a multiset: some of dialect 1's choices, in their order; each exactly if no element before it, of those that remain there, is equal to
-- its own. "The rest still loses only that one place."

pub choices_are_some : (dialect : Dialect) (m : Matcher) (v : Valueᵒ) → Some (cons_halves_in dialect m v) (cons_halves m v)
choices_are_some = halves_some

pub first_places_exactly : (m : Matcher) (v : Valueᵒ) (hs : List Halves) (h : Halves) (gs : List Halves) → cons_halves (multiset m) v ≡ hs ++ (h ∷ gs)
    → cons_halves_in first_places (multiset m) v
    ≡ differing (equal m) [] hs ++ (unless (any_equal (equal m) (firsts hs) (plain h.first)) h ++ differing (equal m) (firsts hs ++ (plain h.first ∷ [])) gs)
first_places_exactly = choice_exactly

-- ---- For a rule that dialect 2 accepts (dialect 1 accepts it too) and a target that fits it: of dialect 1's states some are taken up, in their order, and so of
-- its rows some are found, in their order. A row can be lost, and with it a badge: the table WorkedDialects has one.

module _ (ms ps ts : List ℤ) (r : Rule) (v : Value) (rule : rule_in first_places ms ps ≡ accepted r) (target : target_of r.matcher ts ≡ accepted v) where
  pub states_are_some : Some (states first_places r v) (states every_place r v)
  states_are_some = rule_states ms ps ts r v rule target

  pub rows_are_some : Some (map (λ s. s.bound) (ways first_places r v)) (map (λ s. s.bound) (ways every_place r v))
  rows_are_some = rule_rows_lem ms ps ts r v rule target

  -- What a good way of dialect 2 binds, a good way of dialect 1 binds, with another choice at some cons perhaps.
  pub way_in_both : (w : Way) (e : Bindings) → Good first_places r.matcher r.pattern v w e → (u : Way) × Good every_place r.matcher r.pattern v u e
  way_in_both = rule_way ms ps ts r v rule target

  -- Budget and room with which dialect 1 is done are enough for dialect 2: no more rows, steps and words.
  pub no_more : (form : Form) (budget : ℕ) (room : List ℤ) → (match_of every_place form ms ps ts budget room).answer ≡ 0
      → NoMore (match_of first_places form ms ps ts budget room) (match_of every_place form ms ps ts budget room)
  no_more = rule_done ms ps ts r v rule target

-- ---- A not holds in one dialect exactly if it holds in the other. `Told false`: what tests 3 and 4 of dialect 2 leave of a pattern inside a not.

pub not_holds_alike : (p : Pattern) (m : Matcher) (v : Valueᵒ) (e : Bindings) → Told false p m → Suits m (plain v)
    → ((w : Way) (d : Bindings) → Follows first_places p m v e w d → ⊥) ↔ ((w : Way) (d : Bindings) → Follows every_place p m v e w d → ⊥)
not_holds_alike = not_alike
