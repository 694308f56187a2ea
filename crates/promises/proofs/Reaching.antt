-- The figure is reached: on a target of as many equal integers as the cap says, a match by a chain takes precisely as many steps as review says.
use Prim.Native.Nat.{ℕ, zero, suc, ◌+◌, ◌*◌, ◌≤◌, ◌<◌, zero-le}
use native.Mathlib.Omega.{arith}
use Rattle.std.proofs.Common.{le_refl, ◌∙◌}
use Rattle.std.specs.Prelude.{◌≡◌, true, List, [], ◌∷◌, ℤ, pos}
use Rattle.std.proofs.Math.Path.{refl, sym, ap}
use Rattle.std.proofs.Math.ListN.{length}
use Rattle.rules.specs.Numbers.{in_range}
use Rattle.rules.specs.Forms.{integer, multiset, Value, int, collection, words, count, size, size_all}
use Rattle.rules.specs.Reading.{ok, ◌then◌}
use Rattle.rules.specs.Fit.{fits_all, fits_value}
use Rattle.rules.specs.Rows.{Form, as_words}
use Rattle.rules.specs.Dialects.{every_place}
use Rattle.rules.specs.Search.{Run, start}
use Rattle.rules.specs.Review.{factor, formula}
use Rattle.rules.specs.Services.{accepted, Rule, rule_of, rule_in, target_of, Matched, match_of, match_in, match, carried_out, review}
use Rattle.rules.specs.Tables.{nums}
use Rattle.forms.specs.Written.{largest, largest_of, deepest, deepest_of, Widths, WidthsAll, variable_tags, length_words}
use Rattle.promises.specs.Trace.{trace}
use Rattle.promises.specs.Budget.{report, Full, Outcome, done, spent, full}
use Rattle.forms.proofs.ReadTarget.{target_read}
use Rattle.forms.specs.Faults.{Sane, sane_exactly, rule_accepted, target_accepted}
use Rattle.promises.specs.Reviewing.{count_of}
use Rattle.promises.proofs.Reviewing.{count_is}
use Rattle.promises.specs.Matching.{states}
use Rattle.promises.proofs.Matching.{outcome, result}
use Rattle.promises.proofs.Answers.{answer_0, answer_7, answer_8, room_enough}
use Rattle.promises.specs.Room.{widest}
use Rattle.promises.specs.Exact.{wild, ends, link, Chain, copies}
use Rattle.promises.proofs.Exact.{states_exact}

-- A collection of so many equal integers: its words are read as it, it fits, and no collection in it has more elements.
module _ (x : ℤ) where
  unfoldable pub equals : ℕ → Value
  unfolding copies
  equals n = collection (copies n (int x))

  copies_are : (n : ℕ) → (count (copies n (int x)) ≡ n) × (largest_of (copies n (int x)) ≡ 0) × (deepest_of (copies n (int x)) ≡ 0)
      × (size_all (copies n (int x)) ≡ n + n) × WidthsAll (copies n (int x))
  unfolding copies count largest_of deepest_of size_all WidthsAll
  copies_are zero = (refl, refl, refl, omega arith, tt)
  copies_are (suc n) =
      let h = copies_are n in
      (ap suc h.0, omega (arith, h.1), omega (arith, h.2), omega (arith, h.3), (tt, h.4))

  copies_fit : (n at : ℕ) → fits_all (λ v i. fits_value integer v i) (copies n (int x)) at ≡ ok tt
  unfolding copies fits_all fits_value ◌then◌
  copies_fit zero at = refl
  copies_fit (suc n) at = copies_fit n (at + 2)

  equals_small : (n : ℕ) → largest (equals n) ≤ n
  unfolding equals largest
  equals_small n = let h = copies_are n in omega (arith, h.0, h.1)

  equals_read : (n : ℕ) → n ≤ 64 → target_of (multiset integer) (words (equals n)) ≡ accepted (equals n)
  unfolding equals fits_value deepest size Widths
  equals_read n l =
      let h = copies_are n in
      (target_accepted (multiset integer) (words (equals n)) (equals n)).1 (record {
        target = (target_read (words (equals n)) (equals n)).1 (
          refl,
          omega (arith, length_words (equals n), h.3),
          omega (arith, equals_small n),
          omega (arith, h.2),
          h.4,
        );
        fit = copies_fit n 2;
      })

module _ (form : Form) (ms ps : List ℤ) (r : Rule) (rule : rule_of ms ps ≡ accepted r) (of-integers : r.matcher ≡ multiset integer) (chain : Chain r.pattern)
    (cap : ℕ) (told : (review ms ps (pos cap)).answer ≡ 0) (x : ℤ) (word : in_range x ≡ true) where
  -- The words of the target, and what review tells.
  abbrev target : List ℤ
  target = words (equals x cap)

  abbrev figure : ℕ
  figure = (review ms ps (pos cap)).count

  figure_is : (figure ≡ count_of cap r) × (count_of cap r ≤ 4294967295) × (cap ≤ 64)
  figure_is = count_is ms ps cap r ((rule_accepted ms ps r).0 rule) told

  read : target_of r.matcher target ≡ accepted (equals x cap)
  read = ap (λ m. target_of m target) of-integers ∙ equals_read x cap figure_is.2

  sane : Sane ms ps target r (equals x cap)
  sane = (sane_exactly ms ps target r (equals x cap)).0 (rule, read)

  states_are : length (states every_place r (equals x cap)) ≡ figure
  unfolding states count_of equals
  states_are = ap (λ m. length (trace every_place (start m r.pattern (equals x cap) ∷ []))) of-integers
      ∙ states_exact x word chain sane.rule.numbered.0 sane.rule.numbered.1 cap
      ∙ ap (formula cap r.pattern) (sym of-integers) ∙ sym figure_is.0

  module _ (budget : ℕ) (room : List ℤ) (fits_in_lem : (match_in form ms ps target budget room).answer ≡ 8 → ⊥) where
    not_full : Full form budget (length room) (states every_place r (equals x cap)) → ⊥
    not_full f = fits_in_lem ((answer_8 every_place form ms ps target budget room r (equals x cap) rule read).1 f)

    -- With the figure or more as budget, and room for the rows.
    pub reached : figure ≤ budget → ((match_in form ms ps target budget room).answer ≡ 0) × ((match_in form ms ps target budget room).steps ≡ figure)
    unfolding carried_out report
    reached b = (
      (answer_0 every_place form ms ps target budget room r (equals x cap) rule read).1 (omega (arith, states_are), not_full),
      ap (λ (y : Matched). y.steps) (result every_place form ms ps target budget room r (equals x cap) rule read)
          ∙ go (outcome every_place form ms ps target budget room r (equals x cap) rule read),
    )
      where
        go : {y : Run} → Outcome form budget (length room) (states every_place r (equals x cap)) y → y.steps ≡ figure
        go (done h f q) = ap (λ (y : Run). y.steps) q ∙ states_are
        go (spent h f q) = absurd (omega (arith, states_are))
        go (full f q) = absurd (not_full f)

    -- With less, states remain.
    pub not_before : budget < figure → (match_in form ms ps target budget room).answer ≡ 7
    not_before b = (answer_7 every_place form ms ps target budget room r (equals x cap) rule read).1 (omega (arith, states_are), not_full)

  -- With the figure as budget, and the room that is enough for every target of its length.
  pub reached_with_room : (room : List ℤ) → factor cap 0 r.pattern r.matcher * variable_tags r.pattern * widest form (length target) ≤ length room
      → ((match_in form ms ps target figure room).answer ≡ 0) × ((match_in form ms ps target figure room).steps ≡ figure)
  reached_with_room room h =
      let a = room_enough every_place form ms ps target figure room r (equals x cap) rule read cap (equals_small x cap) (omega (arith, figure_is.0)) h in
      reached figure room (λ e. omega arith) (le_refl figure)

-- Four conses over wildcards on 64 equal integers, by the theorem and not by taking the steps.
abbrev multiset_integer : List ℤ
multiset_integer = nums (3 ∷ 1 ∷ [])

abbrev four : List ℤ
four = nums (5 ∷ 0 ∷ 5 ∷ 0 ∷ 5 ∷ 0 ∷ 5 ∷ 0 ∷ 0 ∷ [])

pub four_conses_reach : (room : List ℤ) → (match multiset_integer four (words (equals (pos 7) 64)) 77007361 room).steps ≡ 77007361
unfolding match match_of review rule_in in_range factor variable_tags words equals widest
four_conses_reach room =
    (reached_with_room as_words multiset_integer four _ refl refl (link wild (link wild (link wild (link wild (ends wild))))) 64 refl (pos 7) refl room zero-le).1
