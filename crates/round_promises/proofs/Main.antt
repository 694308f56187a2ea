-- Document 02, No. 10, as theorems about its definitions. Each is stated here and proved elsewhere; what it assumes stands before its arrows. The words that
-- the statements use are defined in the crate round_rules (by_rounds, inside, waiting, limit_of, match_rounds) and here in Listed (onward: the lists after a
-- round; by_lists), Order (later: the lists after some rounds; first_rounds: what these take up), Runs (Overfull), Answers (Ran), Whole (beginning, in_rounds:
-- all states in the order of the rounds; search_of, Alike), Permutations (Rearranged); in promises in Matching (states, ways), Solve (founds), Budget (Full, report).
use Rattle.std.specs.Prelude.{ℕ, suc, ◌*◌, ◌≤◌, ◌<◌, ◌≡◌, ◌⊎◌, ◌↔◌, false, length, take, drop, ℤ}
use Rattle.std.proofs.Common.{sym, ap, ◌∙◌}
use Rattle.std.proofs.Math.Option.{Option, none, some}
use mathlib.Core.List.{List, [], ◌∷◌, ◌++◌, map, flat_map}
use Rattle.rules.specs.Forms.{Matcher, Pattern, never, Value}
use Rattle.rules.specs.Origins.{Valueᵒ, Bindings}
use Rattle.rules.specs.Dialects.{Dialect, dialect_of}
use Rattle.rules.specs.Rows.{Form, form_of, row}
use Rattle.rules.specs.Search.{Atom, state, after_in}
use Rattle.rules.specs.Ways.{Way, Follows}
use Rattle.rules.specs.Review.{factor}
use Rattle.rules.specs.Services.{accepted, refused, Rule, rule_in, target_of, Matched, turned_away, carried_out, match_of}
use Rattle.forms.specs.Written.{variable_tags, largest}
use Rattle.promises.specs.Solve.{founds}
use Rattle.promises.specs.Budget.{report, Full}
use Rattle.promises.specs.Room.{widest}
use Rattle.promises.specs.Reviewing.{count_of}
use Rattle.promises.specs.Matching.{states, ways}
use Rattle.round_rules.specs.Rounds.{Branch, spent, left, inside, by_rounds, limit_of, states_in, match_rounds, match_rounds_picked}
use Rattle.round_promises.specs.Listed.{onward, by_lists}
use Rattle.round_promises.proofs.Told.{run_told}
use Rattle.round_promises.specs.Permutations.{Rearranged}
use Rattle.round_promises.specs.Order.{later, first_rounds, all}
use Rattle.round_promises.proofs.Order.{round_less}
use Rattle.round_promises.specs.Runs.{Overfull}
use Rattle.round_promises.proofs.Answers.{Ran, outcome}
use Rattle.round_promises.specs.Whole.{search_of, short_of, none_follows, one_follows, beginning, in_rounds}
use Rattle.round_promises.proofs.Whole.{states_rearranged, rows_rearranged, steps_same}
use Rattle.round_promises.specs.Whole.{table_over}
use Rattle.round_promises.proofs.Whole.{rounds_end, rule_alike, target_alike, table_stands, full_stands, defined, answer_0, answer_7, answer_8}
use Rattle.round_promises.proofs.Whole.{steps_bounded, rows_bounded, only_table}
use Rattle.round_promises.proofs.Whole.{answer_21, first_found, Alike, alike}

-- ---- Determined: two results that the definition allows agree in every number and every word of the room.

pub rounds_determined : (dialect : Dialect) (form : Form) (ms ps ts : List ℤ) (table budget : ℕ) (room : List ℤ) (x y : Matched)
    → x ≡ match_rounds dialect form ms ps ts table budget room → y ≡ match_rounds dialect form ms ps ts table budget room → x ≡ y
rounds_determined dialect form ms ps ts table budget room x y p q = p ∙ sym q

-- "20, unknown row form, before 1", "22, unknown dialect, before 1 and after 20".
pub unknown_form : (form dialect : ℕ) → form_of form ≡ none → (ms ps ts : List ℤ) (table budget : ℕ) (room : List ℤ)
    → match_rounds_picked form dialect ms ps ts table budget room ≡ turned_away 20 0 0 room
unfolding match_rounds_picked
unknown_form form dialect e ms ps ts table budget room = ap (λ (x : Option Form). elim x as (λ _. Matched) [
  | none ↦ turned_away 20 0 0 room
  | some f ↦ elim (dialect_of dialect) as (λ _. Matched) [ none ↦ turned_away 22 0 0 room | some d ↦ match_rounds d f ms ps ts table budget room ]
]) e

-- ---- A not is taken up whole, its states counted at once: "one state if p has no good way from the bindings held, else none".

module _ (dialect : Dialect) (p : Pattern) (m : Matcher) (v : Valueᵒ) (older : List Atom) (e : Bindings) (n : ℕ) where
  pub not_without_way : ((w : Way) (d : Bindings) → Follows dialect p m v e w d → ⊥) → length (search_of dialect p m v e) ≤ n
      → inside dialect n (after_in dialect (never p) m v older e) ≡ left (length (search_of dialect p m v e)) (state false older e ∷ [])
  not_without_way h = one_follows dialect p m v older e h n

  pub not_with_way : (w : Way) (d : Bindings) → Follows dialect p m v e w d → length (search_of dialect p m v e) ≤ n
      → inside dialect n (after_in dialect (never p) m v older e) ≡ left (length (search_of dialect p m v e)) []
  not_with_way w d f = none_follows dialect p m v older e w d f n

  pub not_with_budget_spent : n < length (search_of dialect p m v e) → inside dialect n (after_in dialect (never p) m v older e) ≡ spent
  not_with_budget_spent = short_of dialect p m v older e n

-- ---- The lists that the statements below speak of are the definition's; what is still to be taken up falls with every round, so it ends.

pub as_listed : (dialect : Dialect) (form : Form) (rounds limit n : ℕ) (bs : List Branch) (free : ℕ) → by_rounds dialect form rounds limit n bs free ≡ by_lists dialect form rounds limit n bs free
as_listed dialect form = run_told dialect form

pub falls : (dialect : Dialect) (b : Branch) (bs : List Branch) → length (all dialect (onward dialect (b ∷ bs))) < length (all dialect (b ∷ bs))
falls dialect = round_less dialect

module _ (dialect : Dialect) (r : Rule) (v : Value) where
  -- No list is left after as many rounds as the depth-first search has states.
  pub ends : later dialect (length (states dialect r v)) (beginning r v) ≡ []
  ends = rounds_end dialect r v

  -- ---- "Its rows are a rearrangement of the depth-first rows and its steps are the same number."

  -- All states in the order of the rounds are those of the depth-first order, rearranged.
  pub order_rearranges : Rearranged (states dialect r v) (in_rounds dialect r v)
  order_rearranges = states_rearranged dialect r v

  -- "Every good way is there."
  pub every_way_is_there : Rearranged (map (λ s. s.bound) (ways dialect r v)) (founds (in_rounds dialect r v))
  every_way_is_there = rows_rearranged dialect r v

  pub as_many_steps : length (in_rounds dialect r v) ≡ length (states dialect r v)
  as_many_steps = steps_same dialect r v

-- ---- Match by rounds.

-- "More than 256 waiting states or more than the lent table holds at a fixed size of a state."
pub limit_is : (size words w : ℕ) → 0 < size → limit_of (states_in size words) < w ↔ (256 < w) ⊎ (words < w * size)
limit_is = table_over

-- Answers 1 to 6 as before: of the rule, and of the target.
module _ (dialect : Dialect) (form : Form) (ms ps ts : List ℤ) (table budget : ℕ) (room : List ℤ) where
  pub refused_alike : (a i : ℕ) → rule_in dialect ms ps ≡ refused a i → match_rounds dialect form ms ps ts table budget room ≡ match_of dialect form ms ps ts budget room
  refused_alike = rule_alike dialect form ms ps ts table budget room

  pub unfit_alike : (r : Rule) (a i : ℕ) → rule_in dialect ms ps ≡ accepted r → target_of r.matcher ts ≡ refused a i
      → match_rounds dialect form ms ps ts table budget room ≡ match_of dialect form ms ps ts budget room
  unfit_alike = target_alike dialect form ms ps ts table budget room

module _ (dialect : Dialect) (form : Form) (ms ps ts : List ℤ) (r : Rule) (v : Value) (rule : rule_in dialect ms ps ≡ accepted r) (target : target_of r.matcher ts ≡ accepted v) where
  -- Where neither budget, room nor table stops it, and the depth-first run is not stopped.
  pub rows_and_steps : (n : ℕ) (roomX : List ℤ) (table k : ℕ) (roomY : List ℤ)
      → (match_of dialect form ms ps ts n roomX).answer ≡ 0 → (match_rounds dialect form ms ps ts table k roomY).answer ≡ 0
      → Alike dialect form (match_of dialect form ms ps ts n roomX) (match_rounds dialect form ms ps ts table k roomY) roomX roomY
  rows_and_steps = alike dialect form ms ps ts r v rule target

  module _ (table budget : ℕ) (room : List ℤ) where
    abbrev it : Matched
    it = match_rounds dialect form ms ps ts table budget room

    abbrev free : ℕ
    free = length room

    abbrev limit : ℕ
    limit = limit_of table

    pub match_is : it ≡ carried_out (by_rounds dialect form budget limit budget (beginning r v) free) room
    match_is = defined dialect form ms ps ts table budget room r v rule target

    -- At every budget it has taken up the first states of the rounds' order: all, as many as the budget, those up to the first whose row does not fit, or
    -- those of the rounds before the one that the table does not hold; and what is written are their rows.
    pub at_every_budget : Ran dialect form limit budget (beginning r v) free
    at_every_budget = outcome dialect form limit budget (beginning r v) free

    -- The rows stand whole from the start of the room, in the order of the rounds, and every word after them is untouched.
    pub room_holds : (it.rows ≤ length (founds (in_rounds dialect r v))) × (it.room ≡ flat_map (row form) (take it.rows (founds (in_rounds dialect r v))) ++ drop it.words room)
    room_holds = first_found dialect form ms ps ts table budget room r v rule target

    -- ---- "21, table, exactly when a round would begin with more than 256 waiting states or more than the lent table holds", "7 and 8 come first".

    pub table_exactly : it.answer ≡ 21 ↔ Overfull dialect form limit budget free (beginning r v)
    table_exactly = answer_21 dialect form ms ps ts table budget room r v rule target

    -- "After the rows of the rounds before."
    pub table_is : (o : Overfull dialect form limit budget free (beginning r v))
        → it ≡ carried_out (report form 21 (length (first_rounds dialect o.rounds (beginning r v))) (first_rounds dialect o.rounds (beginning r v))) room
    table_is = table_stands dialect form ms ps ts table budget room r v rule target

    pub done_exactly : it.answer ≡ 0
        ↔ ((length (in_rounds dialect r v) ≤ budget) × (Full form budget free (in_rounds dialect r v) → ⊥)) × (Overfull dialect form limit budget free (beginning r v) → ⊥)
    done_exactly = answer_0 dialect form ms ps ts table budget room r v rule target

    pub budget_exactly : it.answer ≡ 7
        ↔ ((budget < length (in_rounds dialect r v)) × (Full form budget free (in_rounds dialect r v) → ⊥)) × (Overfull dialect form limit budget free (beginning r v) → ⊥)
    budget_exactly = answer_7 dialect form ms ps ts table budget room r v rule target

    pub full_exactly : it.answer ≡ 8 ↔ Full form budget free (in_rounds dialect r v) × (Overfull dialect form limit budget free (beginning r v) → ⊥)
    full_exactly = answer_8 dialect form ms ps ts table budget room r v rule target

    pub full_is : (Overfull dialect form limit budget free (beginning r v) → ⊥) → (f : Full form budget free (in_rounds dialect r v))
        → it ≡ carried_out (report form 8 (suc (length f.before)) f.before) room
    full_is = full_stands dialect form ms ps ts table budget room r v rule target

    -- ---- "And demand 3 apart from 21."

    module _ (cap : ℕ) (small : largest v ≤ cap) where
      pub steps_at_most : it.steps ≤ count_of cap r
      steps_at_most = steps_bounded dialect form ms ps ts table budget room r v rule target cap small

      pub rows_at_most : it.rows ≤ factor cap 0 r.pattern r.matcher
      rows_at_most = rows_bounded dialect form ms ps ts table budget room r v rule target cap small

      pub enough : count_of cap r ≤ budget → factor cap 0 r.pattern r.matcher * variable_tags r.pattern * widest form (length ts) ≤ length room
          → (it.answer ≡ 0) ⊎ (it.answer ≡ 21)
      enough = only_table dialect form ms ps ts table budget room r v rule target cap small
