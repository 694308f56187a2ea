-- Laws of what specs/Whole.antt defines.
use Rattle.std.specs.Prelude.{ℕ, suc, ◌*◌, ◌≤◌, ◌<◌, ◌≡◌, ◌⊎◌, ◌↔◌, take, ℤ}
use Rattle.std.proofs.Common.{arith, le_of_eq, ◌∙◌}
use Rattle.std.proofs.Math.Nat.{mul_assoc, le_trans}
use Rattle.std.proofs.Math.Path.{refl, sym, ap, subst}
use mathlib.Core.List.Permᴰ
use mathlib.Core.List.{List, [], ◌∷◌, ◌++◌, map, flat_map, append-nil}
use Rattle.std.proofs.Math.ListN.{length, drop}
use Rattle.std.proofs.lemmas.List.{length-map}
use Rattle.rules.specs.Dialects.{Dialect}
use Rattle.rules.specs.Forms.{Value, size}
use Rattle.rules.specs.Origins.{target}
use Rattle.rules.specs.Rows.{Form, row}
use Rattle.rules.specs.Search.{Run, start}
use Rattle.rules.specs.Following.{Solution}
use Rattle.rules.specs.Review.{factor}
use Rattle.rules.specs.Services.{accepted, refused, Rule, rule_in, target_of, Matched, carried_out, match_of, match_rule_in, match_target_in}
use Rattle.forms.specs.Lists.{flat_map_map}
use Rattle.forms.specs.Written.{variable_tags, largest, length_words}
use Rattle.promises.specs.Trace.{Taken}
use Rattle.promises.specs.Solve.{founds}
use Rattle.promises.proofs.Solve.{founds_start}
use Rattle.promises.specs.Budget.{rows_of, report, Full, Outcome, done, full}
use Rattle.promises.specs.Budget
use Rattle.promises.specs.Suited.{Suits, fits_suits}
use Rattle.promises.specs.Bound.{Fine, fine_target, anew, rows_bound}
use Rattle.promises.proofs.Bound.{steps_bound}
use Rattle.promises.specs.Room.{widest}
use Rattle.promises.proofs.Room.{rows_words}
use Rattle.forms.proofs.ReadTarget.{target_read}
use Rattle.promises.specs.Reviewing.{count_of}
use Rattle.forms.specs.Faults.{Sane}
use Rattle.forms.specs.Also.{sane_also}
use Rattle.promises.specs.Matching.{states, ways}
use Rattle.promises.proofs.Matching
use Rattle.round_rules.specs.Rounds.{Branch, branch, spent, left, inside, by_rounds, limit_of, states_in, run_rounds, rounds_target, rounds_rule, match_rounds}
use Rattle.round_rules.specs.Rounds
use Rattle.round_promises.specs.Listed.{by_lists}
use Rattle.round_promises.proofs.Told.{run_told}
use Rattle.round_promises.specs.Tree.{comes, comes_start}
use Rattle.round_promises.specs.Permutations.{Rearranged, same, rearranged_length, rearranged_flat_map}
use Rattle.round_promises.specs.Order.{later, first_rounds, all, order, founds_rearranged}
use Rattle.round_promises.proofs.Order.{order_rearranges, ends}
use Rattle.round_promises.specs.Runs.{Overfull}
use Rattle.round_promises.proofs.Answers.{table_exactly, table_is, full_is, done_exactly, budget_exactly, full_exactly, rows_first, steps_first, all_found, enough}
use Rattle.round_promises.specs.Whole.{beginning, in_rounds}

module _ (dialect : Dialect) (r : Rule) (v : Value) where
  all_beginning : all dialect (beginning r v) ≡ states dialect r v
  unfolding all Rounds.states flat_map beginning branch states
  all_beginning = append-nil (comes dialect (start r.matcher r.pattern v)) ∙ comes_start dialect r.matcher r.pattern v

  pub states_rearranged : Rearranged (states dialect r v) (in_rounds dialect r v)
  unfolding in_rounds
  states_rearranged = Permᴰ.trans (same (sym all_beginning)) (order_rearranges dialect (beginning r v))

  pub rows_rearranged : Rearranged (map (λ s. s.bound) (ways dialect r v)) (founds (in_rounds dialect r v))
  unfolding states ways
  rows_rearranged = Permᴰ.trans (same (sym (founds_start dialect r.matcher r.pattern v))) (founds_rearranged states_rearranged)

  pub steps_same : length (in_rounds dialect r v) ≡ length (states dialect r v)
  steps_same = sym (rearranged_length states_rearranged)

  pub rows_same : length (founds (in_rounds dialect r v)) ≡ length (ways dialect r v)
  rows_same = sym (rearranged_length rows_rearranged) ∙ length-map (ways dialect r v) (λ (s : Solution). s.bound)

  pub words_same : (form : Form) → length (rows_of form (in_rounds dialect r v)) ≡ length (rows_of form (states dialect r v))
  unfolding rows_of
  words_same form = sym (rearranged_length (rearranged_flat_map (row form) (founds_rearranged states_rearranged)))

  pub rounds_end : later dialect (length (states dialect r v)) (beginning r v) ≡ []
  rounds_end = ends dialect (length (states dialect r v)) (beginning r v) (omega (arith, ap length all_beginning))

-- Everything below is of rows in one form.
module _ (dialect : Dialect) (form : Form) where
  -- ---- Match by rounds.

  module _ (ms ps ts : List ℤ) (table budget : ℕ) (room : List ℤ) where
    -- What is turned away is turned away as in the other order.
    pub rule_alike : (a i : ℕ) → rule_in dialect ms ps ≡ refused a i → match_rounds dialect form ms ps ts table budget room ≡ match_of dialect form ms ps ts budget room
    unfolding match_of match_rounds
    rule_alike a i e = ap (rounds_rule dialect form table budget room ts) e ∙ sym (ap (match_rule_in dialect form budget room ts) e)

    pub target_alike : (r : Rule) (a i : ℕ) → rule_in dialect ms ps ≡ accepted r → target_of r.matcher ts ≡ refused a i
        → match_rounds dialect form ms ps ts table budget room ≡ match_of dialect form ms ps ts budget room
    unfolding match_of match_rounds
    target_alike r a i e f =
        ap (rounds_rule dialect form table budget room ts) e ∙ ap (rounds_target dialect form table budget room ts r) f
        ∙ sym (ap (match_rule_in dialect form budget room ts) e ∙ ap (match_target_in dialect form budget room ts r) f)

    module _ (r : Rule) (v : Value) (rule : rule_in dialect ms ps ≡ accepted r) (fitting : target_of r.matcher ts ≡ accepted v) where
      sane : Sane ms ps ts r v
      sane = sane_also dialect ms ps ts r v rule fitting

      abbrev it : Matched
      it = match_rounds dialect form ms ps ts table budget room

      abbrev free : ℕ
      free = length room

      abbrev limit : ℕ
      limit = limit_of table

      abbrev ran : Run
      ran = by_lists dialect form budget limit budget (beginning r v) free

      pub defined : it ≡ carried_out (by_rounds dialect form budget limit budget (beginning r v) free) room
      unfolding match_rounds beginning
      defined = ap (rounds_rule dialect form table budget room ts) rule ∙ ap (rounds_target dialect form table budget room ts r) fitting

      pub result : it ≡ carried_out ran room
      result = defined ∙ ap (λ x. carried_out x room) (run_told dialect form budget limit budget (beginning r v) free)

      by_answer : (n : ℕ) (C : Type 0) → ran.answer ≡ n ↔ C → it.answer ≡ n ↔ C
      unfolding carried_out
      by_answer n C e = let q = ap (λ (x : Matched). x.answer) result in ((λ h. e.0 (sym q ∙ h)), λ c. q ∙ e.1 c)

      pub answer_21 : it.answer ≡ 21 ↔ Overfull dialect form limit budget free (beginning r v)
      answer_21 = by_answer 21 _ (table_exactly dialect form limit budget (beginning r v) free)

      pub table_stands : (o : Overfull dialect form limit budget free (beginning r v))
          → it ≡ carried_out (report form 21 (length (first_rounds dialect o.rounds (beginning r v))) (first_rounds dialect o.rounds (beginning r v))) room
      table_stands o = result ∙ ap (λ x. carried_out x room) (table_is dialect form limit budget (beginning r v) free o)

      pub full_stands : (Overfull dialect form limit budget free (beginning r v) → ⊥) → (f : Full form budget free (in_rounds dialect r v))
          → it ≡ carried_out (report form 8 (suc (length f.before)) f.before) room
      unfolding in_rounds
      full_stands c f = result ∙ ap (λ x. carried_out x room) (full_is dialect form limit budget (beginning r v) free c f)

      pub answer_0 : it.answer ≡ 0 ↔ ((length (in_rounds dialect r v) ≤ budget) × (Full form budget free (in_rounds dialect r v) → ⊥)) × (Overfull dialect form limit budget free (beginning r v) → ⊥)
      unfolding in_rounds
      answer_0 = by_answer 0 _ (done_exactly dialect form limit budget (beginning r v) free)

      pub answer_7 : it.answer ≡ 7 ↔ ((budget < length (in_rounds dialect r v)) × (Full form budget free (in_rounds dialect r v) → ⊥)) × (Overfull dialect form limit budget free (beginning r v) → ⊥)
      unfolding in_rounds
      answer_7 = by_answer 7 _ (budget_exactly dialect form limit budget (beginning r v) free)

      pub answer_8 : it.answer ≡ 8 ↔ Full form budget free (in_rounds dialect r v) × (Overfull dialect form limit budget free (beginning r v) → ⊥)
      unfolding in_rounds
      answer_8 = by_answer 8 _ (full_exactly dialect form limit budget (beginning r v) free)

      -- The rows found are the first in the order of the rounds; they stand whole from the start of the room, and every word after them is untouched.
      pub first_found : (it.rows ≤ length (founds (in_rounds dialect r v))) × (it.room ≡ flat_map (row form) (take it.rows (founds (in_rounds dialect r v))) ++ drop it.words room)
      unfolding carried_out in_rounds
      first_found =
          let f = rows_first dialect form limit budget (beginning r v) free in
          subst (λ (x : Matched). (x.rows ≤ length (founds (order dialect (beginning r v)))) × (x.room ≡ flat_map (row form) (take x.rows (founds (order dialect (beginning r v)))) ++ drop x.words room))
          (sym result) (f.0, ap (λ l. l ++ drop (length ran.written) room) f.1)

      -- Where nothing stops it.
      pub finished : it.answer ≡ 0 → it ≡ carried_out (report form 0 (length (in_rounds dialect r v)) (in_rounds dialect r v)) room
      unfolding carried_out in_rounds
      finished a = result ∙ ap (λ x. carried_out x room) (all_found dialect form limit budget (beginning r v) free (sym (ap (λ (x : Matched). x.answer) result) ∙ a))

      suits : Suits r.matcher v
      suits = fits_suits r.matcher v 0 sane.target.fit

      module _ (most : ℕ) (small : largest v ≤ most) where
        fine : Fine most 0 r.matcher v
        fine = anew most r.matcher v suits small

        pub steps_bounded : it.steps ≤ count_of most r
        unfolding carried_out in_rounds states count_of
        steps_bounded =
            let q = ap (λ (x : Matched). x.steps) result in
            omega (arith, steps_first dialect form limit budget (beginning r v) free, steps_same dialect r v, steps_bound dialect most r.matcher r.pattern v fine)

        pub rows_bounded : it.rows ≤ factor most 0 r.pattern r.matcher
        unfolding ways
        rows_bounded = le_trans first_found.0 (le_trans (le_of_eq (rows_same dialect r v)) (rows_bound dialect most 0 r.pattern r.matcher (target v) [] (fine_target most r.matcher v fine)))

        pub only_table : count_of most r ≤ budget → factor most 0 r.pattern r.matcher * variable_tags r.pattern * widest form (length ts) ≤ length room
            → (it.answer ≡ 0) ⊎ (it.answer ≡ 21)
        unfolding carried_out in_rounds states count_of
        only_table b h =
            let w = rows_words dialect form most r.matcher r.pattern v fine in
            let l : length ts ≡ size v = ap length ((target_read ts v).0 sane.target.target).0 ∙ length_words v in
            let e = ap (λ n. factor most 0 r.pattern r.matcher * variable_tags r.pattern * widest form n) l
            ∙ mul_assoc (factor most 0 r.pattern r.matcher) (variable_tags r.pattern) (widest form (size v)) in
            subst (λ (x : Matched). (x.answer ≡ 0) ⊎ (x.answer ≡ 21)) (sym result)
            (enough dialect form limit budget (beginning r v) free (omega (arith, steps_same dialect r v, steps_bound dialect most r.matcher r.pattern v fine))
            (omega (arith, words_same dialect r v form, w, e)))

  -- ---- The two orders, where nothing stops either.

  -- Two answers of match hold the same rows in some order, each row whole, and took the same steps.
  pub record Alike (x y : Matched) (roomX roomY : List ℤ) : Type 0 where
    pub rows_x : List (List ℤ)
    pub rows_y : List (List ℤ)
    pub rearranged : Rearranged rows_x rows_y
    pub holds_x : x.room ≡ flat_map (λ w. w) rows_x ++ drop x.words roomX
    pub holds_y : y.room ≡ flat_map (λ w. w) rows_y ++ drop y.words roomY
    pub count_x : x.rows ≡ length rows_x
    pub count_y : y.rows ≡ length rows_y
    pub steps : x.steps ≡ y.steps

  one_each : {A B : Type 0} (f : A → B) (xs : List A) → flat_map (λ x. f x ∷ []) xs ≡ map f xs
  unfolding flat_map
  one_each f [] = refl
  one_each {A} {B} f (x ∷ xs) = ap {B = List B} (λ l. f x ∷ l) (one_each f xs)

  map_rearranged : {A B : Type 0} (f : A → B) {xs ys : List A} → Rearranged xs ys → Rearranged (map f xs) (map f ys)
  map_rearranged f {xs} {ys} d = Permᴰ.trans (same (sym (one_each f xs))) (Permᴰ.trans (rearranged_flat_map (λ x. f x ∷ []) d) (same (one_each f ys)))

  -- A run that took up all of ts.
  told : (ts : List Taken) (room : List ℤ) → (carried_out (report form 0 (length ts) ts) room).room
      ≡ flat_map (λ w. w) (map (row form) (founds ts)) ++ drop (carried_out (report form 0 (length ts) ts) room).words room
  unfolding carried_out report rows_of
  told ts room = ap (λ l. l ++ drop (length (flat_map (row form) (founds ts))) room) (sym (flat_map_map (λ w. w) (row form) (founds ts)))

  depth_first : (n free : ℕ) (ts : List Taken) (x : Run) → Outcome form n free ts x → x.answer ≡ 0 → x ≡ report form 0 (length ts) ts
  unfolding report
  depth_first n free ts x (done h f q) a = q
  depth_first n free ts x (Budget.spent h f q) a = let b = ap (λ (z : Run). z.answer) q in absurd (omega arith)
  depth_first n free ts x (full f q) a = let b = ap (λ (z : Run). z.answer) q in absurd (omega arith)

  module _ (ms ps ts : List ℤ) (r : Rule) (v : Value) (rule : rule_in dialect ms ps ≡ accepted r)
      (fitting : target_of r.matcher ts ≡ accepted v) (n : ℕ) (roomX : List ℤ) (table k : ℕ) (roomY : List ℤ) where
    pub match_finished : (match_of dialect form ms ps ts n roomX).answer ≡ 0 → match_of dialect form ms ps ts n roomX ≡ carried_out (report form 0 (length (states dialect r v)) (states dialect r v)) roomX
    unfolding carried_out
    match_finished a =
        let q = Matching.result dialect form ms ps ts n roomX r v rule fitting in
        q ∙ ap (λ x. carried_out x roomX)
        (depth_first n (length roomX) (states dialect r v) _ (Matching.outcome dialect form ms ps ts n roomX r v rule fitting) (sym (ap (λ (x : Matched). x.answer) q) ∙ a))

    pub alike : (match_of dialect form ms ps ts n roomX).answer ≡ 0 → (match_rounds dialect form ms ps ts table k roomY).answer ≡ 0
        → Alike (match_of dialect form ms ps ts n roomX) (match_rounds dialect form ms ps ts table k roomY) roomX roomY
    unfolding carried_out report
    alike a b = subst (λ x. Alike x (match_rounds dialect form ms ps ts table k roomY) roomX roomY) (sym (match_finished a))
        (subst (λ y. Alike (carried_out (report form 0 (length (states dialect r v)) (states dialect r v)) roomX) y roomX roomY) (sym (finished ms ps ts table k roomY r v rule fitting b))
        (record {
          rows_x = map (row form) (founds (states dialect r v));
          rows_y = map (row form) (founds (in_rounds dialect r v));
          rearranged = map_rearranged (row form) (founds_rearranged (states_rearranged dialect r v));
          holds_x = told (states dialect r v) roomX;
          holds_y = told (in_rounds dialect r v) roomY;
          count_x = sym (length-map (founds (states dialect r v)) (row form));
          count_y = sym (length-map (founds (in_rounds dialect r v)) (row form));
          steps = sym (steps_same dialect r v);
        }))
