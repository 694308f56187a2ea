-- What follows for the answers, the rows and the steps of a run by rounds.
use Prim.Native.Nat.{ℕ, zero, suc, ◌≤◌, ◌<◌}
use native.Mathlib.Omega.{arith}
use Rattle.std.specs.Prelude.{◌≡◌, ◌⊎◌, ◌↔◌, Bool, true, false, take, T, leb}
use Rattle.std.proofs.Math.Path.{refl, sym, ap, subst}
use Rattle.std.proofs.Common.{◌∙◌, inl, inr, leb→le, le→leb}
use mathlib.Core.List.{List, [], ◌++◌, flat_map, append_assoc}
use Rattle.std.proofs.Math.ListN.{length, length-append}
use Rattle.std.proofs.Math.Seq.{take-append_seam}
use Rattle.rules.specs.Dialects.{Dialect}
use Rattle.rules.specs.Rows.{Form, row}
use Rattle.rules.specs.Search.{Run}
use Rattle.promises.specs.Trace.{Taken, walk}
use Rattle.promises.specs.Solve.{founds}
use Rattle.promises.proofs.Solve.{founds_append}
use Rattle.promises.specs.Budget.{rows_of, report, Full, Outcome, done, spent, full}
use Rattle.promises.proofs.Budget.{walk_outcome, walk_full, full_rows, answers_0, answers_7, answers_8, steps_most, first_rows}
use Rattle.round_rules.specs.Rounds.{Branch}
use Rattle.round_promises.specs.Listed.{round, onward, by_lists}
use Rattle.round_promises.specs.Order.{later, first_rounds, all, order, none_taken}
use Rattle.round_promises.proofs.Order.{ends}
use Rattle.round_promises.specs.Runs.{Overfull, ByRounds, walks, table}
use Rattle.round_promises.proofs.Runs.{by_rounds_lem}

-- Everything here is of rows in one form.
module _ (dialect : Dialect) (form : Form) where
  -- ---- What the first rounds take up are the first states of the order.

  pub record Begins (us ts : List Taken) : Type 0 where
    pub others : List Taken
    pub is : ts ≡ us ++ others

  pub rounds_begin : (i k : ℕ) (bs : List Branch) → later dialect k bs ≡ [] → Begins (first_rounds dialect i bs) (first_rounds dialect k bs)
  unfolding later first_rounds
  rounds_begin zero k bs e = record { others = first_rounds dialect k bs; is = refl }
  rounds_begin (suc i) zero bs e = record { others = []; is = sym (ap (λ b. first_rounds dialect (suc i) b ++ []) e ∙ ap (λ l. l ++ []) (none_taken dialect (suc i))) }
  rounds_begin (suc i) (suc k) bs e =
      let p = rounds_begin i k (onward dialect bs) e in
      record { others = p.others; is = ap (λ l. round dialect bs ++ l) p.is ∙ sym (append_assoc (round dialect bs) (first_rounds dialect i (onward dialect bs)) p.others) }

  pub order_begins : (i : ℕ) (bs : List Branch) → Begins (first_rounds dialect i bs) (order dialect bs)
  unfolding order
  order_begins i bs = rounds_begin i (length (all dialect bs)) bs (ends dialect (length (all dialect bs)) bs (omega arith))

  -- ---- There is one such round.

  pub overfull_once : (limit n free : ℕ) (bs : List Branch) (o p : Overfull dialect form limit n free bs) → o.rounds ≡ p.rounds
  overfull_once limit n free bs o p = go (leb o.rounds p.rounds) (leb p.rounds o.rounds) (leb→le _ _) (le→leb _ _) (leb→le _ _) (le→leb _ _)
    where
      before : (o p : Overfull dialect form limit n free bs) → o.rounds < p.rounds → ⊥
      before o p h = let k = p.before o.rounds h in let l = o.over in omega arith

      go : (a b : Bool) → (T a → o.rounds ≤ p.rounds) → (o.rounds ≤ p.rounds → T a) → (T b → p.rounds ≤ o.rounds) → (p.rounds ≤ o.rounds → T b)
          → o.rounds ≡ p.rounds
      go true true f g h k = omega (arith, f tt, h tt)
      go true false f g h k = absurd (before o p (omega (arith, k)))
      go false b f g h k = absurd (before p o (omega (arith, g)))

  -- ---- A run with the budget n: at most n rounds.

  module _ (limit n : ℕ) (bs : List Branch) (free : ℕ) where
    abbrev it : Run
    it = by_lists dialect form n limit n bs free

    ran : ByRounds dialect form limit n free bs (order dialect bs) it
    unfolding order
    ran = by_rounds_lem dialect form n (length (all dialect bs)) limit n bs free (omega arith) (ends dialect (length (all dialect bs)) bs (omega arith))

    -- (d) It takes up the first states of the order, until none remains, the budget is used up or a row does not fit, as the run over the depth-first order
    -- does over that; or until the table stops it at the end of a round.
    pub data Ran : Type 0 where
      walked : (Overfull dialect form limit n free bs → ⊥) → Outcome form n free (order dialect bs) it → Ran
      tabled : (o : Overfull dialect form limit n free bs) → it ≡ report form 21 (length (first_rounds dialect o.rounds bs)) (first_rounds dialect o.rounds bs) → Ran

    pub outcome : Ran
    outcome = go ran
      where
        go : ByRounds dialect form limit n free bs (order dialect bs) it → Ran
        go (walks f e) = walked f (subst (λ (x : Run). Outcome form n free (order dialect bs) x) (sym e) (walk_outcome form n (order dialect bs) free))
        go (table o e) = tabled o e

    -- (e)
    not_21 : Outcome form n free (order dialect bs) it → it.answer ≡ 21 → ⊥
    unfolding report
    not_21 (done h f q) a = let b = ap (λ (x : Run). x.answer) q in omega arith
    not_21 (spent h f q) a = let b = ap (λ (x : Run). x.answer) q in omega arith
    not_21 (full f q) a = let b = ap (λ (x : Run). x.answer) q in omega arith

    is_21 : (us : List Taken) → it ≡ report form 21 (length us) us → it.answer ≡ 21
    unfolding report
    is_21 us q = ap (λ (x : Run). x.answer) q

    pub table_exactly : it.answer ≡ 21 ↔ Overfull dialect form limit n free bs
    table_exactly = go outcome
      where
        go : Ran → it.answer ≡ 21 ↔ Overfull dialect form limit n free bs
        go (walked f w) = ((λ a. absurd (not_21 w a)), λ o. absurd (f o))
        go (tabled o q) = ((λ _. o), λ _. is_21 (first_rounds dialect o.rounds bs) q)

    -- "After the rows of the rounds before."
    pub table_is : (o : Overfull dialect form limit n free bs) → it ≡ report form 21 (length (first_rounds dialect o.rounds bs)) (first_rounds dialect o.rounds bs)
    table_is o = go outcome
      where
        go : Ran → it ≡ report form 21 (length (first_rounds dialect o.rounds bs)) (first_rounds dialect o.rounds bs)
        go (walked f w) = absurd (f o)
        go (tabled p q) = q ∙ ap (λ i. report form 21 (length (first_rounds dialect i bs)) (first_rounds dialect i bs)) (overfull_once limit n free bs p o)

    -- A row that does not fit, where the table does not stop it before.
    pub full_is : (Overfull dialect form limit n free bs → ⊥) → (f : Full form n free (order dialect bs)) → it ≡ report form 8 (suc (length f.before)) f.before
    full_is c f = go ran
      where
        go : ByRounds dialect form limit n free bs (order dialect bs) it → it ≡ report form 8 (suc (length f.before)) f.before
        go (walks _ e) = e ∙ ap (λ l. walk form n l free) f.is ∙ walk_full form n free f.before f.bound f.after f.reached f.fit f.over
        go (table o e) = absurd (c o)

    -- The other answers, where it does not.
    others : (a : ℕ) (C : Type 0) → (21 ≡ a → ⊥) → (Outcome form n free (order dialect bs) it → it.answer ≡ a ↔ C) → it.answer ≡ a ↔ C × (Overfull dialect form limit n free bs → ⊥)
    others a C d f = go outcome
      where
        go : Ran → it.answer ≡ a ↔ C × (Overfull dialect form limit n free bs → ⊥)
        go (walked g w) = ((λ e. ((f w).0 e, g)), λ c. (f w).1 c.0)
        go (tabled o q) = ((λ e. absurd (d (sym (is_21 (first_rounds dialect o.rounds bs) q) ∙ e))), λ c. absurd (c.1 o))

    pub done_exactly : it.answer ≡ 0 ↔ ((length (order dialect bs) ≤ n) × (Full form n free (order dialect bs) → ⊥)) × (Overfull dialect form limit n free bs → ⊥)
    done_exactly = others 0 _ (λ e. omega arith) (answers_0 form n free (order dialect bs) it)

    pub budget_exactly : it.answer ≡ 7 ↔ ((n < length (order dialect bs)) × (Full form n free (order dialect bs) → ⊥)) × (Overfull dialect form limit n free bs → ⊥)
    budget_exactly = others 7 _ (λ e. omega arith) (answers_7 form n free (order dialect bs) it)

    pub full_exactly : it.answer ≡ 8 ↔ Full form n free (order dialect bs) × (Overfull dialect form limit n free bs → ⊥)
    full_exactly = others 8 _ (λ e. omega arith) (answers_8 form n free (order dialect bs) it)

    -- The rows found are the first of all rows in the rounds' order, and what is written are their words.
    table_rows : (us : List Taken) → Begins us (order dialect bs) → it ≡ report form 21 (length us) us
        → (it.rows ≤ length (founds (order dialect bs))) × (it.written ≡ flat_map (row form) (take it.rows (founds (order dialect bs))))
    unfolding report rows_of
    table_rows us p q =
        let f : founds (order dialect bs) ≡ founds us ++ founds p.others = ap founds p.is ∙ founds_append us p.others in
        subst (λ (x : Run). (x.rows ≤ length (founds (order dialect bs))) × (x.written ≡ flat_map (row form) (take x.rows (founds (order dialect bs))))) (sym q) (
          omega (arith, ap length f ∙ length-append (founds us) (founds p.others)),
          ap (flat_map (row form)) (sym (ap (take (length (founds us))) f ∙ take-append_seam (founds us) (founds p.others))),
        )

    pub rows_first : (it.rows ≤ length (founds (order dialect bs))) × (it.written ≡ flat_map (row form) (take it.rows (founds (order dialect bs))))
    rows_first = go outcome
      where
        go : Ran → (it.rows ≤ length (founds (order dialect bs))) × (it.written ≡ flat_map (row form) (take it.rows (founds (order dialect bs))))
        go (walked f w) = first_rows form n free (order dialect bs) it w
        go (tabled o q) = table_rows (first_rounds dialect o.rounds bs) (order_begins o.rounds bs) q

    -- No more steps than there are states.
    table_steps : (us : List Taken) → Begins us (order dialect bs) → it ≡ report form 21 (length us) us → it.steps ≤ length (order dialect bs)
    unfolding report
    table_steps us p q = omega (arith, ap (λ (x : Run). x.steps) q, ap length p.is ∙ length-append us p.others)

    pub steps_first : it.steps ≤ length (order dialect bs)
    steps_first = go outcome
      where
        go : Ran → it.steps ≤ length (order dialect bs)
        go (walked f w) = steps_most form n free (order dialect bs) it w
        go (tabled o q) = table_steps (first_rounds dialect o.rounds bs) (order_begins o.rounds bs) q

    -- Where nothing stops it, all rows and all steps.
    all_walked : Outcome form n free (order dialect bs) it → it.answer ≡ 0 → it ≡ report form 0 (length (order dialect bs)) (order dialect bs)
    unfolding report
    all_walked (done h f q) a = q
    all_walked (spent h f q) a = let b = ap (λ (x : Run). x.answer) q in absurd (omega arith)
    all_walked (full f q) a = let b = ap (λ (x : Run). x.answer) q in absurd (omega arith)

    pub all_found : it.answer ≡ 0 → it ≡ report form 0 (length (order dialect bs)) (order dialect bs)
    all_found a = go outcome
      where
        go : Ran → it ≡ report form 0 (length (order dialect bs)) (order dialect bs)
        go (walked f w) = all_walked w a
        go (tabled o q) = let b = is_21 (first_rounds dialect o.rounds bs) q in absurd (omega arith)

    -- With budget and room for all of them, only the table can stop it.
    pub enough : length (order dialect bs) ≤ n → length (rows_of form (order dialect bs)) ≤ free → (it.answer ≡ 0) ⊎ (it.answer ≡ 21)
    enough h k = go outcome
      where
        go : Ran → (it.answer ≡ 0) ⊎ (it.answer ≡ 21)
        go (walked f w) = inl (done_exactly.1 ((h, λ x. over (full_rows form n free (order dialect bs) x).1), f))
          where
            over : free < length (rows_of form (order dialect bs)) → ⊥
            over x = omega arith
        go (tabled o q) = inr (table_exactly.1 o)
