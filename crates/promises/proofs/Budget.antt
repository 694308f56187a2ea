-- Laws of what specs/Budget.antt defines.
use Prim.Native.Nat.{ℕ, zero, suc, ◌+◌, ◌-◌, ◌≤◌, ◌<◌, zero-le, suc-le-suc}
use native.Mathlib.Omega.{arith}
use Rattle.std.proofs.Common.{not-suc-le-zero, le_of_suc-le-suc, sym, ◌∙◌, take-append-drop, take_all, leb→le, le→leb}
use Rattle.std.specs.Prelude.{◌≡◌, ◌↔◌, Bool, take, drop, leb}
use Rattle.std.proofs.Math.Path.{refl, ap, subst}
use Rattle.std.proofs.Math.Bool.{true, false}
use mathlib.Core.List.{List, [], ◌∷◌, ◌++◌, flat_map, append-nil}
use Rattle.std.proofs.Math.ListN.{length, length-append}
use Rattle.std.proofs.Math.Seq.{take-append_seam, take-append-add}
use Rattle.std.proofs.Math.Dec.{T}
use Rattle.rules.specs.Origins.{Bindings}
use Rattle.rules.specs.Rows.{Form, row}
use Rattle.rules.specs.Search.{Run, stopped, step, row_step}
use Rattle.forms.specs.Tests.{leb_true, leb_false}
use Rattle.forms.specs.Lists.{flat_map_append}
use Rattle.promises.specs.Trace.{Taken, passed, found, walk}
use Rattle.promises.specs.Solve.{founds}
use Rattle.promises.proofs.Solve.{founds_append}
use Rattle.promises.specs.Budget.{Full, Outcome, done, full, report, rows_of, spent}

-- The runs of one form.
module _ (form : Form) where
  -- ---- Every run is one of the three.

  out_passed : (n free : ℕ) (ts : List Taken) (r : Run) → Outcome form n free ts r → Outcome form (suc n) free (passed ∷ ts) (step r)
  unfolding report rows_of founds step
  out_passed n free ts r (done h f q) = done (suc-le-suc h) f (ap step q)
  out_passed n free ts r (spent h f q) = spent (suc-le-suc h) f (ap step q)
  out_passed n free ts r (full f q) = full
      (record {
        before = passed ∷ f.before;
        bound = f.bound;
        after = f.after;
        is = ap {B = List Taken} (λ l. passed ∷ l) f.is;
        reached = suc-le-suc f.reached;
        fit = f.fit;
        over = f.over;
      })
      (ap step q)

  out_found : (n free : ℕ) (d : Bindings) (ts : List Taken) (r : Run) → length (row form d) ≤ free → Outcome form n (free - length (row form d)) ts r
      → Outcome form (suc n) free (found d ∷ ts) (row_step (row form d) r)
  unfolding report rows_of founds row_step
  out_found n free d ts r g (done h f q) = done (suc-le-suc h) (omega (arith, length-append (row form d) (rows_of form ts))) (ap (row_step (row form d)) q)
  out_found n free d ts r g (spent h f q) = spent (suc-le-suc h) (omega (arith, length-append (row form d) (rows_of form (take n ts)))) (ap (row_step (row form d)) q)
  out_found n free d ts r g (full f q) =
      let l = length-append (row form d) (rows_of form f.before) in
      full
      (record {
        before = found d ∷ f.before;
        bound = f.bound;
        after = f.after;
        is = ap {B = List Taken} (λ x. found d ∷ x) f.is;
        reached = suc-le-suc f.reached;
        fit = omega (arith, l, f.fit);
        over = omega (arith, l, f.over);
      })
      (ap (row_step (row form d)) q)

  pub walk_outcome : (n : ℕ) (ts : List Taken) (free : ℕ) → Outcome form n free ts (walk form n ts free)
  unfolding walk report rows_of founds
  walk_outcome zero [] free = done zero-le zero-le refl
  walk_outcome zero (t ∷ ts) free = spent (suc-le-suc zero-le) zero-le refl
  walk_outcome (suc n) [] free = done zero-le zero-le refl
  walk_outcome (suc n) (passed ∷ ts) free = out_passed n free ts (walk form n ts free) (walk_outcome n ts free)
  walk_outcome (suc n) (found d ∷ ts) free =
      go (leb (length (row form d)) free) (leb→le (length (row form d)) free) (le→leb (length (row form d)) free) (walk_outcome n ts (free - length (row form d)))
    where
      go : (b : Bool) → (T b → length (row form d) ≤ free) → (length (row form d) ≤ free → T b) → Outcome form n (free - length (row form d)) ts (walk form n ts (free - length (row form d)))
          → Outcome form (suc n) free (found d ∷ ts) (elim b as (λ _. Run) [ true ↦ row_step (row form d) (walk form n ts (free - length (row form d))) | false ↦ stopped 8 1 ])
      go true f g h = out_found n free d ts (walk form n ts (free - length (row form d))) (f tt) h
      go false f g h = full
          (record { before = []; bound = d; after = ts; is = refl; reached = suc-le-suc zero-le; fit = zero-le; over = omega (arith, g) })
          refl

  -- Where a row does not fit, that is how it ends.
  pub walk_full : (n free : ℕ) (us : List Taken) (e : Bindings) (vs : List Taken) → length us < n → length (rows_of form us) ≤ free
      → free < length (rows_of form us) + length (row form e) → walk form n (us ++ (found e ∷ vs)) free ≡ report form 8 (suc (length us)) us
  unfolding walk report rows_of founds
  walk_full zero free us e vs h f g = absurd (not-suc-le-zero h)
  walk_full (suc n) free [] e vs h f g =
      ap (λ b. elim b as (λ _. Run) [ true ↦ row_step (row form e) (walk form n vs (free - length (row form e))) | false ↦ stopped 8 1 ])
      (leb_false (length (row form e)) free (omega arith))
  walk_full (suc n) free (passed ∷ us) e vs h f g = ap step (walk_full n free us e vs (le_of_suc-le-suc h) f g)
  walk_full (suc n) free (found d ∷ us) e vs h f g =
      let l = length-append (row form d) (rows_of form us) in
      ap (λ b. elim b as (λ _. Run) [ true ↦ row_step (row form d) (walk form n (us ++ (found e ∷ vs)) (free - length (row form d))) | false ↦ stopped 8 1 ])
      (leb_true (length (row form d)) free (omega (arith, l)))
      ∙ ap (row_step (row form d)) (walk_full n (free - length (row form d)) us e vs (le_of_suc-le-suc h) (omega (arith, l)) (omega (arith, l)))

  -- ---- Which of them, by the budget and the room alone.

  pub rows_append : (us vs : List Taken) → rows_of form (us ++ vs) ≡ rows_of form us ++ rows_of form vs
  unfolding rows_of
  rows_append us vs = ap (flat_map (row form)) (founds_append us vs) ∙ flat_map_append (row form) (founds us) (founds vs)

  rows_length : (us : List Taken) (e : Bindings) (vs : List Taken)
      → length (rows_of form (us ++ (found e ∷ vs))) ≡ length (rows_of form us) + (length (row form e) + length (rows_of form vs))
  unfolding rows_of founds
  rows_length us e vs = ap length (rows_append us (found e ∷ vs)) ∙ length-append (rows_of form us) (row form e ++ rows_of form vs)
      ∙ ap (λ i. length (rows_of form us) + i) (length-append (row form e) (rows_of form vs))

  -- The state whose row does not fit is one of the first n.
  among : (us : List Taken) (e : Bindings) (vs : List Taken) (n : ℕ) → length us < n
      → take n (us ++ (found e ∷ vs)) ≡ us ++ (found e ∷ take (n - suc (length us)) vs)
  among us e vs n h =
      let k : n ≡ length us + suc (n - suc (length us)) = omega arith in
      ap (λ i. take i (us ++ (found e ∷ vs))) k ∙ take-append-add us (found e ∷ vs) (suc (n - suc (length us)))

  -- The rows of the first states are the first of the rows.
  begins : (a k : ℕ) (us vs ts : List Taken) (r : Run) → ts ≡ us ++ vs → r ≡ report form a k us
      → (r.rows ≤ length (founds ts)) × (r.written ≡ flat_map (row form) (take r.rows (founds ts)))
  unfolding report rows_of
  begins a k us vs ts r t q =
      let f : founds ts ≡ founds us ++ founds vs = ap founds t ∙ founds_append us vs in
      subst (λ (x : Run). (x.rows ≤ length (founds ts)) × (x.written ≡ flat_map (row form) (take x.rows (founds ts)))) (sym q) (
        omega (arith, ap length f ∙ length-append (founds us) (founds vs)),
        ap (flat_map (row form)) (sym (ap (take (length (founds us))) f ∙ take-append_seam (founds us) (founds vs))),
      )

  -- A row that does not fit is one of the rows, and all rows do not fit.
  pub full_rows : (n free : ℕ) (ts : List Taken) → Full form n free ts → (0 < length (founds ts)) × (free < length (rows_of form ts))
  unfolding founds
  full_rows n free ts f =
      let l = ap (λ z. length (rows_of form z)) f.is ∙ rows_length f.before f.bound f.after in
      let k = ap (λ z. length (founds z)) f.is ∙ ap length (founds_append f.before (found f.bound ∷ f.after))
      ∙ length-append (founds f.before) (f.bound ∷ founds f.after) in
      (omega (arith, k), omega (arith, l, f.over))

  -- Where a row does not fit, the rows of the first n states do not.
  full_over : (n free : ℕ) (ts : List Taken) → Full form n free ts → free < length (rows_of form (take n ts))
  full_over n free ts f =
      let l = ap (λ z. length (rows_of form (take n z))) f.is ∙ ap (λ z. length (rows_of form z)) (among f.before f.bound f.after n f.reached)
      ∙ rows_length f.before f.bound (take (n - suc (length f.before)) f.after) in
      omega (arith, l, f.over)

  module _ (n free : ℕ) (ts : List Taken) (r : Run) where
    -- 0: no state remains, and 8 does not hold.
    pub answers_0 : Outcome form n free ts r → r.answer ≡ 0 ↔ (length ts ≤ n) × (Full form n free ts → ⊥)
    unfolding report
    answers_0 (done h f q) = (
      λ _. (h, λ k. let l = ap (λ z. length (rows_of form z)) (take_all n ts h) in let o = full_over n free ts k in omega arith),
      λ _. ap (λ (x : Run). x.answer) q,
    )
    answers_0 (spent h f q) = ((λ a. let b = ap (λ (x : Run). x.answer) q in absurd (omega arith)), λ k. let l = k.0 in absurd (omega arith))
    answers_0 (full f q) = ((λ a. let b = ap (λ (x : Run). x.answer) q in absurd (omega arith)), λ k. absurd (k.1 f))

    -- 7: states remain, and 8 does not hold.
    pub answers_7 : Outcome form n free ts r → r.answer ≡ 7 ↔ (n < length ts) × (Full form n free ts → ⊥)
    unfolding report
    answers_7 (done h f q) = ((λ a. let b = ap (λ (x : Run). x.answer) q in absurd (omega arith)), λ k. let l = k.0 in absurd (omega arith))
    answers_7 (spent h f q) = ((λ _. (h, λ k. let o = full_over n free ts k in omega arith)), λ _. ap (λ (x : Run). x.answer) q)
    answers_7 (full f q) = ((λ a. let b = ap (λ (x : Run). x.answer) q in absurd (omega arith)), λ k. absurd (k.1 f))

    -- 8: the row of the state just taken up does not fit.
    pub answers_8 : Outcome form n free ts r → r.answer ≡ 8 ↔ Full form n free ts
    unfolding report
    answers_8 (done h f q) = (
      λ a. let b = ap (λ (x : Run). x.answer) q in absurd (omega arith),
      λ k. let l = ap (λ z. length (rows_of form z)) (take_all n ts h) in let o = full_over n free ts k in absurd (omega arith),
    )
    answers_8 (spent h f q) = ((λ a. let b = ap (λ (x : Run). x.answer) q in absurd (omega arith)), λ k. let o = full_over n free ts k in absurd (omega arith))
    answers_8 (full f q) = ((λ _. f), λ _. ap (λ (x : Run). x.answer) q)

    -- No run takes more steps than there are states.
    pub steps_most : Outcome form n free ts r → r.steps ≤ length ts
    unfolding report
    steps_most (done h f q) = let a = ap (λ (x : Run). x.steps) q in omega arith
    steps_most (spent h f q) = let a = ap (λ (x : Run). x.steps) q in omega arith
    steps_most (full f q) =
        let a = ap (λ (x : Run). x.steps) q in let l = ap length f.is ∙ length-append f.before (found f.bound ∷ f.after) in omega arith

    -- The rows found are the first of all rows, in order, and what is written are their words.
    pub first_rows : Outcome form n free ts r → (r.rows ≤ length (founds ts)) × (r.written ≡ flat_map (row form) (take r.rows (founds ts)))
    first_rows (done h f q) = begins 0 (length ts) ts [] ts r (sym (append-nil ts)) q
    first_rows (spent h f q) = begins 7 n (take n ts) (drop n ts) ts r (sym (take-append-drop n ts)) q
    first_rows (full f q) = begins 8 (suc (length f.before)) f.before (found f.bound ∷ f.after) ts r f.is q
