-- Laws of what specs/Matching.antt defines.
use Rattle.std.specs.Prelude.{ℕ, zero, suc, ◌≤◌, ◌≡◌, refl, ◌↔◌, take, ℤ}
use native.Mathlib.Omega.{arith}
use Rattle.std.proofs.Math.Nat.{le_trans}
use Rattle.std.proofs.Common.{sym, ◌∙◌}
use Rattle.std.proofs.Math.Path.{ap, subst}
use Rattle.std.proofs.Math.Bool.{true}
use mathlib.Core.List.Memᴰ
use mathlib.Core.List.{List, [], ◌∷◌, ◌++◌, map, flat_map}
use Rattle.std.proofs.Math.ListN.{length, length-map, drop}
use Rattle.rules.specs.Dialects.{Dialect}
use Rattle.rules.specs.Forms.{Value}
use Rattle.rules.specs.Origins.{Bindings, target}
use Rattle.rules.specs.Rows.{Form, row}
use Rattle.rules.specs.Search.{Run, run_in, start}
use Rattle.rules.specs.Ways.{Way, Good}
use Rattle.rules.specs.Review.{factor}
use Rattle.rules.specs.Services.{accepted, Rule, rule_in, target_of, Matched, carried_out, match_of, match_rule_in, match_target_in}
use Rattle.forms.specs.Written.{variable_tags, largest}
use Rattle.forms.specs.Lists.{Mem, flat_map_map}
use Rattle.promises.specs.Trace.{trace, walk}
use Rattle.promises.proofs.Trace.{run_walks}
use Rattle.rules.specs.Following.{Solution}
use Rattle.promises.specs.Solve.{founds}
use Rattle.promises.proofs.Solve.{founds_start}
use Rattle.promises.proofs.Listing.{solve_listing}
use Rattle.promises.specs.Budget.{report, Full, Outcome, done, spent, full}
use Rattle.promises.proofs.Budget.{walk_outcome, walk_full, steps_most, first_rows}
use Rattle.promises.specs.Suited.{Suits, fits_suits}
use Rattle.promises.specs.Bound.{Fine, fine_target, anew, rows_bound}
use Rattle.promises.proofs.Bound.{steps_bound}
use Rattle.promises.specs.Room.{follows_binds}
use Rattle.forms.specs.Origins.{plain_target}
use Rattle.promises.specs.Reviewing.{count_of}
use Rattle.forms.specs.Faults.{Sane}
use Rattle.forms.specs.Also.{sane_also}
use Rattle.promises.specs.Matching.{rows_of_ways, states, ways}

take_map : {A B : Type 0} (f : A → B) (n : ℕ) (xs : List A) → take n (map f xs) ≡ map f (take n xs)
take_map f zero xs = refl
take_map f (suc n) [] = refl
take_map {A} {B} f (suc n) (x ∷ xs) = ap {B = List B} (λ l. f x ∷ l) (take_map f n xs)

-- No state's row is found exactly when there is no good way.
pub founds_ways : (dialect : Dialect) (r : Rule) (v : Value) → length (founds (states dialect r v)) ≡ length (ways dialect r v)
unfolding states ways
founds_ways dialect r v = ap length (founds_start dialect r.matcher r.pattern v) ∙ length-map (ways dialect r v) (λ (s : Solution). s.bound)

pub no_ways : (dialect : Dialect) (r : Rule) (v : Value) → length (ways dialect r v) ≡ 0 ↔ ((w : Way) (e : Bindings) → Good dialect r.matcher r.pattern v w e → ⊥)
unfolding ways
no_ways dialect r v = (
  λ z w e g. go (ways dialect r v) z ((solve_listing dialect r.matcher r.pattern v).complete w e g),
  λ n. back (ways dialect r v) (λ s i. n s.way s.bound ((solve_listing dialect r.matcher r.pattern v).sound s i)),
)
  where
    go : (ss : List Solution) {s : Solution} → length ss ≡ 0 → Mem s ss → ⊥
    go [] z i = Memᴰ.not-nil i
    go (s ∷ ss) z i = omega arith

    back : (ss : List Solution) → ((s : Solution) → Mem s ss → ⊥) → length ss ≡ 0
    back [] h = refl
    back (s ∷ ss) h = absurd (h s (Memᴰ.head refl))

module _ (dialect : Dialect) (form : Form) (ms ps ts : List ℤ) (budget : ℕ) (room : List ℤ) (r : Rule) (v : Value)
    (rule : rule_in dialect ms ps ≡ accepted r) (fitting : target_of r.matcher ts ≡ accepted v) where
  sane : Sane ms ps ts r v
  sane = sane_also dialect ms ps ts r v rule fitting

  abbrev it : Matched
  it = match_of dialect form ms ps ts budget room

  abbrev ran : Run
  ran = run_in dialect form budget (start r.matcher r.pattern v ∷ []) (length room)

  pub outcome : Outcome form budget (length room) (states dialect r v) ran
  unfolding states
  outcome = subst (λ (x : Run). Outcome form budget (length room) (trace dialect (start r.matcher r.pattern v ∷ [])) x)
      (sym (run_walks dialect form budget (start r.matcher r.pattern v ∷ []) (length room))) (walk_outcome form budget (states dialect r v) (length room))

  pub result : it ≡ carried_out ran room
  unfolding match_of match_rule_in match_target_in
  result = ap (match_rule_in dialect form budget room ts) rule ∙ ap (match_target_in dialect form budget room ts r) fitting

  -- The state whose row does not fit is counted as a step, and the rows before it stand whole.
  pub full_stands : (f : Full form budget (length room) (states dialect r v)) → it ≡ carried_out (report form 8 (suc (length f.before)) f.before) room
  unfolding states
  full_stands f = result ∙ ap (λ x. carried_out x room) (run_walks dialect form budget (start r.matcher r.pattern v ∷ []) (length room)
      ∙ ap (λ l. walk form budget l (length room)) f.is ∙ walk_full form budget (length room) f.before f.bound f.after f.reached f.fit f.over)

  -- ---- The rows.

  -- The rows found are those of the first good ways; they stand whole from the start of the room, and every word after them is untouched.
  pub first_ways : (it.rows ≤ length (ways dialect r v)) × (it.words ≡ length (rows_of_ways form (take it.rows (ways dialect r v))))
      × (it.room ≡ rows_of_ways form (take it.rows (ways dialect r v)) ++ drop it.words room)
  unfolding carried_out states ways rows_of_ways
  first_ways =
      let f = first_rows form budget (length room) (states dialect r v) ran outcome in
      let k : founds (states dialect r v) ≡ map (λ (s : Solution). s.bound) (ways dialect r v) = founds_start dialect r.matcher r.pattern v in
      let w : ran.written ≡ rows_of_ways form (take ran.rows (ways dialect r v)) =
      f.1 ∙ ap (λ l. flat_map (row form) (take ran.rows l)) k ∙ ap (flat_map (row form)) (take_map (λ (s : Solution). s.bound) ran.rows (ways dialect r v))
      ∙ flat_map_map (row form) (λ (s : Solution). s.bound) (take ran.rows (ways dialect r v)) in
      subst (λ (x : Matched). (x.rows ≤ length (ways dialect r v)) × (x.words ≡ length (rows_of_ways form (take x.rows (ways dialect r v))))
      × (x.room ≡ rows_of_ways form (take x.rows (ways dialect r v)) ++ drop x.words room)) (sym result)
      (omega (arith, f.0, ap length k ∙ length-map (ways dialect r v) (λ (s : Solution). s.bound)), ap length w, ap (λ l. l ++ drop (length ran.written) room) w)

  rows_few : it.rows ≤ length (ways dialect r v)
  unfolding carried_out states ways
  rows_few =
      let f = first_rows form budget (length room) (states dialect r v) ran outcome in
      let k : founds (states dialect r v) ≡ map (λ (s : Solution). s.bound) (ways dialect r v) = founds_start dialect r.matcher r.pattern v in
      subst (λ (x : Matched). x.rows ≤ length (ways dialect r v)) (sym result)
      (omega (arith, f.0, ap length k ∙ length-map (ways dialect r v) (λ (s : Solution). s.bound)))

  done_rows : Outcome form budget (length room) (states dialect r v) ran → ran.answer ≡ 0 → ran.rows ≡ length (ways dialect r v)
  unfolding report
  done_rows (done h f q) a = ap (λ (x : Run). x.rows) q ∙ founds_ways dialect r v
  done_rows (spent h f q) a = let b = ap (λ (x : Run). x.answer) q in absurd (omega arith)
  done_rows (full f q) a = let b = ap (λ (x : Run). x.answer) q in absurd (omega arith)

  -- Every row is found where the answer is 0.
  pub all_ways : it.answer ≡ 0 → it.rows ≡ length (ways dialect r v)
  unfolding carried_out
  all_ways a = ap (λ (x : Matched). x.rows) result ∙ done_rows outcome (sym (ap (λ (x : Matched). x.answer) result) ∙ a)

  -- ---- What fits.

  suits : Suits r.matcher v
  suits = fits_suits r.matcher v 0 sane.target.fit

  -- One value for each variable.
  pub way_binds : (w : Way) (e : Bindings) → Good dialect r.matcher r.pattern v w e → length e ≡ variable_tags r.pattern
  unfolding Good
  way_binds w e g = follows_binds dialect r.pattern r.matcher (target v) [] w e 0 [] sane.rule.fitting.0 true 0 sane.rule.numbered.0
      sane.rule.fitting.1 sane.rule.numbered.1 (subst (Suits r.matcher) (sym (plain_target v)) suits) g ∙ omega arith

  -- ---- Review's numbers.

  module _ (cap : ℕ) (small : largest v ≤ cap) where
    fine : Fine cap 0 r.matcher v
    fine = anew cap r.matcher v suits small

    pub steps_bounded : it.steps ≤ count_of cap r
    unfolding carried_out states count_of
    steps_bounded =
        let q = ap (λ (x : Matched). x.steps) result in
        omega (arith, steps_most form budget (length room) (states dialect r v) ran outcome, steps_bound dialect cap r.matcher r.pattern v fine)

    pub rows_bounded : it.rows ≤ factor cap 0 r.pattern r.matcher
    unfolding ways
    rows_bounded = le_trans rows_few (rows_bound dialect cap 0 r.pattern r.matcher (target v) [] (fine_target cap r.matcher v fine))
