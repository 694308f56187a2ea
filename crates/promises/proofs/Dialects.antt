-- Laws of what specs/Dialects.antt defines.
use Rattle.std.specs.Prelude.{ℕ, ◌≤◌, ◌≡◌, refl, ◌⊎◌, ◌↔◌, Bool, true, false, ◌||◌, length, ℤ}
use Rattle.std.proofs.Common.{zero-le, arith, ap₂, ◌∙◌, inl, inr, length-append}
use Rattle.std.proofs.Math.Path.{sym, ap, subst, subst₂}
use Rattle.std.proofs.Math.Bool.{not}
use mathlib.Core.List.Memᴰ
use mathlib.Core.List.{List, [], ◌∷◌, ◌++◌, map, flat_map}
use Rattle.std.proofs.Math.Dec.{T}
use Rattle.rules.specs.Forms.{Matcher, Matchers, no_matchers, ◌▸ᵐ◌}
use Rattle.rules.specs.Forms.{Value}
use Rattle.rules.specs.Forms.{Pattern, wildcard, variable, constant, value, nil, cons, join, tuple, both, either, never, Patterns, no_patterns, ◌▸ᵖ◌}
use Rattle.rules.specs.Origins.{Valueᵒ, intᵒ, collectionᵒ, tupledᵒ, Valuesᵒ, emptyᵒ, ◌▸ᵒ◌, Bindings, plain, plain_all, target}
use Rattle.rules.specs.Dialects.{Dialect, every_place, first_places}
use Rattle.rules.specs.Fit.{element, members, is_something}
use Rattle.rules.specs.Equality.{equal, is_constant, is_value, is_empty}
use Rattle.rules.specs.Search.{Halves, join_halves, Run, start}
use Rattle.rules.specs.Rows.{Form, row}
use Rattle.rules.specs.Ways.{Way, Follows, Good}
use Rattle.rules.specs.Following.{Solution, no_solution, of_parts, solve, solve_each}
use Rattle.rules.specs.Services.{accepted, Rule, rule_in, target_of, Matched, carried_out, match_of}
use Rattle.forms.specs.Lists.{Mem}
use Rattle.forms.specs.Faults.{target_accepted, rule_accepted}
use Rattle.forms.specs.Origins.{plain_target}
use Rattle.promises.specs.Trace.{Taken, passed, found, Met, taken, ended, visit, visit_each, visit_all, behind, trace, met}
use Rattle.promises.specs.Suited.{Suits, SuitsEach, fits_suits, cons_suits, join_suits, tuple_suits}
use Rattle.promises.specs.FirstPlaces.{Some, nothing, kept, left, some_length, some_member}
use Rattle.promises.specs.Twin.{sound, complete}
use Rattle.promises.specs.Budget.{rows_of, report, Outcome, done, spent, full}
use Rattle.promises.proofs.Budget.{answers_0, full_rows}
use Rattle.promises.specs.Solve.{founds, stops}
use Rattle.promises.proofs.Solve.{founds_start, stops_visit, stops_each}
use Rattle.promises.specs.Told.{Told, ToldAll, rule_told}
use Rattle.promises.specs.Alike.{ends, ends_append}
use Rattle.promises.proofs.Alike.{alike}
use Rattle.promises.specs.Fewer.{Fewer, none, stay, skip, end, fewer_append, fewer_only, fewer_leaf, fewer_each, fewer_some, cons_fewer}
use Rattle.promises.proofs.Fewer.{fewer_inside}
use Rattle.forms.specs.Also.{well_formed_also}
use Rattle.promises.proofs.Listing.{solve_listing}
use Rattle.promises.specs.Matching.{states, ways}
use Rattle.promises.proofs.Matching.{outcome, result}
use Rattle.promises.specs.Dialects.{NoMore}

-- ---- The pattern. Outside a not no end is met at all; inside one no variable stands.

ends_stops : (ms : List Met) → ends (stops ms) ≡ ends ms
unfolding ends stops
ends_stops [] = refl
ends_stops (taken passed ∷ ms) = ends_stops ms
ends_stops (taken (found e) ∷ ms) = ends_stops ms
ends_stops (ended ∷ ms) = refl

none_ends : (k : Bindings → List Met) → ((d : Bindings) → ends (k d) ≡ false) → (ss : List Solution) → ends (flat_map (λ s. stops (k s.bound)) ss) ≡ false
unfolding flat_map ends
none_ends k n [] = refl
none_ends k n (s ∷ ss) = ends_append (stops (k s.bound)) _ ∙ ap₂ (λ a b. a || b) (ends_stops (k s.bound) ∙ n s.bound) (none_ends k n ss)

no_end : (p : Pattern) (m : Matcher) (v : Valueᵒ) (e : Bindings) (k : Bindings → List Met) → ((d : Bindings) → ends (k d) ≡ false) → ends (visit every_place p m v e k) ≡ false
no_end p m v e k n = sym (ends_stops (visit every_place p m v e k)) ∙ ap ends (stops_visit every_place p m v e k) ∙ none_ends k n (solve every_place p m v e)

no_end_each : (ps : Patterns) (ms : Matchers) (vs : Valuesᵒ) (e : Bindings) (k : Bindings → List Met) → ((d : Bindings) → ends (k d) ≡ false)
    → ends (visit_each every_place ps ms vs e k) ≡ false
no_end_each ps ms vs e k n =
    sym (ends_stops (visit_each every_place ps ms vs e k)) ∙ ap ends (stops_each every_place ps ms vs e k) ∙ none_ends k n (solve_each every_place ps ms vs e)

abbrev NoEnd : Bool → (Bindings → List Met) → Type 0
NoEnd may_bind k = (may_bind ≡ false) ⊎ ((d : Bindings) → ends (k d) ≡ false)

after : (b : Bool) (p : Pattern) (m : Matcher) (v : Valueᵒ) (k : Bindings → List Met) → NoEnd b k → NoEnd b (λ d. visit every_place p m v d k)
after b p m v k (inl e) = inl e
after b p m v k (inr n) = inr (λ d. no_end p m v d k n)

choices_alike : (b : Bool) (p q : Pattern) (m : Matcher) (e : Bindings) (k : Bindings → List Met) → Told b p (element m) → Told b q m → NoEnd b k
    → (h i : Halves) → T (equal (element m) (plain h.first) (plain i.first)) → T (equal m (plain h.second) (plain i.second))
    → ends (visit every_place p (element m) h.first e (λ d. visit every_place q m h.second d k))
    ≡ ends (visit every_place p (element m) i.first e (λ d. visit every_place q m i.second d k))
choices_alike b p q m e k s t (inl z) h i x y =
    alike p (element m) h.first i.first e _ _ (subst (λ c. Told c p (element m)) z s) x (alike q m h.second i.second e k k (subst (λ c. Told c q m) z t) y refl)
choices_alike b p q m e k s t (inr n) h i x y =
    no_end p (element m) h.first e _ (λ d. no_end q m h.second d k n) ∙ sym (no_end p (element m) i.first e _ (λ d. no_end q m i.second d k n))

mutual
  unfolding visit visit_each Told ToldAll of_parts plain plain_all SuitsEach

  pub fewer : (b : Bool) (p : Pattern) (m : Matcher) (v : Valueᵒ) (e : Bindings) (k l : Bindings → List Met) → Told b p m → Suits m (plain v) → NoEnd b l
      → ((d : Bindings) → Fewer (k d) (l d)) → Fewer (visit first_places p m v e k) (visit every_place p m v e l)
  fewer b wildcard m v e k l t s n F = stay (fewer_leaf (is_something m) (F e))
  fewer b (variable x) m v e k l t s n F = stay (fewer_leaf (is_something m) (F (e ++ (v ∷ []))))
  fewer b (constant c) m v e k l t s n F = stay (fewer_only (is_constant c (plain v)) (F e))
  fewer b (value x c) m v e k l t s n F = stay (fewer_only (is_value m (map plain e) x c (plain v)) (F e))
  fewer b nil m v e k l t s n F = stay (fewer_only (is_empty (plain v)) (F e))
  fewer b (cons p q) m v e k l t s n F = stay (cons_fewer m v _ _ t.0 s
      (λ h i. let c = cons_suits m v h i s in
      fewer b p (element m) h.first e (λ d. visit first_places q m h.second d k) (λ d. visit every_place q m h.second d l) t.1 c.0
      (after b q m h.second l n) (λ d. fewer b q m h.second d k l t.2 c.1 n F))
      (choices_alike b p q m e l t.1 t.2 n))
  fewer b (join p q) m v e k l t s n F = stay (fewer_each _ _ (join_halves v)
      (λ h i. let c = join_suits m v h i s in
      fewer b p m h.first e (λ d. visit first_places q m h.second d k) (λ d. visit every_place q m h.second d l) t.1 c.0
      (after b q m h.second l n) (λ d. fewer b q m h.second d k l t.2 c.1 n F)))
  fewer b (tuple ps) m (intᵒ o x) e k l t s n F = stay none
  fewer b (tuple ps) m (collectionᵒ o vs) e k l t s n F = stay none
  fewer b (tuple ps) m (tupledᵒ o vs) e k l t s n F = stay (fewer_all b ps (members m) vs e k l t.1 (tuple_suits m (plain_all vs) s) n F)
  fewer b (both p q) m v e k l t s n F = stay (fewer b p m v e (λ d. visit first_places q m v d k) (λ d. visit every_place q m v d l) t.0 s
      (after b q m v l n) (λ d. fewer b q m v d k l t.1 s n F))
  fewer b (either p q) m v e k l t s n F = stay (fewer_append (fewer false p m v e k l t.0 s (inl refl) F) (fewer false q m v e k l t.1 s (inl refl) F))
  fewer b (never p) m v e k l t s n F = stay (fewer_inside (fewer false p m v e (λ d. ended ∷ []) (λ d. ended ∷ []) t s (inl refl) (λ d. end)) (F e))

  fewer_all : (b : Bool) (ps : Patterns) (ms : Matchers) (vs : Valuesᵒ) (e : Bindings) (k l : Bindings → List Met) → ToldAll b ps ms → SuitsEach ms (plain_all vs)
      → NoEnd b l → ((d : Bindings) → Fewer (k d) (l d)) → Fewer (visit_each first_places ps ms vs e k) (visit_each every_place ps ms vs e l)
  fewer_all b no_patterns ms vs e k l t s n F = F e
  fewer_all b (p ▸ᵖ ps) no_matchers vs e k l t s n F = F e
  fewer_all b (p ▸ᵖ ps) (m ▸ᵐ ms) emptyᵒ e k l t s n F = absurd s
  fewer_all b (p ▸ᵖ ps) (m ▸ᵐ ms) (v ▸ᵒ vs) e k l t s n F = fewer b p m v e (λ d. visit_each first_places ps ms vs d k) (λ d. visit_each every_place ps ms vs d l) t.0 s.0
      (after_all n) (λ d. fewer_all b ps ms vs d k l t.1 s.1 n F)
    where
      after_all : NoEnd b l → NoEnd b (λ d. visit_each every_place ps ms vs d l)
      after_all (inl z) = inl z
      after_all (inr z) = inr (λ d. no_end_each ps ms vs d l z)

-- ---- A not holds alike.

fewer_ends : {xs ys : List Met} → Fewer xs ys → ends xs ≡ ends ys
unfolding ends
fewer_ends none = refl
fewer_ends (stay f) = fewer_ends f
fewer_ends (skip f) = fewer_ends f
fewer_ends end = refl

ended_after : (ss : List Solution) → ends (flat_map (λ s. ended ∷ []) ss) ≡ not (no_solution ss)
unfolding ends flat_map no_solution
ended_after [] = refl
ended_after (s ∷ ss) = refl

module _ (p : Pattern) (m : Matcher) (v : Valueᵒ) (e : Bindings) where
  ends_solved : (dialect : Dialect) → ends (visit dialect p m v e (λ d. ended ∷ [])) ≡ not (no_solution (solve dialect p m v e))
  unfolding stops
  ends_solved dialect = sym (ends_stops (visit dialect p m v e (λ d. ended ∷ []))) ∙ ap ends (stops_visit dialect p m v e (λ d. ended ∷ [])) ∙ ended_after (solve dialect p m v e)

  no_way_from : (dialect other : Dialect) → not (no_solution (solve dialect p m v e)) ≡ not (no_solution (solve other p m v e))
      → ((w : Way) (d : Bindings) → Follows dialect p m v e w d → ⊥) → (w : Way) (d : Bindings) → Follows other p m v e w d → ⊥
  unfolding no_solution
  no_way_from dialect other q h w d f = go (solve dialect p m v e) (solve other p m v e) q (λ s i. h s.way s.bound (sound dialect p m v e s i)) (complete other p m v e w d f)
    where
      go : (rs ss : List Solution) {s : Solution} → not (no_solution rs) ≡ not (no_solution ss) → ((s : Solution) → Mem s rs → ⊥) → Mem s ss → ⊥
      go [] [] q n i = Memᴰ.not-nil i
      go [] (s ∷ ss) q n i = subst T (sym q) tt
      go (r ∷ rs) ss q n i = n r (Memᴰ.head refl)

  pub not_alike : Told false p m → Suits m (plain v)
      → ((w : Way) (d : Bindings) → Follows first_places p m v e w d → ⊥) ↔ ((w : Way) (d : Bindings) → Follows every_place p m v e w d → ⊥)
  not_alike t s =
      let q = sym (ends_solved first_places) ∙ fewer_ends (fewer false p m v e (λ d. ended ∷ []) (λ d. ended ∷ []) t s (inl refl) (λ d. end)) ∙ ends_solved every_place in
      (no_way_from first_places every_place q, no_way_from every_place first_places (sym q))

-- ---- The whole search.

pub trace_some : (m : Matcher) (p : Pattern) (v : Value) → Told true p m → Suits m v → Some (trace first_places (start m p v ∷ [])) (trace every_place (start m p v ∷ []))
unfolding trace met visit_all start behind ends
trace_some m p v t s = fewer_some (fewer true p m (target v) [] (λ d. taken (found d) ∷ []) (λ d. taken (found d) ∷ []) t
    (subst (Suits m) (sym (plain_target v)) s) (inr (λ d. refl)) (λ d. stay none))

pub founds_some : {xs ys : List Taken} → Some xs ys → Some (founds xs) (founds ys)
unfolding founds
founds_some nothing = nothing
founds_some (kept {x = passed} s) = founds_some s
founds_some (kept {x = found e} s) = kept (founds_some s)
founds_some (left {y = passed} s) = founds_some s
founds_some (left {y = found e} s) = left (founds_some s)

rows_some : (form : Form) {ds es : List Bindings} → Some ds es → length (flat_map (row form) ds) ≤ length (flat_map (row form) es)
unfolding flat_map
rows_some form nothing = zero-le
rows_some form (kept {x = e} {xs = ds} {ys = es} s) =
    let k = rows_some form s in let a = length-append (row form e) (flat_map (row form) ds) in let b = length-append (row form e) (flat_map (row form) es) in omega arith
rows_some form (left {y = e} {ys = es} s) = let k = rows_some form s in let b = length-append (row form e) (flat_map (row form) es) in omega arith

-- A run that takes up all states with room enough for all rows.
all_done : (form : Form) (n free : ℕ) (ts : List Taken) (r : Run) → Outcome form n free ts r → r.answer ≡ 0
    → (length ts ≤ n) × (length (rows_of form ts) ≤ free) × (r ≡ report form 0 (length ts) ts)
unfolding report
all_done form n free ts r (done h f q) a = (h, f, q)
all_done form n free ts r (spent h f q) a = let b = ap (λ (x : Run). x.answer) q in absurd (omega arith)
all_done form n free ts r (full f q) a = let b = ap (λ (x : Run). x.answer) q in absurd (omega arith)

-- Where a run over ys is done, one over some of them is too, in no more steps, rows and words.
pub some_done : (form : Form) (n free : ℕ) (xs ys : List Taken) (q r : Run) → Some xs ys → Outcome form n free xs q → Outcome form n free ys r → r.answer ≡ 0
    → (q.answer ≡ 0) × (q.rows ≤ r.rows) × (q.steps ≤ r.steps) × (length q.written ≤ length r.written)
unfolding report rows_of
some_done form n free xs ys q r s o u a =
    let d = all_done form n free ys r u a in let l = some_length s in let f = founds_some s in let k = some_length f in let w = rows_some form f in
    let z = (answers_0 form n free xs q o).1 (omega arith, λ x. let y = (full_rows form n free xs x).1 in omega arith) in
    let c = (all_done form n free xs q o z).2 in (
      z,
      omega (arith, k, ap (λ (x : Run). x.rows) c, ap (λ (x : Run). x.rows) d.2),
      omega (arith, l, ap (λ (x : Run). x.steps) c, ap (λ (x : Run). x.steps) d.2),
      omega (arith, w, ap (λ (x : Run). length x.written) c, ap (λ (x : Run). length x.written) d.2),
    )

module _ (ms ps ts : List ℤ) (r : Rule) (v : Value) (rule : rule_in first_places ms ps ≡ accepted r) (fitting : target_of r.matcher ts ≡ accepted v) where
  pub rule_states : Some (states first_places r v) (states every_place r v)
  unfolding states
  rule_states = trace_some r.matcher r.pattern v (rule_told ms ps r rule) (fits_suits r.matcher v 0 ((target_accepted r.matcher ts v).0 fitting).fit)

  pub rule_rows_lem : Some (map (λ s. s.bound) (ways first_places r v)) (map (λ s. s.bound) (ways every_place r v))
  unfolding states ways
  rule_rows_lem = subst₂ (λ xs ys. Some xs ys) (founds_start first_places r.matcher r.pattern v) (founds_start every_place r.matcher r.pattern v) (founds_some rule_states)

  pub rule_way : (w : Way) (e : Bindings) → Good first_places r.matcher r.pattern v w e → (u : Way) × Good every_place r.matcher r.pattern v u e
  unfolding ways
  rule_way w e g =
      let a = Memᴰ.map (λ (s : Solution). s.bound) ((solve_listing first_places r.matcher r.pattern v).complete w e g) in
      let b = Memᴰ.of_map (λ (s : Solution). s.bound) (ways every_place r v) (some_member rule_rows_lem e a) in
      (b.0.way, subst (λ d. Good every_place r.matcher r.pattern v b.0.way d) b.2 ((solve_listing every_place r.matcher r.pattern v).sound b.0 b.1))

  one : rule_in every_place ms ps ≡ accepted r
  one = (rule_accepted ms ps r).1 (well_formed_also first_places ms ps r rule)

  pub rule_done : (form : Form) (budget : ℕ) (room : List ℤ) → (match_of every_place form ms ps ts budget room).answer ≡ 0
      → NoMore (match_of first_places form ms ps ts budget room) (match_of every_place form ms ps ts budget room)
  unfolding carried_out
  rule_done form budget room a =
      let x = result first_places form ms ps ts budget room r v rule fitting in let y = result every_place form ms ps ts budget room r v one fitting in
      let z = some_done form budget (length room) _ _ _ _ rule_states (outcome first_places form ms ps ts budget room r v rule fitting)
      (outcome every_place form ms ps ts budget room r v one fitting) (sym (ap (λ (m : Matched). m.answer) y) ∙ a) in
      subst₂ NoMore (sym x) (sym y) (record { done = z.0; rows = z.1; steps = z.2; words = z.3 })
