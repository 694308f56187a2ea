-- Choices of a leaf that are taken up at once: as so many turns. Assumes nothing.
use Prim.Native.Nat.{ℕ, zero, suc, ◌+◌, ◌-◌, ◌<◌, ◌≤◌}
use native.Mathlib.Omega.{arith}
use mathlib.Core.Path.{◌≡◌, refl, sym, ap, ◌∙◌}
use mathlib.Core.Logic.{◌⊎◌, inl, inr}
use mathlib.Core.Bool.{Bool, true, false}
use mathlib.Core.List.{List, [], ◌∷◌}
use lib.ListN.{length, get_or, set, length-set}
use lib.Seq.{get_or-set_same, get_or-set_other, set-get_or, set-set}
use lib.Dec.{eqb}
use lib.Count.{count_trailing_zeros}
use lib.IntN.{ℤ, pos}
use borrow.Author.Tests.{le-ltb, eqb-true, eqb-false}
use Rattle.rules.specs.Rows.{row}
use Rattle.words.specs.Marks.{clear}
use Rattle.value_places.specs.Held.{Held, whole_at, put}
use Rattle.value_rows.specs.Row.{bound, nothing}
use Rattle.value_rows.specs.declared.Binding.{Binding}
use Rattle.value_equality.specs.Equality.{is_sum}
use Rattle.tables.specs.Slot.{Tables, tables, put_left}
use Rattle.search_atom.specs.Leaves.{when, passes_of}
use Rattle.search_step.specs.declared.State.{State}
use Rattle.search_step.specs.Steps.{counted, moved, dropped}
use Rattle.value_places.specs.Places.{Target, marks_at}
use Rattle.words.specs.Words.{tag_at}
use Rattle.value_rows.specs.Row.{form_by, Bound}
use Rattle.search_seek.specs.Passed.{later, is_lowest, timed}
use Rattle.search_leaf.specs.Told.{word_of, row_of, Tells, but_of}
use Rattle.search_leaf.specs.Leaf.{lowest_of, bound_to, passed_by, wrote_by, Leaf, stays, fails, sums, any, binds, tallied, first_of, part_of, Takes}
use Rattle.search_leaf.specs.declared.Tally.{Tally}
use Rattle.search_leaf.specs.declared.Part.{Part}
use Rattle.search_leaf.specs.Lines.{Last, Leafs}
use Rattle.search_leaf.proofs.Rows.{row_is, leaf_value, leaf_tells, tells_full, tells_bound}
use Rattle.search.specs.Plain.{step_by, step_of}
use Rattle.search.specs.Run.{Env, Run, run, wrote, end_by, end_of, ask_of, bound_at, asked, after_turn, after_end, take_end, take_bind, take_step, take_of, settled, run_of}
use Rattle.search.proofs.Counts.{run_more}
use Rattle.search.proofs.Sweeps.{Turns, no_turns, more_turns, place, stood, chosen, picked, again, over_fails}

-- ---- A turn on each kind of line.

module _ (e : Env) (x : State) (t : Tables) (b : List Binding) (room : List ℤ) where
  take_same : get_or e.op x.pc 0 ≡ 1 → take_of e (run x t b room) ≡ run (moved (counted x) (x.pc + 1) x.at x.marks) t b room
  unfolding take_of take_step after_turn step_of step_by counted when
  take_same z = rw z

  take_drop : get_or e.op x.pc 0 ≡ 2 → take_of e (run x t b room) ≡ run (dropped e.from e.to t.ats t.backs (counted x)) t b room
  unfolding take_of take_step after_turn step_of step_by passes_of counted when
  take_drop z = rw z

  take_bind_lem : get_or e.op x.pc 0 ≡ 3
      → take_of e (run x t b room)
      ≡ run (dropped e.from e.to t.ats t.backs (counted x)) t (set b (get_or e.arg x.pc 0) (record { at = x.at; marks = x.marks })) room
  unfolding take_of take_bind when
  take_bind_lem z = rw z

  pub take_holds : get_or e.op x.pc 0 ≡ 5 → is_sum e.words (get_or b (get_or e.arg x.pc 0) nothing).at (get_or e.con x.pc (pos 0)) x.at ≡ true
      → take_of e (run x t b room) ≡ run (dropped e.from e.to t.ats t.backs (counted x)) t b room
  unfolding take_of take_step after_turn asked ask_of bound_at step_of step_by passes_of counted when
  take_holds z f = rw (z, f)

  take_end_lem : get_or e.op x.pc 0 ≡ 0 → length (row e.form (bound e.words b e.vars)) ≤ length room - x.words
      → take_of e (run x t b room) ≡ run (wrote x (length (row e.form (bound e.words b e.vars)))) t b (put room x.words (row e.form (bound e.words b e.vars)))
  unfolding take_of take_end end_of end_by after_end when
  take_end_lem z l = rw (z, le-ltb _ _ l)

-- A turn after which a state stands.
pub turn : (e : Env) (n : ℕ) (r r' : Run) → r.state.live ≡ 1 → take_of e r ≡ r' → r'.state.live ≡ 1 → run_of e (suc n) r ≡ run_of e n r'
unfolding settled when
turn e n r r' l p k = run_more e n r l ∙ ap (run_of e n) (ap (settled e) p ∙ rw k)

-- ---- The lines behind the first part: three turns, to the row.

module _ (e : Env) (i : ℕ) (h : Last e.op e.to i) (y : State) (t : Tables) (b : List Binding) (room : List ℤ) (at_line : y.pc ≡ get_or e.to i 0) (stands : y.live ≡ 1)
    (fits : length (row e.form (bound e.words b e.vars)) ≤ length room - y.words) where
  tail : run_of e 3 (run y t b room)
      ≡ settled e (run (wrote (dropped e.from e.to t.ats t.backs (counted (moved (counted y) (y.pc + 1) y.at y.marks))) (length (row e.form (bound e.words b e.vars)))) t b
      (put room y.words (row e.form (bound e.words b e.vars))))
  unfolding run_of dropped moved counted
  tail =
      let s : State = moved (counted y) (y.pc + 1) y.at y.marks in
      let d : State = dropped e.from e.to t.ats t.backs (counted s) in
      turn e 2 (run y t b room) (run s t b room) stands (take_same e y t b room (rw at_line h.same)) refl
      ∙ turn e 1 (run s t b room) (run d t b room) refl (take_drop e s t b room (rw at_line h.drop)) refl
      ∙ run_more e 0 (run d t b room) refl ∙ ap (settled e) (take_end_lem e d t b room (rw at_line h.end) fits)

-- ---- A choice with its row.

-- A state after a row of so many words, in k steps.
rowed : State → (k size : ℕ) → State
rowed x k size = record { pc = x.pc; at = x.at; marks = x.marks; top = x.top; live = x.live; rows = x.rows + 1; steps = x.steps + k; words = x.words + size }

-- The frame at j is the last that is open, a multiset's cons, with c left to choose from, not only one; its first part is tested or bound at line i.
module _ (e : Env) (j i : ℕ) (h : Last e.op e.to i) (cons : get_or e.op j 0 ≡ 9) (x : State) (t : Tables) (b : List Binding) (room : List ℤ)
    (live : x.live ≡ 2) (some : x.top ≡ 0 → ⊥) (top : x.top - 1 ≡ j) (c : ℕ) (left : get_or t.lefts j 0 ≡ c) (more : clear (count_trailing_zeros 64 c) c ≡ 0 → ⊥) where
  at_first : State
  at_first = stood e j cons x t b room live some top c left more

  in_first : Tables
  in_first = chosen e j cons x t b room live some top c left more

  lowest : ℕ
  lowest = place e j cons x t b room live some top c left more

  -- The row by other bindings.
  module _ (b' : List Binding) (fits : length (row e.form (bound e.words b' e.vars)) ≤ length room - x.words) where
    abbrev written : (k : ℕ) → Run
    written k =
        run (rowed x k (length (row e.form (bound e.words b' e.vars)))) (put_left j (clear (count_trailing_zeros 64 c) c) t) b'
        (put room x.words (row e.form (bound e.words b' e.vars)))

    finish : (k : ℕ) (y : State) → y.pc ≡ get_or e.to i 0 → y.live ≡ 1 → y.top ≡ x.top → y.rows ≡ x.rows → y.steps + 3 ≡ x.steps + k → y.words ≡ x.words
        → run_of e 3 (run y in_first b' room) ≡ settled e (written k)
    unfolding wrote dropped moved counted rowed in_first
    finish k y p l o r n w =
        let m : y.steps + 1 + 1 + 1 ≡ x.steps + k = omega arith in
        tail e i h y in_first b' room p l (rw w fits)
        ∙ rw (o, r, m, w) (again e j cons x t b room live some top c left more _ _ _ (x.rows + 1) (x.steps + k) _ b' _)

  chose : settled e (run x t b room) ≡ run at_first in_first b room
  unfolding at_first in_first
  chose = picked e j cons x t b room live some top c left more

  over_sums : j + 1 ≡ i → get_or e.op i 0 ≡ 5 → is_sum e.words (get_or b (get_or e.arg i 0) nothing).at (get_or e.con i (pos 0)) lowest ≡ true
      → (f : length (row e.form (bound e.words b e.vars)) ≤ length room - x.words) → settled e (written b f 4) ≡ run_of e 4 (settled e (run x t b room))
  unfolding at_first stood dropped moved counted lowest
  over_sums d z q f = sym (ap (run_of e 4) chose
      ∙ turn e 3 (run at_first in_first b room) (run (dropped e.from e.to in_first.ats in_first.backs (counted at_first)) in_first b room) refl
      (take_holds e at_first in_first b room (rw d z) (rw d q)) refl
      ∙ finish b f 4 (dropped e.from e.to in_first.ats in_first.backs (counted at_first)) (ap (λ (k : ℕ). get_or e.to k 0) d) refl refl refl (omega arith) refl)

  -- A wildcard or a variable under integer: the line after it.
  next : State
  next = moved (counted at_first) (at_first.pc + 1) at_first.at at_first.marks

  module _ (same : get_or e.op (j + 1) 0 ≡ 1) (d : j + 1 + 1 ≡ i) where
    first_turn : run_of e 5 (settled e (run x t b room)) ≡ run_of e 4 (run next in_first b room)
    unfolding at_first stood next moved
    first_turn = ap (run_of e 5) chose ∙ turn e 4 (run at_first in_first b room) (run next in_first b room) refl (take_same e at_first in_first b room same) refl

    over_any : get_or e.op i 0 ≡ 2 → (f : length (row e.form (bound e.words b e.vars)) ≤ length room - x.words)
        → settled e (written b f 5) ≡ run_of e 5 (settled e (run x t b room))
    unfolding at_first stood next dropped moved counted
    over_any z f = sym (first_turn
        ∙ turn e 3 (run next in_first b room) (run (dropped e.from e.to in_first.ats in_first.backs (counted next)) in_first b room) refl
        (take_drop e next in_first b room (rw d z)) refl
        ∙ finish b f 5 (dropped e.from e.to in_first.ats in_first.backs (counted next)) (ap (λ (k : ℕ). get_or e.to k 0) d) refl refl refl (omega arith) refl)

    over_binds : get_or e.op i 0 ≡ 3 → (b' : List Binding) → b' ≡ set b (get_or e.arg i 0) (record { at = lowest; marks = whole_at e.words lowest })
        → (f : length (row e.form (bound e.words b' e.vars)) ≤ length room - x.words) → settled e (written b' f 5) ≡ run_of e 5 (settled e (run x t b room))
    unfolding at_first stood next dropped moved counted lowest
    over_binds z b' u f = sym (first_turn
        ∙ turn e 3 (run next in_first b room) (run (dropped e.from e.to in_first.ats in_first.backs (counted next)) in_first b' room) refl
        (take_bind_lem e next in_first b room (rw d z) ∙ rw (u, d)) refl
        ∙ finish b' f 5 (dropped e.from e.to in_first.ats in_first.backs (counted next)) (ap (λ (k : ℕ). get_or e.to k 0) d) refl refl refl (omega arith) refl)

-- ---- The choices taken up.

-- A number that is there stands within its list.
pub inside : (l : List ℕ) (j : ℕ) → 0 < get_or l j 0 → j < length l
inside [] j h = absurd (omega arith)
inside (x ∷ l) zero h = omega arith
inside (x ∷ l) (suc j) h = let n = inside l j h in omega arith

whole_none : (s : List ℤ) (at : ℕ) → tag_at s at ≡ 0 → whole_at s at ≡ 0
unfolding whole_at marks_at
whole_none s at z = rw z

module _ (e : Env) (g : Target e.words) (o : Bool) (form : e.form ≡ form_by o) (x : State) (t : Tables) (b : List Binding) (room₀ : List ℤ) (i budget : ℕ) (lines : Leafs e.op e.to x i)
    (h : Takes e.words e.con e.vars i (part_of e.op e.arg e.con i b x t) budget b x t room₀) (told₀ : List ℤ) where
  abbrev j : ℕ
  j = x.top - 1

  abbrev part : Part
  part = part_of e.op e.arg e.con i b x t

  abbrev v : ℕ
  v = get_or e.arg i 0

  module _ (begun : Tells o e.words b e.vars (but_of part.op part.var) told₀) where
    abbrev Ended : Tally → List ℤ → Binding → List ℤ → Type 0
    Ended u l y room = Leaf e.words o e.vars part (first_of x t) told₀ room₀ u l y room

    abbrev after : Tally → Binding → List ℤ → Run
    after u y room = run (tallied x u) (put_left j u.left t) (set b v y) room

    sum_line : get_or e.op i 0 ≡ 5 → j + 1 ≡ i
    sum_line z = go lines.tested.kind
      where
        go : ((i ≡ x.top) × (get_or e.op i 0 ≡ 5)) ⊎ ((get_or e.op x.top 0 ≡ 1) × (i ≡ x.top + 1) × ((get_or e.op i 0 ≡ 2) ⊎ (get_or e.op i 0 ≡ 3))) → x.top - 1 + 1 ≡ i
        go (inl w) = let n = lines.some in omega (arith, n, w.0)
        go (inr (_, _, inl k)) = absurd (omega (arith, k, z))
        go (inr (_, _, inr k)) = absurd (omega (arith, k, z))

    same_lines : (get_or e.op i 0 ≡ 5 → ⊥) → (get_or e.op (j + 1) 0 ≡ 1) × (j + 1 + 1 ≡ i)
    same_lines n = go lines.tested.kind
      where
        top : x.top - 1 + 1 ≡ x.top
        top = let n = lines.some in omega (arith, n)

        go : ((i ≡ x.top) × (get_or e.op i 0 ≡ 5)) ⊎ ((get_or e.op x.top 0 ≡ 1) × (i ≡ x.top + 1) × ((get_or e.op i 0 ≡ 2) ⊎ (get_or e.op i 0 ≡ 3)))
            → (get_or e.op (x.top - 1 + 1) 0 ≡ 1) × (x.top - 1 + 1 + 1 ≡ i)
        go (inl w) = absurd (n w.1)
        go (inr w) = (rw top w.0, let k = w.1 in omega (arith, top, k))

    var_in : v < length b
    unfolding part_of
    var_in = let k = h.part.var in omega (arith, k, h.bound.long)

    -- Bindings of which one is changed.
    changed : (y : Binding) → get_or (set b v y) v nothing ≡ y
    changed y = get_or-set_same b v y nothing var_in

    bound_all : (u : Tally) (l : List ℤ) (y : Binding) (room : List ℤ) → Ended u l y room → Bound e.words (set b v y) e.vars
    unfolding part_of
    bound_all u l y room c = record {
      most = h.few;
      long = length-set b v y ∙ h.bound.long;
      are = λ k m. by_var k m (eqb k v) refl;
    }
      where
        held : Held e.words y.at y.marks
        held = leaf_value e.words o e.vars part (first_of x t) told₀ room₀ g h.part u l y room (h.bound.are v h.part.var) c

        by_var : (k : ℕ) → k < e.vars → (d : Bool) → eqb k v ≡ d → Held e.words (get_or (set b v y) k nothing).at (get_or (set b v y) k nothing).marks
        by_var k m true q = let z = eqb-true k v q in rw (z, changed y) held
        by_var k m false q = rw (get_or-set_other b v k y nothing (eqb-false k v q)) (h.bound.are k (omega (arith, h.few)))

    -- The row that is written.
    row_told : (c : List Binding) (l : List ℤ) → Bound e.words c e.vars → Tells o e.words c e.vars 16 l
        → row_of o e.vars l ≡ row e.form (bound e.words c e.vars)
    row_told c l q f = rw form (row_is o e.words c e.vars l g q f)

    -- The frame with some choices taken.
    choice_in : j < length t.lefts
    unfolding first_of
    choice_in = inside t.lefts j h.part.choice

    module _ (u : Tally) (m : List ℤ) (z : Binding) (r : List ℤ) (c : Ended u m z r) (k : 0 < later u.left) where
      not_last : clear (count_trailing_zeros 64 u.left) u.left ≡ 0 → ⊥
      unfolding later
      not_last q = absurd (omega (arith, q, k))

      left_is : get_or (set t.lefts j u.left) j 0 ≡ u.left
      left_is = get_or-set_same t.lefts j u.left 0 choice_in

      -- The run of a row by other bindings, and by its words.
      to_written : (size : ℕ) (b' : List Binding) (l : List ℤ) → row_of o e.vars l ≡ row e.form (bound e.words b' e.vars)
          → run (tallied x (wrote_by size (length (row_of o e.vars l)) u)) (put_left j (later u.left) t) b' (put r u.words (row_of o e.vars l))
          ≡ run (rowed (tallied x u) size (length (row e.form (bound e.words b' e.vars)))) (put_left j (clear (count_trailing_zeros 64 u.left) u.left) (put_left j u.left t)) b'
          (put r u.words (row e.form (bound e.words b' e.vars)))
      unfolding tallied wrote_by rowed put_left later
      to_written size b' l q = rw (q, set-set t.lefts j u.left (clear (count_trailing_zeros 64 u.left) u.left))

      told_now : Tells o e.words (set b v z) e.vars (but_of part.op part.var) m
      unfolding part_of
      told_now = leaf_tells e.words o e.vars part (first_of x t) told₀ room₀ g h.part b h.bound.long refl begun u m z r c

      full : (part.op ≡ 3 → ⊥) → Tells o e.words (set b v z) e.vars 16 m
      unfolding part_of
      full f = tells_full e.words o e.vars part (first_of x t) told₀ room₀ g h.part b h.bound.long refl begun (set b v z) m f told_now

      step_fails : part.op ≡ 5 → is_lowest e.words part.at z.at part.plus u.left ≡ false → Turns e (after u z r) (after (passed_by u) z r)
      unfolding tallied part_of put_left passed_by later is_lowest place timed
      step_fails f q = record {
        more = 1;
        steps = refl;
        are =
            ap (λ (w : List ℕ). settled e (run (tallied x (passed_by u)) (tables t.ats t.wholes w t.lows t.backs) (set b v z) r)) (sym (set-set t.lefts j u.left (later u.left)))
            ∙ over_fails e j lines.cons (tallied x u) (put_left j u.left t) (set b v z) r lines.live lines.some refl u.left left_is not_last (rw (sum_line f) f)
            (rw (sum_line f, changed z) q);
      }

      step_sums : part.op ≡ 5 → is_lowest e.words part.at z.at part.plus u.left ≡ true → length (row_of o e.vars m) ≤ length r - u.words
          → Turns e (after u z r) (after (wrote_by 4 (length (row_of o e.vars m)) u) z (put r u.words (row_of o e.vars m)))
      unfolding tallied part_of put_left wrote_by is_lowest lowest place
      step_sums f q n =
          let w = row_told (set b v z) m (bound_all u m z r c) (full (λ d. absurd (omega (arith, d, f)))) in
          record {
            more = 4;
            steps = refl;
            are =
                ap (settled e) (to_written 4 (set b v z) m w)
                ∙ over_sums e j i lines.last lines.cons (tallied x u) (put_left j u.left t) (set b v z) r lines.live lines.some refl u.left left_is not_last (sum_line f) f
                (rw (changed z) q) (rw w at n);
          }

      step_any : part.op ≡ 2 → length (row_of o e.vars m) ≤ length r - u.words
          → Turns e (after u z r) (after (wrote_by 5 (length (row_of o e.vars m)) u) z (put r u.words (row_of o e.vars m)))
      unfolding tallied part_of put_left wrote_by
      step_any f n =
          let w = row_told (set b v z) m (bound_all u m z r c) (full (λ d. absurd (omega (arith, d, f)))) in
          let d = same_lines (λ d. absurd (omega (arith, d, f))) in
          record {
            more = 5;
            steps = refl;
            are =
                ap (settled e) (to_written 5 (set b v z) m w)
                ∙ over_any e j i lines.last lines.cons (tallied x u) (put_left j u.left t) (set b v z) r lines.live lines.some refl u.left left_is not_last d.0 d.1 f (rw w at n);
          }

      -- The lowest choice, to which the variable is bound.
      abbrev taken : ℕ
      taken = lowest_of e.words part.at u.left

      step_binds : part.op ≡ 3 → tag_at e.words taken ≡ 0 → (m' : List ℤ) → m' ≡ set m part.var (word_of o e.words taken) → length (row_of o e.vars m') ≤ length r - u.words
          → Ended (wrote_by 5 (length (row_of o e.vars m')) u) m' (bound_to taken) (put r u.words (row_of o e.vars m'))
          → Turns e (after u z r) (after (wrote_by 5 (length (row_of o e.vars m')) u) (bound_to taken) (put r u.words (row_of o e.vars m')))
      unfolding tallied part_of put_left wrote_by lowest_of bound_to lowest place
      step_binds f a m' d n c' =
          let told' = leaf_tells e.words o e.vars part (first_of x t) told₀ room₀ g h.part b h.bound.long refl begun
          (wrote_by 5 (length (row_of o e.vars m')) u) m' (bound_to taken) (put r u.words (row_of o e.vars m')) c' in
          let full' = tells_bound e.words o e.vars part (first_of x t) told₀ room₀ g h.part b h.bound.long refl begun (set b v (bound_to taken)) m' f told'
          (rw (changed (bound_to taken)) a)
          (ap (λ (w : List ℤ). get_or w v (pos 0)) d ∙ get_or-set_same m v (word_of o e.words taken) (pos 0) (omega (arith, told_now.long, h.part.var))
          ∙ ap (λ (y : Binding). word_of o e.words y.at) (sym (changed (bound_to taken)))) in
          let w = row_told (set b v (bound_to taken)) m' (bound_all (wrote_by 5 (length (row_of o e.vars m')) u) m' (bound_to taken) (put r u.words (row_of o e.vars m')) c') full' in
          let l = same_lines (λ d. absurd (omega (arith, d, f))) in
          record {
            more = 5;
            steps = refl;
            are =
                ap (settled e) (to_written 5 (set b v (bound_to taken)) m' w)
                ∙ over_binds e j i lines.last lines.cons (tallied x u) (put_left j u.left t) (set b v z) r lines.live lines.some refl u.left left_is not_last l.0 l.1 f
                (set b v (bound_to taken)) (sym (set-set b v z _ ∙ ap (λ (q : ℕ). set b v (record { at = taken; marks = q })) (whole_none e.words taken a))) (rw w at n);
          }

    pub leaf_turns : (u : Tally) (l : List ℤ) (y : Binding) (room : List ℤ) → Ended u l y room → Turns e (run x t b room₀) (after u y room)
    unfolding tallied first_of part_of put_left
    leaf_turns u l y room stays = rw (set-get_or t.lefts j 0, set-get_or b v nothing) (no_turns e (run x t b room₀))
    leaf_turns u l y room (fails w m z r c k f q) = more_turns e (run x t b room₀) (after w z r) (after u y room) (leaf_turns w m z r c) (step_fails w m z r c k f q)
    leaf_turns u l y room (sums w m z r c k f q n) = more_turns e (run x t b room₀) (after w z r) (after u y room) (leaf_turns w m z r c) (step_sums w m z r c k f q n)
    leaf_turns u l y room (any w m z r c k f n) = more_turns e (run x t b room₀) (after w z r) (after u y room) (leaf_turns w m z r c) (step_any w m z r c k f n)
    leaf_turns u l y room (binds w m z r m' c k f q d n) =
        more_turns e (run x t b room₀) (after w z r) (after u y room) (leaf_turns w m z r c) (step_binds w m z r c k f q m' d n (binds w m z r m' c k f q d n))
