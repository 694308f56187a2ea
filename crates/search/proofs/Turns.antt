-- One state taken up on numbers and lists is the engine's instruction, and the next choice is the engine's.
use Prim.Native.Nat.{ℕ, zero, suc, ◌+◌, ◌-◌, ◌^◌, ◌≤◌, ◌<◌}
use native.Mathlib.Numerals.{add-one}
use native.Mathlib.Omega.{arith}
use mathlib.Core.Path.{◌≡◌, refl, sym, ap, ap₂, ◌∙◌}
use mathlib.Core.Bool.{Bool, true, false}
use mathlib.Core.Option.{Option, none, some}
use mathlib.Core.List.{List, ◌++◌}
use lib.ListN.{length, get_or, set, drop, length-drop, length-append}
use lib.Dec.{eqb}
use lib.Count.{count_trailing_zeros}
use lib.IntN.{ℤ, pos}
use borrow.Author.Tests.{ne_eqb, lt-ltb}
use Rattle.rules.specs.Forms.{Matcher, something, integer, list, multiset, tuple_of}
use Rattle.rules.specs.Fit.{is_integer}
use Rattle.rules.specs.Numbers.{same}
use Rattle.rules.specs.Equality.{equal}
use Rattle.rules.specs.Dialects.{Dialect, every_place, first_places}
use Rattle.forms.specs.Written.{matcher_words}
use Rattle.words.specs.Words.{entries}
use Rattle.program_rules.specs.Points.{multiset_cons, as_value, Instr, bind, strip, test, apart}
use Rattle.matchers.specs.Places.{matcher_at}
use Rattle.matchers.proofs.Matchers.{matcher_at_lem}
use Rattle.program_rules.specs.Meaning.{Means, means_end, means_strip, means_drop, means_bind, means_constant, means_integer, means_value, means_nil, means_list, means_multiset, means_join, means_tuple, means_keep, means_choice, means_deny, means_cut, means_other, means_close}
use Rattle.search_machine.specs.Engine.{put, Slot, Conf, Turn, on, back, check, next, pushed, opening, kept_here, framed_here, without, parting, exec, slot_after, top_after, chosen, resumed, choose, next_choice}
use Rattle.search_machine.specs.Whole.{table_set}
use Rattle.words.specs.Marks.{clear}
use Rattle.value_places.specs.Places.{Target, count_at, element_at, value_at, elements}
use Rattle.value_places.specs.Held.{whole_at}
use Rattle.value_firsts.specs.Firsts.{firsts_of, firsts_at}
use Rattle.value_rows.specs.Row.{holds, nothing}
use Rattle.value_equality.specs.Equality.{equal_at}
use Rattle.value_rows.specs.declared.Binding.{Binding}
use Rattle.search_step.specs.declared.State.{State}
use Rattle.search_step.specs.Steps as numbers
use Rattle.search_atom.specs.Leaves as leaves
use Rattle.search_atom.specs.Leaves.{when, passes_of, none_of, stored, part_marks, now_left, longer_of, slot_by}
use Rattle.tables.specs.Slot.{Tables, tables}
use Rattle.search_step.specs.Steps.{Turned, turned, counted, moved, lived, dropped, pushed_in, apart_at, apart_ats, apart_backs, apart_of, kept_at, kept_in, framed_at, framed_in, cut_to, sides_of, topped}
use Rattle.search.specs.Plain.{split_of, divide_of, step_by, step_of}
use Rattle.search_choice.specs.Choices.{top_left, join_of, join_by, cons_of, cons_by, resumed_by, resumed_at, resume_of, choice_of, pick_of, Frame, Picks}
use Rattle.search.specs.Run.{Env, Run, run, ask_of, choices_in, line_at, bound_at, asked, choices_of, take_bind, take_step, after_turn}
use Rattle.search.specs.Valid.{Long}
use Rattle.search_machine.specs.Operations.{opens_with, binding, is_none, is_number, is_same, some_of, opens_by, choices_by, opens, take_place, take_front, pick}
use Rattle.search_machine.specs.Operations as operations
use Rattle.search_machine.proofs.Instance.{places}
use Rattle.search.specs.Meaning.{slots_of, binds_of, conf_of, standing}
use Rattle.search.proofs.Slots.{slots_push, slots_pick, slots_keep, slots_kept, slots_framed}

-- A matcher has words.
words_some : (m : Matcher) → 0 < length (matcher_words m)
unfolding matcher_words
words_some something = omega arith
words_some integer = omega arith
words_some (list m) = omega arith
words_some (multiset m) = omega arith
words_some (tuple_of ms) = omega arith

matcher_there : (m : Matcher) (mt : List ℤ) (i : ℕ) (rest : List ℤ) → drop (i + 1) mt ≡ matcher_words m ++ rest → i < length mt
matcher_there m mt i rest e =
    let a = length-drop (i + 1) mt in
    let b = ap length e ∙ length-append (matcher_words m) rest in
    let c = words_some m in
    omega (arith, a, b, c)

-- ---- One state taken up.

module _ (e : Env) (g : Target e.words) where
  unfoldable pub as_turn : Run → Turn (places e.dialect e.form e.words g)
  unfolding when
  as_turn r =
      when (eqb r.state.live 2) (back (conf_of e.dialect e.form e.words g r.state r.tables r.binds)) (on (conf_of e.dialect e.form e.words g r.state r.tables r.binds))

  module _ (x : State) (t : Tables) (b : List Binding) (room : List ℤ) where
    -- The step whose line has the number o.
    unfoldable step_at : ℕ → Run
    unfolding after_turn ask_of choices_in bound_at
    step_at o =
        after_turn
        (step_by o e.from e.to e.con e.words
        (ask_of o e.matcher (get_or e.mat x.pc 0) (get_or e.con x.pc (pos 0)) e.words (bound_at e x.pc b) x.at x.marks)
        (choices_in e.dialect o e.matcher (get_or e.mat x.pc 0) e.words x.at x.marks) (counted x) t)
        b room

    step_at_lem : {o : ℕ} → get_or e.op x.pc 0 ≡ o → as_turn (step_at o) ≡ as_turn (take_step e (run x t b room))
    unfolding take_step asked choices_of step_of step_at
    step_at_lem z = ap (λ (o : ℕ). as_turn (step_at o)) (sym z)

    test_turn : (q : Bool) → elim q as (λ _. Turn (places e.dialect e.form e.words g)) [
      | true ↦ on (next (places e.dialect e.form e.words g) (conf_of e.dialect e.form e.words g x t b) (get_or e.to x.pc 0) (slots_of e.dialect e.form e.words g t (get_or e.from x.pc 0)).second (binds_of e.dialect e.form e.words g b))
      | false ↦ back (conf_of e.dialect e.form e.words g x t b)
    ]
        ≡ as_turn (after_turn (when q (turned (dropped e.from e.to t.ats t.backs (counted x)) t) (turned (lived (counted x) 2) t)) b room)
    unfolding as_turn after_turn when conf_of slots_of next dropped moved lived counted
    test_turn true = refl
    test_turn false = refl

    strip_turn : exec (places e.dialect e.form e.words g) strip (conf_of e.dialect e.form e.words g x t b) ≡ as_turn (step_at 1)
    unfolding as_turn after_turn step_at when conf_of exec next step_by moved counted
    strip_turn = rw (add-one x.pc)

    pub bind_turn : length b ≡ 16 → get_or e.arg x.pc 0 < 16
        → exec (places e.dialect e.form e.words g) (bind (get_or e.arg x.pc 0) (get_or e.from x.pc 0) (get_or e.to x.pc 0)) (conf_of e.dialect e.form e.words g x t b) ≡ as_turn (take_bind e (run x t b room))
    unfolding as_turn when conf_of exec next dropped moved counted take_bind slots_of binds_of
    bind_turn lb v =
        ap (λ z. on (record { pc = get_or e.to x.pc 0; cur = (slots_of e.dialect e.form e.words g t (get_or e.from x.pc 0)).second; top = x.top; slots = slots_of e.dialect e.form e.words g t; binds = z }))
        (sym (table_set b (get_or e.arg x.pc 0) (binding x.at x.marks) nothing (omega arith)))

    collection_turn : (m : Matcher) → matcher_at e.matcher (get_or e.mat x.pc 0) ≡ m
        → is_same e.words m (get_or e.con x.pc (pos 0)) (get_or b (get_or e.arg x.pc 0) nothing) (binding x.at x.marks)
        ≡ equal m (holds e.words (get_or b (get_or e.arg x.pc 0) nothing)) (holds e.words (binding x.at x.marks))
        → exec (places e.dialect e.form e.words g) (test (as_value m (get_or e.arg x.pc 0) (get_or e.con x.pc (pos 0))) (get_or e.from x.pc 0) (get_or e.to x.pc 0)) (conf_of e.dialect e.form e.words g x t b)
        ≡ as_turn (step_at 6)
    unfolding exec check step_at when step_by passes_of ask_of bound_at equal_at holds conf_of binds_of slots_of counted
    collection_turn m f q =
        ap (λ (q : Bool). elim q as (λ _. Turn (places e.dialect e.form e.words g)) [
          | true ↦ on (next (places e.dialect e.form e.words g) (conf_of e.dialect e.form e.words g x t b) (get_or e.to x.pc 0) (slots_of e.dialect e.form e.words g t (get_or e.from x.pc 0)).second (binds_of e.dialect e.form e.words g b))
          | false ↦ back (conf_of e.dialect e.form e.words g x t b)
        ])
        (q ∙ ap (λ (k : Matcher). equal k (holds e.words (get_or b (get_or e.arg x.pc 0) nothing)) (holds e.words (binding x.at x.marks))) (sym f))
        ∙ test_turn (equal (matcher_at e.matcher (get_or e.mat x.pc 0)) (holds e.words (get_or b (get_or e.arg x.pc 0) nothing)) (holds e.words (binding x.at x.marks)))

    takes_same : (m : Matcher) → is_integer m ≡ false
        → is_same e.words m (get_or e.con x.pc (pos 0)) (get_or b (get_or e.arg x.pc 0) nothing) (binding x.at x.marks)
        ≡ equal m (holds e.words (get_or b (get_or e.arg x.pc 0) nothing)) (holds e.words (binding x.at x.marks))
    unfolding is_same is_integer
    takes_same something h = refl
    takes_same integer h = let z : ◌≡◌ {A = ℕ} 0 1 = cc in absurd (omega arith)
    takes_same (list m) h = refl
    takes_same (multiset m) h = refl
    takes_same (tuple_of ms) h = refl

    split_turn : Long t → x.pc < entries → (c : ℕ) (q : Bool) → back (opening (places e.dialect e.form e.words g) (conf_of e.dialect e.form e.words g x t b) (when q none (some c)))
        ≡ as_turn (after_turn (when q (turned (lived (counted x) 2) t) (turned (numbers.pushed (counted x)) (pushed_in c (counted x) t))) b room)
    unfolding as_turn after_turn when conf_of opening pushed lived counted numbers.pushed slots_of
    split_turn l h c true = refl
    split_turn l h c false =
        rw (add-one x.pc) (ap (λ z. back (record { pc = x.pc; cur = binding x.at x.marks; top = suc x.pc; slots = z; binds = binds_of e.dialect e.form e.words g b }))
        (sym (slots_push e.dialect e.form e.words g c (counted x) t l h)))

    -- The places that a cons under a multiset chooses from, its element matcher being m.
    chosen_is : (m : Matcher) → matcher_at e.matcher (get_or e.mat x.pc 0 + 1) ≡ m → get_or e.mat x.pc 0 < length e.matcher → (d : Dialect)
        → choices_by d e.words (multiset_cons m) (binding x.at x.marks) ≡ choices_in d 9 e.matcher (get_or e.mat x.pc 0) e.words x.at x.marks
    unfolding choices_by choices_in firsts_at when
    chosen_is m f y every_place = refl
    chosen_is m f y first_places =
        rw (lt-ltb (get_or e.mat x.pc 0) (length e.matcher) y) (ap (λ (k : Matcher). firsts_of (equal k) (elements (value_at e.words x.at)) x.marks) (sym f))

    -- A tuple's number divides, and is above those of cons and join, and below that of and.
    step_apart : (n : ℕ) (q : Bool) (c : ℕ) → n ≤ 2 → step_by (11 + n) e.from e.to e.con e.words q c (counted x) t ≡ apart_of e.words (suc n) (counted x) t
    unfolding step_by divide_of when
    step_apart n q k h =
        let a : 11 + n ≡ 1 → ⊥ = λ z. omega arith in
        let b : 7 < 11 + n = omega arith in
        let c : 10 < 11 + n = omega arith in
        let d : 11 + n - 10 ≡ suc n = omega arith in
        let f : 11 + n < 14 = omega arith in
        rw (ne_eqb (11 + n) 1 a, lt-ltb 7 (11 + n) b, lt-ltb 10 (11 + n) c, lt-ltb (11 + n) 14 f, d)

    apart_by : (n : ℕ) → Long t → x.pc + (suc n) ≤ entries → (q : Bool) → elim q as (λ _. Turn (places e.dialect e.form e.words g)) [
      | true ↦ on (parting (places e.dialect e.form e.words g) (conf_of e.dialect e.form e.words g x t b) n)
      | false ↦ back (conf_of e.dialect e.form e.words g x t b)
    ]
        ≡ as_turn (after_turn
        (turned (when q (moved (counted x) (x.pc + (suc n)) (element_at e.words x.at 0) (part_marks e.words x.at 0)) (lived (counted x) 2))
        (tables (when q (stored (element_at e.words x.at) x.pc 1 (suc n) t.ats) t.ats) t.wholes t.lefts t.lows
        (when q (stored (part_marks e.words x.at) x.pc 1 (suc n) t.backs) t.backs))) b room)
    unfolding as_turn after_turn when conf_of moved lived counted parting part_marks operations.part_of
    apart_by n l h true =
        let y : suc (x.pc + n) ≡ x.pc + suc n = omega arith in
        ap₂ (λ (pc : ℕ) (z : ℕ → Slot (places e.dialect e.form e.words g)). on (record { pc = pc; cur = operations.part_of e.words (binding x.at x.marks) 0; top = x.top; slots = z; binds = binds_of e.dialect e.form e.words g b }))
        y (slots_keep e.dialect e.form e.words g x.at x.marks (suc n) 1 x.pc t l h)
    apart_by n l h false = refl

    apart_turn : (n : ℕ) → n ≤ 2 → Long t → x.pc + (suc n) ≤ entries → exec (places e.dialect e.form e.words g) (apart n) (conf_of e.dialect e.form e.words g x t b) ≡ as_turn (step_at (11 + n))
    unfolding exec step_at conf_of operations.is_wide apart_of apart_at apart_ats apart_backs leaves.is_wide counted
    apart_turn n y l h =
        apart_is (eqb (count_at e.words x.at) (suc (suc n))) refl
        ∙ ap (λ (u : Turned). as_turn (after_turn u b room)) (sym (step_apart n _ _ y))
      where
        apart_is : (q : Bool) → eqb (count_at e.words x.at) (suc (suc n)) ≡ q → elim q as (λ _. Turn (places e.dialect e.form e.words g)) [
          | true ↦ on (parting (places e.dialect e.form e.words g) (conf_of e.dialect e.form e.words g x t b) n)
          | false ↦ back (conf_of e.dialect e.form e.words g x t b)
        ]
            ≡ as_turn (after_turn (apart_of e.words (suc n) (counted x) t) b room)
        apart_is q p =
            let y : suc (suc n) ≡ suc n + 1 = omega arith in
            apart_by n l h q ∙ rw (rw y at p)

    -- And; or and not.
    keep_turn : Long t → x.pc < entries → on (kept_here (places e.dialect e.form e.words g) (conf_of e.dialect e.form e.words g x t b)) ≡ as_turn (run (kept_at (counted x)) (kept_in (counted x) t) b room)
    unfolding as_turn when conf_of kept_here kept_at moved counted
    keep_turn l h =
        rw (add-one x.pc) (ap (λ z. on (record { pc = suc x.pc; cur = binding x.at x.marks; top = x.top; slots = z; binds = binds_of e.dialect e.form e.words g b }))
        (sym (slots_kept e.dialect e.form e.words g (counted x) t l h)))

    framed_turn : Long t → x.pc < entries → on (framed_here (places e.dialect e.form e.words g) (conf_of e.dialect e.form e.words g x t b)) ≡ as_turn (run (framed_at (counted x)) (framed_in (counted x) t) b room)
    unfolding as_turn when conf_of framed_here framed_at counted
    framed_turn l h =
        rw (add-one x.pc) (ap (λ z. on (record { pc = suc x.pc; cur = binding x.at x.marks; top = suc x.pc; slots = z; binds = binds_of e.dialect e.form e.words g b }))
        (sym (slots_framed e.dialect e.form e.words g (counted x) t l h)))

    -- The end of the search inside a not; and where no state stands.
    cut_turn : back (without (places e.dialect e.form e.words g) (conf_of e.dialect e.form e.words g x t b) (get_or e.from x.pc 0)) ≡ as_turn (run (cut_to e.from t.lows (counted x)) t b room)
    unfolding as_turn when conf_of without cut_to counted slots_of
    cut_turn = refl

    back_turn : back (conf_of e.dialect e.form e.words g x t b) ≡ as_turn (run (lived (counted x) 2) t b room)
    unfolding as_turn when conf_of lived counted
    back_turn = refl

    -- An instruction that takes up a state with an atom left, and is no bind.
    pub step_turn : (i : Instr) → Means e.matcher e.vars (line_at e x.pc) (get_or e.to x.pc 0) i → (get_or e.op x.pc 0 ≡ 0 → ⊥) → (get_or e.op x.pc 0 ≡ 3 → ⊥) → Long t → x.pc < entries
        → (10 < get_or e.op x.pc 0 → get_or e.op x.pc 0 < 14 → x.pc + (get_or e.op x.pc 0 - 10) < entries)
        → exec (places e.dialect e.form e.words g) i (conf_of e.dialect e.form e.words g x t b) ≡ as_turn (take_step e (run x t b room))
    unfolding step_at after_turn when exec check conf_of binds_of slots_of step_by divide_of sides_of passes_of ask_of bound_at split_of opens_with none_of opens opens_by choices_by operations.code is_same is_number is_none counted line_at
    step_turn i (means_end z) n k l h u = absurd (n z)
    step_turn i (means_strip z) n k l h u = strip_turn ∙ step_at_lem z
    step_turn i (means_drop z) n k l h u = test_turn true ∙ step_at_lem z
    step_turn i (means_bind z) n k l h u = absurd (k z)
    step_turn i (means_constant z) n k l h u = test_turn (same (get_or e.words (x.at + 1) (pos 0)) (get_or e.con x.pc (pos 0))) ∙ step_at_lem z
    step_turn i (means_integer z) n k l h u =
        test_turn (is_same e.words integer (get_or e.con x.pc (pos 0)) (get_or b (get_or e.arg x.pc 0) nothing) (binding x.at x.marks)) ∙ step_at_lem z
    step_turn i (means_value m z c a) n k l h u = collection_turn m (matcher_at_lem m a.widths e.matcher _ a.rest a.words) (takes_same m c) ∙ step_at_lem z
    step_turn i (means_nil m z) n k l h u = test_turn (eqb x.marks 0) ∙ step_at_lem z
    step_turn i (means_list m z) n k l h u = split_turn l h (2 ^ count_trailing_zeros 64 x.marks) (eqb x.marks 0) ∙ step_at_lem z
    step_turn i (means_multiset m z a) n k l h u =
        split_turn l h (choices_by e.dialect e.words (multiset_cons m) (binding x.at x.marks)) (eqb x.marks 0)
        ∙ ap (λ (c : ℕ). as_turn (after_turn (when (eqb x.marks 0) (turned (lived (counted x) 2) t) (turned (numbers.pushed (counted x)) (pushed_in c (counted x) t))) b room))
        (chosen_is m (matcher_at_lem m a.widths e.matcher _ a.rest a.words) (matcher_there m e.matcher (get_or e.mat x.pc 0) a.rest a.words) e.dialect) ∙ step_at_lem z
    step_turn i (means_join m z) n k l h u = split_turn l h 0 false ∙ step_at_lem z
    step_turn i (means_tuple c z m) n k l h u = let y = u (omega arith) (omega arith) in apart_turn c m l (omega arith) ∙ step_at_lem z
    step_turn i (means_keep z) n k l h u = keep_turn l h ∙ step_at_lem z
    step_turn i (means_choice z) n k l h u = framed_turn l h ∙ step_at_lem z
    step_turn i (means_deny z) n k l h u = framed_turn l h ∙ step_at_lem z
    step_turn i (means_cut z) n k l h u = cut_turn ∙ step_at_lem z
    step_turn i (means_other z) n k l h u = back_turn ∙ step_at_lem z
    step_turn i (means_close z) n k l h u = back_turn ∙ step_at_lem z

  -- ---- The next choice.

  -- The lines that divide mean the instructions at their places.
  abbrev pub Divided : (ℕ → Instr) → Type 0
  Divided code = (j : ℕ) → 7 < get_or e.op j 0 → Means e.matcher e.vars (line_at e j) (get_or e.to j 0) (code j)

  module _ (x : State) (t : Tables) (b : List Binding) (l : Long t) where
    -- What stands after a choice.
    unfoldable pub stands : Turned → Option (Conf (places e.dialect e.form e.words g))
    stands u = standing e.dialect e.form e.words g u.state u.tables b

    choice_stands : (more at m w j : ℕ) → j < entries → x.top ≡ suc j
        → some (record {
          pc = suc j;
          cur = binding at m;
          top = top_after (places e.dialect e.form e.words g) j (slots_of e.dialect e.form e.words g t j) (some_of more);
          binds = binds_of e.dialect e.form e.words g b;
          slots = put (slots_of e.dialect e.form e.words g t) j (slot_after (places e.dialect e.form e.words g) (slots_of e.dialect e.form e.words g t j) (some_of more) (binding (get_or t.ats j 0) w));
        })
        ≡ standing e.dialect e.form e.words g (top_left more j t.lows (moved x (j + 1) at m)) (tables t.ats t.wholes (now_left more j t.lefts) t.lows (set t.backs j w)) b
    unfolding standing conf_of top_left topped moved top_after some_of when slots_of
    choice_stands more at m w j h f =
        ap (λ z. some (record { pc = suc j; cur = binding at m; top = top_after (places e.dialect e.form e.words g) j (slots_of e.dialect e.form e.words g t j) (some_of more); binds = binds_of e.dialect e.form e.words g b; slots = z }))
        (sym (slots_pick e.dialect e.form e.words g more w j t l h))
        ∙ go (eqb more 0)
      where
        new : Tables
        new = tables t.ats t.wholes (now_left more j t.lefts) t.lows (set t.backs j w)

        go : (q : Bool) → some (record {
          pc = suc j;
          cur = binding at m;
          top = top_after (places e.dialect e.form e.words g) j (slots_of e.dialect e.form e.words g t j) (when q none (some more));
          binds = binds_of e.dialect e.form e.words g b;
          slots = slots_of e.dialect e.form e.words g new;
        })
            ≡ standing e.dialect e.form e.words g (when q (topped (moved x (j + 1) at m) (get_or t.lows j 0)) (moved x (j + 1) at m)) new b
        go true = rw (add-one j)
        go false = rw (add-one j, f)

    cons_stands : (j : ℕ) → j < entries → x.top ≡ suc j
        → some (chosen (places e.dialect e.form e.words g) (conf_of e.dialect e.form e.words g x t b) j
        (take_place e.words (binding (get_or t.ats j 0) (get_or t.wholes j 0)) (get_or t.lefts j 0) (count_trailing_zeros 64 (get_or t.lefts j 0))))
        ≡ stands (cons_of e.words j x t)
    unfolding stands chosen conf_of cons_of cons_by take_place slots_of
    cons_stands j h f =
        choice_stands (clear k (get_or t.lefts j 0)) (element_at e.words (get_or t.ats j 0) k) (whole_at e.words (element_at e.words (get_or t.ats j 0) k))
        (clear k (get_or t.wholes j 0)) j h f
      where
        k : ℕ
        k = count_trailing_zeros 64 (get_or t.lefts j 0)

    -- The choice at j.
    choose_is : (j : ℕ) (i : Instr) → Means e.matcher e.vars (line_at e j) (get_or e.to j 0) i
        → Frame (get_or e.op j 0) e.words j (get_or t.ats j 0) (get_or t.wholes j 0) (get_or t.lefts j 0) → x.top ≡ suc j
        → choose (places e.dialect e.form e.words g) i j (conf_of e.dialect e.form e.words g x t b) ≡ stands (choice_of (get_or e.op j 0) j e.from e.to e.words x t)
    unfolding stands standing choose chosen resumed conf_of slots_of choice_of join_of join_by resume_of resumed_at resumed_by slot_by pick take_front when line_at
    choose_is j i (means_end z) o f = let a = o.splits in absurd (omega arith)
    choose_is j i (means_strip z) o f = let a = o.splits in absurd (omega arith)
    choose_is j i (means_drop z) o f = let a = o.splits in absurd (omega arith)
    choose_is j i (means_bind z) o f = let a = o.splits in absurd (omega arith)
    choose_is j i (means_constant z) o f = let a = o.splits in absurd (omega arith)
    choose_is j i (means_integer z) o f = let a = o.splits in absurd (omega arith)
    choose_is j i (means_value k z y a) o f = let a = o.splits in absurd (omega arith)
    choose_is j i (means_nil k z) o f = let a = o.splits in absurd (omega arith)
    choose_is j i (means_list k z) o f = rw z (cons_stands j o.place f)
    choose_is j i (means_multiset k z a) o f = rw z (cons_stands j o.place f)
    choose_is j i (means_join k z) o f =
        rw z (choice_stands (longer_of (get_or t.lefts j 0) (get_or t.wholes j 0 - get_or t.lefts j 0)) (get_or t.ats j 0) (get_or t.lefts j 0)
        (get_or t.wholes j 0 - get_or t.lefts j 0) j o.place f)
    choose_is j i (means_tuple k z m) o f = let a = o.whole (omega arith) in absurd (omega arith)
    choose_is j i (means_keep z) o f = let a = o.whole (omega arith) in absurd (omega arith)
    choose_is j i (means_choice z) o f = rw z
    choose_is j i (means_deny z) o f = rw z
    choose_is j i (means_cut z) o f = let a = o.chooses in absurd (omega arith)
    choose_is j i (means_other z) o f = let a = o.chooses in absurd (omega arith)
    choose_is j i (means_close z) o f = let a = o.chooses in absurd (omega arith)

    pub pick_is : (code : ℕ → Instr) (n : ℕ) → x.top ≡ n → Divided code → Picks e.op e.words n t.ats t.wholes t.lefts
        → next_choice (places e.dialect e.form e.words g) code n (conf_of e.dialect e.form e.words g x t b) ≡ stands (pick_of e.op e.from e.to e.words x t)
    unfolding next_choice stands pick_of standing lived when
    pick_is code zero f m o = rw f
    pick_is code (suc j) f m o =
        let p : x.top - 1 ≡ j = omega arith in
        let q : suc j - 1 ≡ j = omega arith in
        let u : x.top ≡ 0 → ⊥ = λ z. omega arith in
        let y : Frame (get_or e.op j 0) e.words j (get_or t.ats j 0) (get_or t.wholes j 0) (get_or t.lefts j 0) = rw q at (o.frame (λ z. omega arith)) in
        rw (ne_eqb x.top 0 u, p) (choose_is j (code j) (m j y.splits) y f)
