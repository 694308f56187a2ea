-- The run on numbers and lists is the engine's, turn by turn.
use Prim.Native.Nat.{ℕ, zero, suc, ◌+◌, ◌-◌, ◌≤◌, ◌<◌}
use native.Mathlib.Numerals.{add-one}
use native.Mathlib.Omega.{arith}
use mathlib.Core.Path.{◌≡◌, refl, sym, ap, ◌∙◌}
use mathlib.Core.Logic.{◌⊎◌, inl, inr}
use mathlib.Core.Bool.{Bool, true, false}
use mathlib.Core.Option.{Option, some}
use mathlib.Core.List.{List, ◌++◌, map}
use lib.ListN.{length, get_or, take, drop}
use lib.Seq.{drop-cons}
use lib.Dec.{eqb, leb, ltb}
use lib.IntN.{ℤ}
use borrow.Author.Tests.{eqb-true, eqb-false, ltb-true, ltb-false, le-leb, lt-leb}
use Rattle.rules.specs.Dialects.{Dialect}
use Rattle.rules.specs.Rows.{Form, told, row}
use Rattle.program_rules.specs.Points.{Instr, bind, end}
use Rattle.program_rules.specs.Meaning.{Means, means_end, means_strip, means_drop, means_bind, means_constant, means_integer, means_value, means_nil, means_list, means_multiset, means_join, means_tuple, means_keep, means_choice, means_deny, means_cut, means_other, means_close}
use Rattle.tables.specs.declared.line.Line.{Line}
use Rattle.search_machine.specs.Held.{Data}
use Rattle.search_machine.specs.Engine.{Conf, back, exec, settle}
use Rattle.search_machine.specs.Drive.{Engine, row_from, passed, wrote, filled, row_done, result, advance, turn}
use Rattle.value_places.specs.Places.{Target}
use Rattle.value_places.specs.Held.{put}
use Rattle.value_rows.specs.Row.{origin_of, bound, nothing}
use Rattle.value_rows.specs.declared.Binding.{Binding}
use Rattle.search_step.specs.declared.State.{State}
use Rattle.search_atom.specs.Leaves.{when}
use Rattle.tables.specs.Slot.{Tables}
use Rattle.search_choice.specs.Choices.{pick_of}
use Rattle.search_machine.proofs.Instance.{places}
use Rattle.search.specs.Run as numbers
use Rattle.search.specs.Run.{Env, Run, run, ended, end_by, end_of, line_at, asked, choices_of, after_turn, after_end, take_end, take_bind, take_step, take_of, settled}
use Rattle.search.specs.Valid.{Fine, Valid}
use Rattle.search.specs.Meaning.{binds_of, conf_of, standing, engine_of}
use Rattle.value_rows.proofs.Room.{length_put}
use Rattle.search.proofs.Room.{put_before}
use Rattle.search.proofs.Keeps.{take_keeps}
use Rattle.search.proofs.Frames.{when_if}
use Rattle.search.proofs.Turns as choice
use Rattle.search.proofs.Turns.{as_turn, bind_turn, step_turn, Divided, pick_is}
use Rattle.search.proofs.Counts.{Took, step_took, bind_took, settled_is}

-- ---- The row.

module _ (dialect : Dialect) (form : Form) (s : List ℤ) (g : Target s) where
  row_from_lem : (b : List Binding) (i n : ℕ) → i + n ≤ length b → row_from (places dialect form s g) (binds_of dialect form s g b) i n ≡ row form (map (origin_of s) (take n (drop i b)))
  unfolding row_from row binds_of
  row_from_lem b i zero h = refl
  row_from_lem b i (suc n) h =
      let l : i < length b = omega arith in
      rw (drop-cons b i nothing l) (ap (λ ws. told form (origin_of s (get_or b i nothing)) ++ ws) (row_from_lem b (suc i) n (omega arith)))

  row_is : (b : List Binding) (n : ℕ) → n ≤ length b → row_from (places dialect form s g) (binds_of dialect form s g b) 0 n ≡ row form (bound s b n)
  unfolding bound
  row_is b n h = row_from_lem b 0 n (omega arith)

-- ---- A turn.

engine_path : (D : Data) {c c' : Option (Conf D)} {f f' r r' n n' : ℕ} {w w' : List ℤ} {q q' : Bool} → c ≡ c' → f ≡ f' → r ≡ r' → n ≡ n' → w ≡ w' → q ≡ q'
    → ◌≡◌ {A = Engine D} (record { conf = c; left = f; rows = r; steps = n; written = w; full = q }) (record { conf = c'; left = f'; rows = r'; steps = n'; written = w'; full = q' })
engine_path D p₀ p₁ p₂ p₃ p₄ p₅ i = record { conf = p₀ i; left = p₁ i; rows = p₂ i; steps = p₃ i; written = p₄ i; full = p₅ i }

row_full : (D : Data) (k : Engine D) (ws : List ℤ) (c : Option (Conf D)) → leb (length ws) k.left ≡ false → row_done D k ws c ≡ filled D k
unfolding row_done
row_full D k ws c h = ap (λ z. elim z as (λ _. Engine D) [ true ↦ wrote D k ws c | false ↦ filled D k ]) h

row_fits : (D : Data) (k : Engine D) (ws : List ℤ) (c : Option (Conf D)) → leb (length ws) k.left ≡ true → row_done D k ws c ≡ wrote D k ws c
unfolding row_done
row_fits D k ws c h = ap (λ z. elim z as (λ _. Engine D) [ true ↦ wrote D k ws c | false ↦ filled D k ]) h

module _ (e : Env) (g : Target e.words) where
  settle_is : (code : ℕ → Instr) (r : Run) → Valid e r → (r.state.live ≡ 1) ⊎ (r.state.live ≡ 2)
      → Divided e g code
      → settle (places e.dialect e.form e.words g) code (as_turn e g r) ≡ (engine_of e.dialect e.form e.words g (settled e r)).conf
  unfolding settle as_turn engine_of settled after_turn standing when pick_of choice.stands
  settle_is code r v (inl l) m = rw l
  settle_is code r v (inr l) m =
      rw l (pick_is e g r.state r.tables r.binds v.long code r.state.top refl m v.frames.last)

  -- A state that stands.
  standing_engine : (x : State) (t : Tables) (b : List Binding) (room : List ℤ) → Engine (places e.dialect e.form e.words g)
  standing_engine x t b room = record {
    conf = some (conf_of e.dialect e.form e.words g x t b);
    left = length room - x.words;
    rows = x.rows;
    steps = x.steps;
    written = take x.words room;
    full = false;
  }

  stands : (x : State) (t : Tables) (b : List Binding) (room : List ℤ) → x.live ≡ 1 → engine_of e.dialect e.form e.words g (run x t b room) ≡ standing_engine x t b room
  unfolding engine_of standing standing_engine when
  stands x t b room l = rw l

  -- One that has an atom left.
  goes_on_lem : (code : ℕ → Instr) (x : State) (t : Tables) (b : List Binding) (room : List ℤ) (r : Run) → Took x r.state → r.room ≡ room → Valid e r
      → Divided e g code
      → passed (places e.dialect e.form e.words g) (standing_engine x t b room) (settle (places e.dialect e.form e.words g) code (as_turn e g r)) ≡ engine_of e.dialect e.form e.words g (settled e r)
  unfolding passed engine_of standing_engine
  goes_on_lem code x t b room r k q v m =
      let c = settled_is e r in
      engine_path (places e.dialect e.form e.words g) (settle_is code r v k.live m) (rw (c.room, c.words, k.words, q)) (sym (c.rows ∙ k.rows)) (sym (c.steps ∙ k.steps ∙ add-one x.steps))
      (rw (c.room, c.words, k.words, q)) (sym (not_full (settled e r).state.live k.live c.live))
    where
      not_full : (n : ℕ) → (r.state.live ≡ 1) ⊎ (r.state.live ≡ 2) → (n ≡ r.state.live) ⊎ ((n ≡ 0) ⊎ (n ≡ 1)) → eqb n 3 ≡ false
      not_full n (inl l) (inl z) = rw (z, l)
      not_full n (inr l) (inl z) = rw (z, l)
      not_full n k (inr (inl z)) = rw z
      not_full n k (inr (inr z)) = rw z

  full_is : (code : ℕ → Instr) (x : State) (t : Tables) (b : List Binding) (room ws : List ℤ)
      → filled (places e.dialect e.form e.words g) (standing_engine x t b room) ≡ engine_of e.dialect e.form e.words g (settled e (run (numbers.filled x) t b room))
  unfolding filled settled engine_of standing standing_engine conf_of numbers.filled when
  full_is code x t b room ws = engine_path (places e.dialect e.form e.words g) refl refl refl (sym (add-one x.steps)) refl refl

  wrote_is : (code : ℕ → Instr) (x : State) (t : Tables) (b : List Binding) (room ws : List ℤ) → x.words + length ws ≤ length room
      → Valid e (run (numbers.wrote x (length ws)) t b (put room x.words ws))
      → Divided e g code
      → wrote (places e.dialect e.form e.words g) (standing_engine x t b room) ws (settle (places e.dialect e.form e.words g) code (back (conf_of e.dialect e.form e.words g x t b)))
      ≡ engine_of e.dialect e.form e.words g (settled e (run (numbers.wrote x (length ws)) t b (put room x.words ws)))
  unfolding wrote engine_of standing_engine as_turn conf_of numbers.wrote when
  wrote_is code x t b room ws h v m =
      let r = run (numbers.wrote x (length ws)) t b (put room x.words ws) in
      let c = settled_is e r in
      engine_path (places e.dialect e.form e.words g) (settle_is code r v (inr refl) m)
      (rw (c.room, c.words, length_put room x.words ws) (omega arith)) (sym (c.rows ∙ add-one x.rows)) (sym (c.steps ∙ add-one x.steps))
      (rw (c.room, c.words) (sym (put_before room x.words ws h))) (sym (not_full (settled e r).state.live c.live))
    where
      not_full : (n : ℕ) → (n ≡ 2) ⊎ ((n ≡ 0) ⊎ (n ≡ 1)) → eqb n 3 ≡ false
      not_full n (inl z) = rw z
      not_full n (inr (inl z)) = rw z
      not_full n (inr (inr z)) = rw z

  -- One that has none: its row, if it fits.
  ends : (code : ℕ → Instr) (x : State) (t : Tables) (b : List Binding) (room ws : List ℤ) → x.words ≤ length room → Valid e (after_end (end_by ws x room) t b)
      → Divided e g code
      → row_done (places e.dialect e.form e.words g) (standing_engine x t b room) ws (settle (places e.dialect e.form e.words g) code (back (conf_of e.dialect e.form e.words g x t b)))
      ≡ engine_of e.dialect e.form e.words g (settled e (after_end (end_by ws x room) t b))
  unfolding end_by after_end when standing_engine
  ends code x t b room ws h v m = by (ltb (length room - x.words) (length ws)) (ltb-true _ _) (ltb-false _ _) v
    where
      outcome : Bool → Run
      outcome q = after_end (when q (ended (numbers.filled x) room) (ended (numbers.wrote x (length ws)) (put room x.words ws))) t b

      by : (q : Bool) → (q ≡ true → length room - x.words < length ws) → (q ≡ false → length ws ≤ length room - x.words) → Valid e (outcome q)
          → row_done (places e.dialect e.form e.words g) (standing_engine x t b room) ws (settle (places e.dialect e.form e.words g) code (back (conf_of e.dialect e.form e.words g x t b)))
          ≡ engine_of e.dialect e.form e.words g (settled e (outcome q))
      by true p k v = row_full (places e.dialect e.form e.words g) (standing_engine x t b room) ws _ (lt-leb _ _ (p refl)) ∙ full_is code x t b room ws
      by false p k v =
          row_fits (places e.dialect e.form e.words g) (standing_engine x t b room) ws _ (le-leb _ _ (k refl))
          ∙ wrote_is code x t b room ws (let l = k refl in omega arith) v m

  -- ---- A turn of the engine.

  turn_stands : (code : ℕ → Instr) (x : State) (t : Tables) (b : List Binding) (room : List ℤ)
      → turn (places e.dialect e.form e.words g) code (standing_engine x t b room)
      ≡ result (places e.dialect e.form e.words g) (standing_engine x t b room) (code x.pc) (binds_of e.dialect e.form e.words g b)
      (settle (places e.dialect e.form e.words g) code (exec (places e.dialect e.form e.words g) (code x.pc) (conf_of e.dialect e.form e.words g x t b)))
  unfolding turn advance standing_engine conf_of
  turn_stands code x t b room = refl

  -- An instruction that is no end.
  result_passed : {l : Line} {to : ℕ} {i : Instr} (D : Data) (k : Engine D) (b : ℕ → D.Held) (o : Option (Conf D)) → Means e.matcher e.vars l to i → (l.op ≡ 0 → ⊥)
      → result D k i b o ≡ passed D k o
  unfolding result
  result_passed D k b o (means_end z) n = absurd (n z)
  result_passed D k b o (means_strip z) n = refl
  result_passed D k b o (means_drop z) n = refl
  result_passed D k b o (means_bind z) n = refl
  result_passed D k b o (means_constant z) n = refl
  result_passed D k b o (means_integer z) n = refl
  result_passed D k b o (means_value m z f a) n = refl
  result_passed D k b o (means_nil m z) n = refl
  result_passed D k b o (means_list m z) n = refl
  result_passed D k b o (means_multiset m z a) n = refl
  result_passed D k b o (means_join m z) n = refl
  result_passed D k b o (means_tuple m z h) n = refl
  result_passed D k b o (means_keep z) n = refl
  result_passed D k b o (means_choice z) n = refl
  result_passed D k b o (means_deny z) n = refl
  result_passed D k b o (means_cut z) n = refl
  result_passed D k b o (means_other z) n = refl
  result_passed D k b o (means_close z) n = refl

  end_code : {l : Line} {to : ℕ} {i : Instr} → Means e.matcher e.vars l to i → l.op ≡ 0 → i ≡ end e.vars
  end_code (means_end z) h = refl
  end_code (means_strip z) h = absurd (omega arith)
  end_code (means_drop z) h = absurd (omega arith)
  end_code (means_bind z) h = absurd (omega arith)
  end_code (means_constant z) h = absurd (omega arith)
  end_code (means_integer z) h = absurd (omega arith)
  end_code (means_value m z f a) h = absurd (omega arith)
  end_code (means_nil m z) h = absurd (omega arith)
  end_code (means_list m z) h = absurd (omega arith)
  end_code (means_multiset m z a) h = absurd (omega arith)
  end_code (means_join m z) h = absurd (omega arith)
  end_code (means_tuple m z k) h = absurd (omega arith)
  end_code (means_keep z) h = absurd (omega arith)
  end_code (means_choice z) h = absurd (omega arith)
  end_code (means_deny z) h = absurd (omega arith)
  end_code (means_cut z) h = absurd (omega arith)
  end_code (means_other z) h = absurd (omega arith)
  end_code (means_close z) h = absurd (omega arith)

  bind_code : {l : Line} {to : ℕ} {i : Instr} → Means e.matcher e.vars l to i → l.op ≡ 3 → i ≡ bind l.arg l.from to
  bind_code (means_end z) h = absurd (omega arith)
  bind_code (means_strip z) h = absurd (omega arith)
  bind_code (means_drop z) h = absurd (omega arith)
  bind_code (means_bind z) h = refl
  bind_code (means_constant z) h = absurd (omega arith)
  bind_code (means_integer z) h = absurd (omega arith)
  bind_code (means_value m z f a) h = absurd (omega arith)
  bind_code (means_nil m z) h = absurd (omega arith)
  bind_code (means_list m z) h = absurd (omega arith)
  bind_code (means_multiset m z a) h = absurd (omega arith)
  bind_code (means_join m z) h = absurd (omega arith)
  bind_code (means_tuple m z k) h = absurd (omega arith)
  bind_code (means_keep z) h = absurd (omega arith)
  bind_code (means_choice z) h = absurd (omega arith)
  bind_code (means_deny z) h = absurd (omega arith)
  bind_code (means_cut z) h = absurd (omega arith)
  bind_code (means_other z) h = absurd (omega arith)
  bind_code (means_close z) h = absurd (omega arith)

  module _ (fine : Fine e) (code : ℕ → Instr) (x : State) (t : Tables) (b : List Binding) (room : List ℤ)
      (v : Valid e (run x t b room)) (l : x.live ≡ 1) (here : Means e.matcher e.vars (line_at e x.pc) (get_or e.to x.pc 0) (code x.pc)) (divides : Divided e g code) where
    same_turn : Run → Type 0
    same_turn r = Valid e r
        → result (places e.dialect e.form e.words g) (standing_engine x t b room) (code x.pc) (binds_of e.dialect e.form e.words g b)
        (settle (places e.dialect e.form e.words g) code (exec (places e.dialect e.form e.words g) (code x.pc) (conf_of e.dialect e.form e.words g x t b)))
        ≡ engine_of e.dialect e.form e.words g (settled e r)

    end_turn : get_or e.op x.pc 0 ≡ 0 → same_turn (take_end e (run x t b room))
    unfolding same_turn line_at take_end end_of result exec
    end_turn z w =
        ap (λ i. result (places e.dialect e.form e.words g) (standing_engine x t b room) i (binds_of e.dialect e.form e.words g b)
        (settle (places e.dialect e.form e.words g) code (exec (places e.dialect e.form e.words g) i (conf_of e.dialect e.form e.words g x t b)))) (end_code here z)
        ∙ ap (λ ws. row_done (places e.dialect e.form e.words g) (standing_engine x t b room) ws (settle (places e.dialect e.form e.words g) code (back (conf_of e.dialect e.form e.words g x t b))))
        (row_is e.dialect e.form e.words g b e.vars (let k = fine.few in let q = v.binds.long in omega arith))
        ∙ ends code x t b room (row e.form (bound e.words b e.vars)) v.room w divides

    goes : (r : Run) → Took x r.state → r.room ≡ room → (get_or e.op x.pc 0 ≡ 0 → ⊥)
        → exec (places e.dialect e.form e.words g) (code x.pc) (conf_of e.dialect e.form e.words g x t b) ≡ as_turn e g r → same_turn r
    unfolding same_turn line_at
    goes r k q n p w =
        result_passed (places e.dialect e.form e.words g) (standing_engine x t b room) (binds_of e.dialect e.form e.words g b) _ here n
        ∙ ap (λ u. passed (places e.dialect e.form e.words g) (standing_engine x t b room) (settle (places e.dialect e.form e.words g) code u)) p
        ∙ goes_on_lem code x t b room r k q w divides

    pub turn_is : turn (places e.dialect e.form e.words g) code (engine_of e.dialect e.form e.words g (run x t b room)) ≡ engine_of e.dialect e.form e.words g (settled e (take_of e (run x t b room)))
    unfolding take_of same_turn line_at take_bind take_step after_turn
    turn_is =
        ap (turn (places e.dialect e.form e.words g) code) (stands x t b room l) ∙ turn_stands code x t b room
        ∙ when_if same_turn (eqb (get_or e.op x.pc 0) 0) (take_end e r) (when (eqb (get_or e.op x.pc 0) 3) (take_bind e r) (take_step e r))
        (λ z. end_turn (eqb-true _ _ z))
        (λ z. when_if same_turn (eqb (get_or e.op x.pc 0) 3) (take_bind e r) (take_step e r)
        (λ k. goes (take_bind e r) (bind_took e r) refl (eqb-false _ _ z)
        (ap (λ i. exec (places e.dialect e.form e.words g) i (conf_of e.dialect e.form e.words g x t b)) (bind_code here (eqb-true _ _ k))
        ∙ bind_turn e g x t b room v.binds.long (let three : get_or e.op x.pc 0 ≡ 3 = eqb-true _ _ k in fine.numbers x.pc v.place (omega arith) (omega arith))))
        (λ k. goes (take_step e r) (step_took e.op e.from e.to e.con e.words (asked e r) (choices_of e r) x t) refl (eqb-false _ _ z)
        (step_turn e g x t b room (code x.pc) here (eqb-false _ _ z) (eqb-false _ _ k) v.long v.place (fine.parts x.pc v.place))))
        (take_keeps e fine g r v l)
      where
        r : Run
        r = run x t b room
