-- An advance of a run in which a state stands, as the code asks for it. Assumes nothing.
use Prim.Native.Nat.{ℕ, ◌-◌, ◌*◌, ◌≤◌}
use native.Mathlib.Omega.{arith}
use mathlib.Core.Path.{◌≡◌, refl, ap, ap₂, ◌∙◌, subst}
use mathlib.Core.Bool.{Bool, true, false, not}
use mathlib.Core.List.{List}
use lib.ListN.{length, get_or}
use lib.Dec.{ltb}
use lib.IntN.{ℤ}
use borrow.Author.Rules.{rules}
use borrow.Author.Tests.{ltb-true, ltb-false}
use Rattle.tables.specs.Slot.{slot_count, view_of}
use Rattle.tables.specs.Line.{Columns, columns_of, no_lines}
use Rattle.tables.specs.declared.line.Line.{Line}
use Rattle.tables.specs.SlotLaws.{long_list, long_line}
use Rattle.std.specs.Prelude.{Option, Some, None}
use Rattle.value_rows.specs.declared.Binding.{Binding}
use Rattle.search.specs.declared.Progress.{Progress}
use Rattle.search_step.specs.declared.State.{State}
use Rattle.search.specs.Run.{Env, env_with, Run, run, run_of}
use Rattle.search.specs.Valid.{Long, Valid}
use Rattle.run_rules.specs.Lent.{Terms, allowed}
use Rattle.rules.specs.Dialects.{Dialect, every_place}
use Rattle.rules.specs.Rows.{Form, as_words}
use Rattle.forms.specs.Faults.{Sane}
use Rattle.program_rules.specs.Points.{Instr, end, Point, Follows, strips, drops, binds, tests, splits, aparts, keeps, chooses, denies, cuts, elses, closes, reserves, ends, after_end_lem}
use Rattle.program_rules.specs.Program.{program, point_at}
use Rattle.program_rules.specs.Length.{instrs, to_come}
use Rattle.program_rules.specs.Walk.{in_range_lem}
use Rattle.program_rules.specs.Fitted.{program_follows}
use Rattle.program_rules.specs.Meaning.{Means, means_end, means_strip, means_drop, means_bind, means_constant, means_integer, means_value, means_nil, means_list, means_multiset, means_join, means_tuple}
use Rattle.program_rules.specs.Meaning.{means_keep, means_choice, means_deny, means_cut, means_other, means_close}
use Rattle.program_rules.specs.Closed.{closed_is}
use Rattle.forms.specs.ReadPattern.{pattern_read}
use Rattle.program_rules.specs.Lines.{lines_of, laid}
use Rattle.program_rules.specs.Slots.{numbered}
use Rattle.program_rules.specs.Link.{ops_in, bindings_in, linked_in}
use Rattle.program_rules.specs.Columns.{line_in, Holds, compiled_zeros}
use Rattle.services.specs.Matches.{Ready, Admitted}
use Rattle.services.proofs.Matches.{ready_sane, ready_fine, matcher_few, pattern_few}
use Rattle.search.specs.Valid.{Fine}
use Rattle.run_sound.specs.Tested.{Decides}
use Rattle.run_sound.specs.Sound.{Numbered, Closes, Sound}
use Rattle.run_sound.proofs.Tests.{refuted, upheld}
use Rattle.service_runs.specs.Going.{Tries, Still, lines_in, env_in, run_in, Carries}

-- ---- A sound run is a valid one.

long_tables : (arg slots : List ℕ) → Numbered arg slots → Long (view_of arg slots)
unfolding view_of
long_tables arg slots n =
    let l = long_list arg slots n.long in
    record {
      ats = long_line 0 arg slots (omega arith) l;
      wholes = long_line 1 arg slots (omega arith) l;
      lefts = long_line 2 arg slots (omega arith) l;
      lows = long_line 3 arg slots (omega arith) l;
      backs = long_line 4 arg slots (omega arith) l;
    }

module _ (e : Env) (slots : List ℕ) (x : State) (b : List Binding) (room : List ℤ) (live : x.live ≡ 1) where
  sound_valid : Numbered e.arg slots → Sound e.op e.words (view_of e.arg slots) x b (length room) → Valid e (run x (view_of e.arg slots) b room)
  sound_valid n s = record {
    place = s.place;
    held = s.held;
    frames = record { last = s.last; below = λ i h. (s.lines.each i h).below };
    waits = record { held = λ j h z. (s.lines.each j h).held };
    binds = s.binds;
    room = s.room;
    counts = s.counts;
    long = long_tables e.arg slots n;
  }

  valid_sound : Valid e (run x (view_of e.arg slots) b room) → Sound e.op e.words (view_of e.arg slots) x b (length room)
  valid_sound v = record {
    place = v.place;
    held = v.held;
    last = v.frames.last;
    room = v.room;
    counts = v.counts;
    binds = v.binds;
    lines = record {
      each = λ j h. record {
        held = v.waits.held j h (λ z. absurd (omega arith));
        below = v.frames.below j h;
      };
    };
  }

  module _ (r : Bool) (d : Decides r (Sound e.op e.words (view_of e.arg slots) x b (length room))) where
    pub try_valid : Numbered e.arg slots → not r ≡ false → Valid e (run x (view_of e.arg slots) b room)
    try_valid n q = sound_valid n (d.sound (upheld r q))

    pub try_unsound : (n : ℕ) → not r ≡ true → Tries e n (run x (view_of e.arg slots) b room) None slots room
    try_unsound n q = record {
      went = λ p z. absurd (cc);
      kept = λ z v. refuted r q (d.whole (valid_sound v));
    }

pub try_went : (e : Env) (n : ℕ) (r : Run) (p : Progress) (slots' : List ℕ) (room' : List ℤ) → run p.state (view_of e.arg slots') p.binds room' ≡ run_of e n r → Tries e n r (Some p) slots' room'
try_went e n r p slots' room' h = record {
  went = λ q z. let k : p ≡ q = cc in subst (λ (o : Progress). run o.state (view_of e.arg slots') o.binds room' ≡ run_of e n r) k h;
  kept = λ z. absurd (cc);
}

pub still_stays : (slots : List ℕ) (room : List ℤ) → Still None slots slots room room
still_stays slots room = record { slots_stay = λ z. refl; room_stays = λ z. refl }

pub still_went : (p : Progress) (slots slots' : List ℕ) (room room' : List ℤ) → Still (Some p) slots slots' room room'
still_went p slots slots' room room' = record { slots_stay = λ z. absurd (cc); room_stays = λ z. absurd (cc) }

pub ruleset try_rules = (try_valid, try_unsound, try_went, still_stays, still_went, rules)

-- ---- The lines of a rule that is accepted.

pub admitted_matcher : (dialect : Dialect) (ms ps ts : List ℤ) → Admitted dialect ms ps ts → length ms ≤ 64
admitted_matcher dialect ms ps ts g = matcher_few ms ps ts g.ready

pub admitted_pattern : (dialect : Dialect) (ms ps ts : List ℤ) → Admitted dialect ms ps ts → length ps ≤ 256
admitted_pattern dialect ms ps ts g = pattern_few ms ps ts g.ready

-- A line without an instruction is an end; and an end is the last line, or after it.
ended_line : {ms : List ℤ} {vars : ℕ} {l : Line} {to : ℕ} {i : Instr} → Means ms vars l to i → l.op ≡ 0 → i ≡ end vars
ended_line (means_end e) z = refl
ended_line (means_strip e) z = absurd (omega arith)
ended_line (means_drop e) z = absurd (omega arith)
ended_line (means_bind e) z = absurd (omega arith)
ended_line (means_constant e) z = absurd (omega arith)
ended_line (means_integer e) z = absurd (omega arith)
ended_line (means_value m e n a) z = absurd (omega arith)
ended_line (means_nil m e) z = absurd (omega arith)
ended_line (means_list m e) z = absurd (omega arith)
ended_line (means_multiset m e a) z = absurd (omega arith)
ended_line (means_join m e) z = absurd (omega arith)
ended_line (means_tuple n e h) z = absurd (omega arith)
ended_line (means_keep e) z = absurd (omega arith)
ended_line (means_choice e) z = absurd (omega arith)
ended_line (means_deny e) z = absurd (omega arith)
ended_line (means_cut e) z = absurd (omega arith)
ended_line (means_other e) z = absurd (omega arith)
ended_line (means_close e) z = absurd (omega arith)

at_end : {points : ℕ → Point} {pc : ℕ} {i : Instr} {P : Point} → Follows points pc i P → (n : ℕ) → i ≡ end n → to_come P ≤ 1
unfolding to_come
at_end (strips h k e) n z = let y : ◌≡◌ {A = ℕ} 0 1 = cc in absurd (omega arith)
at_end (drops h e) n z = let y : ◌≡◌ {A = ℕ} 0 1 = cc in absurd (omega arith)
at_end (binds h e) n z = let y : ◌≡◌ {A = ℕ} 0 1 = cc in absurd (omega arith)
at_end (tests t h k e) n z = let y : ◌≡◌ {A = ℕ} 0 1 = cc in absurd (omega arith)
at_end (splits k p q e) n z = let y : ◌≡◌ {A = ℕ} 0 1 = cc in absurd (omega arith)
at_end (aparts p q ps m k ks a b e) n z = let y : ◌≡◌ {A = ℕ} 0 1 = cc in absurd (omega arith)
at_end (keeps p q e) n z = let y : ◌≡◌ {A = ℕ} 0 1 = cc in absurd (omega arith)
at_end (chooses p q h e f) n z = let y : ◌≡◌ {A = ℕ} 0 1 = cc in absurd (omega arith)
at_end (denies p h e f) n z = let y : ◌≡◌ {A = ℕ} 0 1 = cc in absurd (omega arith)
at_end cuts n z = let y : ◌≡◌ {A = ℕ} 0 1 = cc in absurd (omega arith)
at_end elses n z = let y : ◌≡◌ {A = ℕ} 0 1 = cc in absurd (omega arith)
at_end closes n z = let y : ◌≡◌ {A = ℕ} 0 1 = cc in absurd (omega arith)
at_end reserves n z = let y : ◌≡◌ {A = ℕ} 0 1 = cc in absurd (omega arith)
at_end ends n z = omega arith
at_end after_end_lem n z = omega arith

module _ (ms ps ts : List ℤ) (n : ℕ) (none lines : List ℕ) (g : Ready ms ps ts) (zeros : none ≡ no_lines)
    (vars : n ≡ bindings_in (ops_in (columns_of lines).op 0 (length (lines_of ms ps))))
    (is : columns_of lines ≡ linked_in (length (lines_of ms ps)) (numbered (length (lines_of ms ps)) (laid 0 (lines_of ms ps) (columns_of none)))) where
  lines_are : columns_of lines ≡ lines_in ms ps
  unfolding lines_in
  lines_are = is ∙ ap (λ k. linked_in (length (lines_of ms ps)) (numbered (length (lines_of ms ps)) (laid 0 (lines_of ms ps) (columns_of k)))) zeros

  holds : Holds ms g.rule n (columns_of lines)
  unfolding lines_in
  holds = compiled_zeros ms ps g.rule g.rule_is n (columns_of lines) vars lines_are

  end_last : (i : ℕ) → get_or (columns_of lines).op i 0 ≡ 0 → instrs g.rule.pattern g.rule.matcher ≤ i
  unfolding line_in
  end_last i z = go (ltb i (instrs g.rule.pattern g.rule.matcher)) refl
    where
      sane : Sane ms ps ts g.rule g.value
      sane = ready_sane g

      follow : Follows (point_at g.rule.matcher g.rule.pattern) i (program g.rule.matcher g.rule.pattern i) (point_at g.rule.matcher g.rule.pattern i)
      follow = program_follows g.rule.matcher g.rule.pattern 0 sane.rule.fitting.0 sane.rule.fitting.1 ((pattern_read ps g.rule.pattern).0 sane.rule.pattern).2
          (closed_is g.rule.pattern true 0 0 sane.rule.numbered.0 sane.rule.numbered.1) i

      go : (b : Bool) → ltb i (instrs g.rule.pattern g.rule.matcher) ≡ b → instrs g.rule.pattern g.rule.matcher ≤ i
      go true h =
          let l = ltb-true i _ h in
          let a = at_end follow n (ended_line (holds.means i (omega arith)) z) in
          let r = in_range_lem g.rule.matcher g.rule.pattern i in
          absurd (omega arith)
      go false h = ltb-false i _ h

  fine_is : Fine (env_with every_place (columns_of lines) ms ts n as_words)
  fine_is = ready_fine every_place ms ps ts n none lines as_words g zeros vars is

  pub lines_close : Closes (columns_of lines).op (columns_of lines).arg
  unfolding line_in
  lines_close = record {
    last = fine_is.last;
    after = λ i j z l. let k = end_last i z in ap (λ (y : Line). y.arg) (holds.after j (omega arith));
  }

  pub slots_numbered : (slots : List ℕ) → length slots ≡ 5 * slot_count → Numbered (columns_of lines).arg slots
  unfolding view_of
  slots_numbered slots l = record { slot = fine_is.slot; long = long_line 4 (columns_of lines).arg slots (omega arith) (omega arith) }

  -- What does not change is what the rule and the target say.
  env_is : (terms : Terms) → env_with terms.dialect (columns_of lines) ms ts n terms.form ≡ env_in terms ms ps ts
  unfolding env_in
  env_is terms = ap (λ k. env_with terms.dialect (columns_of lines) ms ts k terms.form) vars
      ∙ ap (λ (k : Columns). env_with terms.dialect k ms ts (bindings_in (ops_in k.op 0 (length (lines_of ms ps)))) terms.form) lines_are

  pub carry_tried : (terms : Terms) (budget portion : ℕ) (x : State) (slots slots' : List ℕ) (b : List Binding) (room room' : List ℤ) (next : Option Progress) → budget - x.steps ≡ allowed portion x.steps
      → Tries (env_with terms.dialect (columns_of lines) ms ts n terms.form) (budget - x.steps) (run x (view_of (columns_of lines).arg slots) b room) next slots' room'
      → Still next slots slots' room room' → Carries terms ms ps ts portion x slots b room next slots' room'
  unfolding run_in env_in
  carry_tried terms budget portion x slots slots' b room room' next k t still = record {
    tries = subst (λ (e : Env). Tries e (allowed portion x.steps) (run x (view_of e.arg slots) b room) next slots' room') (env_is terms)
        (subst (λ i. Tries (env_with terms.dialect (columns_of lines) ms ts n terms.form) i (run x (view_of (columns_of lines).arg slots) b room) next slots' room') k t);
    still = still;
  }

  -- The same on the terms that the picks stand for.
  pub carry_picked : (form : Form) (dialect : Dialect) (terms : Terms) → form ≡ terms.form → dialect ≡ terms.dialect → (budget portion : ℕ) (x : State) (slots slots' : List ℕ) (b : List Binding) (room room' : List ℤ) (next : Option Progress)
      → budget - x.steps ≡ allowed portion x.steps
      → Tries (env_with dialect (columns_of lines) ms ts n form) (budget - x.steps) (run x (view_of (columns_of lines).arg slots) b room) next slots' room'
      → Still next slots slots' room room' → Carries terms ms ps ts portion x slots b room next slots' room'
  carry_picked form dialect terms f d budget portion x slots slots' b room room' next k t still =
      subst (λ (i : Terms). Carries i ms ps ts portion x slots b room next slots' room') (ap₂ {C = Terms} (λ (i : Form) (j : Dialect). record { form = i; dialect = j }) f d)
      (carry_tried (record { form = form; dialect = dialect }) budget portion x slots slots' b room room' next k t still)
