-- A rule and a target that were accepted, as the search has them: the program's lines mean the rule, and its slots are its own.
use Rattle.std.specs.Prelude.{ℕ, suc, ◌+◌, ◌-◌, ◌≤◌, ◌<◌, refl, Bool, true, false, List, [], length, get_or, ltb, ℤ}
use Rattle.std.proofs.Common.{arith, sym, ◌∙◌, subst, ltb-true, ltb-false}
use Rattle.std.proofs.Math.Path.{◌≡◌, ap}
use Rattle.rules.specs.Forms.{Matcher, Value}
use Rattle.rules.specs.Origins.{target}
use Rattle.rules.specs.Reading.{ok}
use Rattle.rules.specs.Fit.{fits}
use Rattle.rules.specs.Services.{Rule}
use Rattle.forms.specs.Written.{Widthsᵖ}
use Rattle.tables.specs.Line.{columns}
use Rattle.tables.specs.declared.line.Line.{Line}
use Rattle.program_rules.specs.Closed.{Closed}
use Rattle.program_rules.specs.Columns.{Holds, line_in}
use Rattle.program_rules.specs.Fitted.{program_follows}
use Rattle.program_rules.specs.Length.{instrs, to_come}
use Rattle.program_rules.specs.Meaning.{Means, means_list, means_multiset, means_join, means_tuple, means_keep, means_choice, means_deny}
use Rattle.program_rules.specs.Points.{Kind, Instr, keep, split, apart, choice, deny, end, Point, beyond, known, Follows}
use Rattle.program_rules.specs.Program.{program, point_at, instr_of}
use Rattle.program_rules.specs.Walk.{in_range_lem}
use Rattle.value_places.specs.Places.{Target}
use Rattle.value_places.specs.Held.{whole_at}
use Rattle.search_machine.specs.Operations.{binding}
use Rattle.search_machine.proofs.Instance.{places}
use Rattle.search.specs.Run.{Env, line_at}
use Rattle.search.specs.Valid.{Fine}
use Rattle.round_states.specs.Kept.{OwnedAt}
use Rattle.round_states.specs.Lines.{Owning, all_owned, all_few, nothing_after}

pub record Ruled (e : Env) : Type 0 where
  pub target_is : Target e.words
  pub some_words : 0 < length e.words
  pub fine : Fine e
  pub rule : Rule
  pub value : Value
  pub kinds : List Matcher
  pub holds : Holds e.matcher rule e.vars (columns e.op e.from e.arg e.mat e.con e.to)
  pub fit : fits rule.pattern rule.matcher 0 [] ≡ ok kinds
  pub wide : Widthsᵖ rule.pattern
  pub closed : Closed rule.pattern
  pub is : (places e.dialect e.form e.words target_is).Is rule.matcher (binding 0 (whole_at e.words 0)) (target value)

-- A line has a slot of its own: its number is no variable's.
unfoldable pub Own : Env → ℕ → Type 0
Own e pc = 16 ≤ get_or e.arg pc 0

module _ (e : Env) (R : Ruled e) where
  pub means : (pc : ℕ) → pc ≤ instrs R.rule.pattern R.rule.matcher → Means e.matcher e.vars (line_at e pc) (get_or e.to pc 0) (program R.rule.matcher R.rule.pattern pc)
  unfolding line_at line_in
  means pc h = R.holds.means pc h

  pub ends_after : (pc : ℕ) → instrs R.rule.pattern R.rule.matcher < pc → get_or e.op pc 0 ≡ 0
  unfolding line_in
  ends_after pc h = ap (λ (l : Line). l.op) (R.holds.after pc h)

  abbrev pub follows : (pc : ℕ) → Follows (point_at R.rule.matcher R.rule.pattern) pc (program R.rule.matcher R.rule.pattern pc) (point_at R.rule.matcher R.rule.pattern pc)
  follows = program_follows R.rule.matcher R.rule.pattern 0 R.kinds R.fit R.wide R.closed

  pub few : (pc : ℕ) → length (known (point_at R.rule.matcher R.rule.pattern pc)) ≤ e.vars
  few = all_few R.rule.matcher R.rule.pattern e.matcher e.vars (line_at e) (λ pc. get_or e.to pc 0) means

  -- The instruction at a place that is no end has its line.
  pub by_line_lem : (P : Type 0) (pc : ℕ) (i : Instr) → program R.rule.matcher R.rule.pattern pc ≡ i → ((n : ℕ) → i ≡ end n → ⊥)
      → (Means e.matcher e.vars (line_at e pc) (get_or e.to pc 0) i → P) → P
  by_line_lem P pc i h un f = go (ltb (instrs R.rule.pattern R.rule.matcher) pc) (ltb-true _ _) (ltb-false _ _)
    where
      go : (b : Bool) → (b ≡ true → instrs R.rule.pattern R.rule.matcher < pc) → (b ≡ false → pc ≤ instrs R.rule.pattern R.rule.matcher) → P
      go true a b = absurd (un 0 (sym h ∙ nothing_after R.rule.matcher R.rule.pattern pc (a refl)))
      go false a b = f (subst (λ k. Means e.matcher e.vars (line_at e pc) (get_or e.to pc 0) k) h (means pc (b refl)))

  own_at : (pc : ℕ) → 8 ≤ get_or e.op pc 0 → get_or e.op pc 0 ≤ 16 → Own e pc
  unfolding Own line_in
  own_at pc a b = (R.holds.own pc a b).low

  pub owning : Owning (Own e) R.rule.matcher R.rule.pattern
  unfolding line_at Own line_in
  owning = record {
    splits = λ pc k h. by_line_lem (Own e pc) pc (split k) h (λ n z. let y : ◌≡◌ {A = ℕ} 0 1 = cc in omega arith) (split_owns pc k);
    keeps = λ pc h. by_line_lem (Own e pc) pc keep h (λ n z. let y : ◌≡◌ {A = ℕ} 0 1 = cc in omega arith) (keep_owns pc);
    denies = λ pc n to h. by_line_lem (Own e pc) pc (deny n to) h (λ n z. let y : ◌≡◌ {A = ℕ} 0 1 = cc in omega arith) (deny_owns pc n to);
    parts = λ pc n i h l. by_line_lem (Own e (pc + i)) pc (apart n) h (λ n z. let y : ◌≡◌ {A = ℕ} 0 1 = cc in omega arith) (part_owns pc n i l);
    sides = λ pc to h. by_line_lem (Own e pc) pc (choice to) h (λ n z. let y : ◌≡◌ {A = ℕ} 0 1 = cc in omega arith) (choice_owns pc to);
  }
    where
      split_owns : (pc : ℕ) (k : Kind) → Means e.matcher e.vars (line_at e pc) (get_or e.to pc 0) (split k) → Own e pc
      split_owns pc k (means_list m h) = own_at pc (omega arith) (omega arith)
      split_owns pc k (means_multiset m h a) = own_at pc (omega arith) (omega arith)
      split_owns pc k (means_join m h) = own_at pc (omega arith) (omega arith)

      keep_owns : (pc : ℕ) → Means e.matcher e.vars (line_at e pc) (get_or e.to pc 0) keep → Own e pc
      keep_owns pc (means_keep h) = own_at pc (omega arith) (omega arith)

      deny_owns : (pc n to : ℕ) → Means e.matcher e.vars (line_at e pc) (get_or e.to pc 0) (deny n to) → Own e pc
      deny_owns pc n to (means_deny h) = own_at pc (omega arith) (omega arith)

      choice_owns : (pc to : ℕ) → Means e.matcher e.vars (line_at e pc) (get_or e.to pc 0) (choice to) → Own e pc
      choice_owns pc to (means_choice h) = own_at pc (omega arith) (omega arith)

      part_owns : (pc n i : ℕ) → i ≤ n → Means e.matcher e.vars (line_at e pc) (get_or e.to pc 0) (apart n) → Own e (pc + i)
      part_owns pc n i l (means_tuple k h d) = (R.holds.part pc i (omega arith) (omega arith)).low

  pub owned : (pc : ℕ) → OwnedAt (Own e) (point_at R.rule.matcher R.rule.pattern pc)
  owned = all_owned (Own e) R.rule.matcher R.rule.pattern follows owning
