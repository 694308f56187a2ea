-- For input that is accepted: the compiler's arrays are fine, the target stands, and a search of them tells what a match in its form is.
use Prim.Native.Nat.{ℕ, zero, suc, ◌+◌, ◌-◌, ◌<◌, ◌≤◌}
use native.Mathlib.Omega.{arith}
use mathlib.Core.Path.{◌≡◌, refl, sym, ap, ◌∙◌}
use mathlib.Core.Bool.{Bool, true, false}
use mathlib.Core.List.{List}
use borrow.Author.Tests.{ltb-true, ltb-false}
use lib.Dec.{ltb}
use lib.ListN.{length, get_or}
use lib.IntN.{ℤ}
use Rattle.rules.specs.Forms.{Value}
use Rattle.rules.specs.Services.{accepted, Rule, rule_in, Matched, match_of, match_rule_in, match_target_in}
use Rattle.rules.specs.Dialects.{Dialect, every_place}
use Rattle.rules.specs.Rows.{Form}
use Rattle.forms.specs.ReadPattern.{pattern_read}
use Rattle.forms.specs.Faults.{Sane, target_accepted}
use Rattle.words.specs.Words.{entries}
use Rattle.program_rules.specs.Closed.{closed_is}
use Rattle.program_rules.specs.Length.{instrs}
use Rattle.tables.specs.declared.line.Line.{Line}
use Rattle.tables.specs.Line.{Columns}
use Rattle.program_rules.specs.Columns.{line_in, Holds}
use Rattle.value_places.specs.Places.{Target}
use Rattle.value_places.proofs.Accepted.{read_target_lem, read_tag}
use Rattle.search.specs.Run.{env_with, env_of}
use Rattle.search.specs.Valid.{Fine}
use Rattle.search.specs.Searched.{Searched}

module _ (ms ps ts : List ℤ) (r : Rule) (v : Value) (sane : Sane ms ps ts r v) where
  pub accepted_target : Target ts
  accepted_target = read_target_lem ts v sane.target.target

  pub accepted_some : 0 < length ts
  accepted_some = (read_tag ts v sane.target.target).inside

module _ (ms ts : List ℤ) (r : Rule) (n : ℕ) (t : Columns) (form : Form) (holds : Holds ms r n t) where
  abbrev op : List ℕ
  op = t.op

  -- A line that is no end is one of the program's.
  among : (i : ℕ) → (get_or op i 0 ≡ 0 → ⊥) → i ≤ 639
  unfolding line_in
  among i h = go (ltb (instrs r.pattern r.matcher) i) (ltb-true _ _) (ltb-false _ _)
    where
      go : (b : Bool) → (b ≡ true → instrs r.pattern r.matcher < i) → (b ≡ false → i ≤ instrs r.pattern r.matcher) → i ≤ 639
      go true f k = absurd (h (ap (λ (l : Line). l.op) (holds.after i (f refl))))
      go false f k = let a = k refl in let l = holds.last in omega arith

  parts_fit : (i k : ℕ) → k ≤ 2 → get_or op i 0 ≡ 11 + k → i + k ≤ 639
  unfolding line_in
  parts_fit i zero b e = let h = among i (λ z. omega arith) in omega arith
  parts_fit i (suc k) b e = among (i + suc k) (λ z. let h : get_or op (i + suc k) 0 ≡ 1 = holds.reserved i (suc k) (omega arith) (omega arith) (omega arith) in omega arith)

  pub fine_in : (dialect : Dialect) → Fine (env_with dialect t ms ts n form)
  unfolding line_in
  fine_in dialect = record {
    last = ap (λ (l : Line). l.op) (holds.after (entries - 1) (let h = holds.last in omega arith));
    slots = λ i h. let f = holds.from i in omega arith;
    places = λ i h. let l = holds.low i in omega arith;
    numbers = λ i h a b. holds.variable i (omega arith) (omega arith);
    few = holds.few;
    parts = λ i h l z. let k = parts_fit i (get_or op i 0 - 11) (omega arith) (omega arith) in omega arith;
    reserved = holds.reserved;
    constants = λ i h. let l = holds.long in omega arith;
    slot = λ i. let n = holds.number i in omega arith;
    alone = λ i h a b. record { only = (holds.own i (omega arith) (omega arith)).only };
    each = λ i h a b k c. record { only = (holds.part i k (omega arith) (omega arith)).only };
  }

  pub accepted_fine : Fine (env_of t ms ts n form)
  accepted_fine = fine_in every_place

  pub accepted_match : (dialect : Dialect) (ps : List ℤ) (v : Value) → Sane ms ps ts r v → rule_in dialect ms ps ≡ accepted r → (budget : ℕ) (room : List ℤ) (out : Matched)
      → Searched (env_with dialect t ms ts n form) budget room out → out ≡ match_of dialect form ms ps ts budget room
  unfolding match_of match_rule_in
  accepted_match dialect ps v sane i budget room out s =
      s.as_defined r v sane.rule.fitting.0 holds sane.rule.fitting.1 ((pattern_read ps r.pattern).0 sane.rule.pattern).2 (closed_is r.pattern true 0 0 sane.rule.numbered.0 sane.rule.numbered.1) sane.target.target sane.target.fit
      ∙ sym (ap (match_rule_in dialect form budget room ts) i ∙ ap (match_target_in dialect form budget room ts r) ((target_accepted r.matcher ts v).1 sane.target))
