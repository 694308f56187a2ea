-- The program in its table: a line reads back as it was laid, and with it the place where the next state stands, and of a rule that is accepted each means the instruction at its place.
use Rattle.std.specs.Prelude.{ℕ, zero, suc, ◌+◌, ◌<◌, ◌≤◌, ◌≡◌, Bool, true, false, List, [], ◌∷◌, ltb, length, get_or, replicate, ℤ, pos}
use native.Mathlib.Omega.{arith}
use Rattle.std.proofs.Math.Path.{refl, sym, ap}
use Rattle.std.proofs.Common.{◌∙◌, ltb-true, ltb-false, length-set, get_or-set_same, get_or-set_other}
use Rattle.std.proofs.lemmas.List.{length-replicate}
use Rattle.std.proofs.Math.ListN.{get_or-eq_default}
use Rattle.rules.specs.Services.{accepted, Rule, rule_of}
use Rattle.words.specs.Words.{entries}
use Rattle.forms.specs.Faults.{rule_accepted}
use Rattle.program_rules.specs.Program.{program}
use Rattle.program_rules.specs.Length.{instrs}
use Rattle.tables.specs.declared.line.Line.{Line}
use Rattle.tables.specs.Line.{Columns, columns, written, aimed, named, columns_of, no_lines}
use Rattle.tables.specs.LineLaws.{no_lines_lem}
use Rattle.program_rules.specs.Lines.{line, end_line, lines_of, variables_in, laid, get_d_same}
use Rattle.program_rules.specs.Meaning.{Means, means_end, means_strip, means_drop, means_bind, means_constant, means_integer, means_value, means_nil, means_list, means_multiset, means_join, means_tuple}
use Rattle.program_rules.specs.Meaning.{means_keep, means_choice, means_deny, means_cut, means_other, means_close}
use Rattle.program_rules.specs.Link.{ops_of, tos_of, tos_by, ops_in, bindings_in, placed, linked_in}
use Rattle.program_rules.specs.Linked.{link_leads}
use Rattle.program_rules.specs.Points.{Instr}
use Rattle.program_rules.specs.Places.{ops_length, tos_length, tos_low, placed_zeros}
use Rattle.program_rules.specs.Accepted.{lines_length, line_means, few_variables, program_fits}
use Rattle.program_rules.specs.Bounds.{Small, line_small, Reserved, line_reserved}
use Rattle.program_rules.specs.Slots.{numbered, Own, slot_at, slots_in, over}
use Rattle.program_rules.specs.SlotLaws.{slotted_at, over_none, slot_own, slot_part, slot_after_lem, number_few, number_own, slots_plain}
use Rattle.program_rules.specs.SlotCount.{slots_few}

-- The line at a place of the arrays.
unfoldable pub line_in : Columns → ℕ → Line
line_in t pc = line (get_or t.op pc 0) (get_or t.from pc 0) (get_or t.arg pc 0) (get_or t.mat pc 0) (get_or t.con pc (pos 0))

pub record Sized (t : Columns) : Type 0 where
  pub op : length t.op ≡ entries
  pub from : length t.from ≡ entries
  pub arg : length t.arg ≡ entries
  pub mat : length t.mat ≡ entries
  pub con : length t.con ≡ entries

sized_written : (pc : ℕ) (l : Line) (t : Columns) → Sized t → Sized (written pc l t)
unfolding written
sized_written pc l t s = record {
  op = length-set t.op pc l.op ∙ s.op;
  from = length-set t.from pc l.from ∙ s.from;
  arg = length-set t.arg pc l.arg ∙ s.arg;
  mat = length-set t.mat pc l.mat ∙ s.mat;
  con = length-set t.con pc l.con ∙ s.con;
}

written_same : (pc : ℕ) (l : Line) (t : Columns) → Sized t → pc < entries → line_in (written pc l t) pc ≡ l
unfolding written line_in
written_same pc l t s h =
    rw (
      get_or-set_same t.op pc l.op 0 (omega arith),
      get_or-set_same t.from pc l.from 0 (omega arith),
      get_or-set_same t.arg pc l.arg 0 (omega arith),
      get_or-set_same t.mat pc l.mat 0 (omega arith),
      get_or-set_same t.con pc l.con (pos 0) (omega arith),
    )

written_other : (pc j : ℕ) (l : Line) (t : Columns) → (j ≡ pc → ⊥) → line_in (written pc l t) j ≡ line_in t j
unfolding written line_in
written_other pc j l t h =
    rw (
      get_or-set_other t.op pc j l.op 0 h,
      get_or-set_other t.from pc j l.from 0 h,
      get_or-set_other t.arg pc j l.arg 0 h,
      get_or-set_other t.mat pc j l.mat 0 h,
      get_or-set_other t.con pc j l.con (pos 0) h,
    )

-- Before and after the lines every entry is what it was.
pub laid_before : (pc : ℕ) (ls : List Line) (t : Columns) (j : ℕ) → j < pc → line_in (laid pc ls t) j ≡ line_in t j
unfolding laid
laid_before pc [] t j h = refl
laid_before pc (l ∷ ls) t j h = laid_before (suc pc) ls (written pc l t) j (omega arith) ∙ written_other pc j l t (λ e. omega arith)

pub laid_after : (pc : ℕ) (ls : List Line) (t : Columns) (j : ℕ) → pc + length ls ≤ j → line_in (laid pc ls t) j ≡ line_in t j
unfolding laid
laid_after pc [] t j h = refl
laid_after pc (l ∷ ls) t j h = laid_after (suc pc) ls (written pc l t) j (omega arith) ∙ written_other pc j l t (λ e. omega arith)

-- Each line reads back.
pub laid_line : (pc : ℕ) (ls : List Line) (t : Columns) (j : ℕ) → Sized t → pc + length ls ≤ entries → j < length ls → line_in (laid pc ls t) (pc + j) ≡ get_or ls j end_line
unfolding laid
laid_line pc [] t j s h l = absurd (omega arith)
laid_line pc (x ∷ ls) t zero s h l =
    let e : pc + 0 ≡ pc = omega arith in
    rw e (laid_before (suc pc) ls (written pc x t) pc (omega arith) ∙ written_same pc x t s (omega arith))
laid_line pc (x ∷ ls) t (suc j) s h l =
    let e : pc + suc j ≡ suc pc + j = omega arith in
    rw e (laid_line (suc pc) ls (written pc x t) j (sized_written pc x t s) (omega arith) (omega arith))

sized_laid : (pc : ℕ) (ls : List Line) (t : Columns) → Sized t → Sized (laid pc ls t)
unfolding laid
sized_laid pc [] t s = s
sized_laid pc (l ∷ ls) t s = sized_laid (suc pc) ls (written pc l t) (sized_written pc l t s)

laid_to : (pc : ℕ) (ls : List Line) (t : Columns) → (laid pc ls t).to ≡ t.to
unfolding laid written
laid_to pc [] t = refl
laid_to pc (l ∷ ls) t = laid_to (suc pc) ls (written pc l t)

-- ---- A table of zeros, as it is lent to the compiler: then every entry after the lines is an end too.

pub record Blank (t : Columns) : Type 0 where
  pub sized : Sized t
  pub ends : (pc : ℕ) → line_in t pc ≡ end_line
  pub tos : t.to ≡ replicate entries 0

zeros : ℕ → Columns
zeros n = columns (replicate n 0) (replicate n 0) (replicate n 0) (replicate n 0) (replicate n (pos 0)) (replicate n 0)

zeros_blank : (n : ℕ) → n ≡ entries → Blank (zeros n)
unfolding zeros line_in
zeros_blank n e = record {
  sized = record {
    op = length-replicate n 0 ∙ e;
    from = length-replicate n 0 ∙ e;
    arg = length-replicate n 0 ∙ e;
    mat = length-replicate n 0 ∙ e;
    con = length-replicate n (pos 0) ∙ e;
  };
  ends = λ pc. rw (get_d_same {A = ℕ} n pc 0, get_d_same n pc (pos 0));
  tos = rw e;
}

pub blank : Blank (columns_of no_lines)
unfolding zeros
blank = rw no_lines_lem (zeros_blank entries refl)

pub laid_blank : (ls : List Line) (t : Columns) → Blank t → length ls ≤ entries → (pc : ℕ) → line_in (laid 0 ls t) pc ≡ get_or ls pc end_line
laid_blank ls t b h pc = go (ltb pc (length ls)) refl
  where
    go : (s : Bool) → ltb pc (length ls) ≡ s → line_in (laid 0 ls t) pc ≡ get_or ls pc end_line
    go true l = let e : 0 + pc ≡ pc = omega arith in rw e at (laid_line 0 ls t pc b.sized (omega arith) (ltb-true pc (length ls) l))
    go false l =
        let g = ltb-false pc (length ls) l in
        laid_after 0 ls t pc (omega arith) ∙ b.ends pc ∙ sym (get_or-eq_default ls end_line g)

-- ---- The slots numbered: the line at a place, with its slot's number in `arg` if it has one.

unfoldable with_slot : (slot : ℕ) → Line → Line
with_slot s l = line l.op l.from (over s l.arg) l.mat l.con

-- The instructions read back from their array.
ops_in_lem : (op : List ℕ) (pc : ℕ) (ls : List Line) → ((j : ℕ) → j < length ls → get_or op (pc + j) 0 ≡ (get_or ls j end_line).op) → ops_in op pc (length ls) ≡ ops_of ls
unfolding ops_in ops_of
ops_in_lem op pc [] h = refl
ops_in_lem op pc (l ∷ ls) h =
    let e : pc + 0 ≡ pc = omega arith in
    let a : get_or op pc 0 ≡ l.op = rw e at (h 0 (omega arith)) in
    rw (a, ops_in_lem op (suc pc) ls (λ j g. let f : pc + suc j ≡ suc pc + j = omega arith in rw f at (h (suc j) (omega arith))))

bindings_are : (ls : List Line) → bindings_in (ops_of ls) ≡ variables_in ls
unfolding bindings_in ops_of variables_in
bindings_are [] = refl
bindings_are (l ∷ ls) = let h = bindings_are ls in omega arith

ops_laid : (ls : List Line) (t : Columns) → Sized t → length ls ≤ entries → ops_in (laid 0 ls t).op 0 (length ls) ≡ ops_of ls
unfolding line_in
ops_laid ls t s h = ops_in_lem (laid 0 ls t).op 0 ls (λ j l. ap (λ x. x.op) (laid_line 0 ls t j s (omega arith) l))

ops_at : (ls : List Line) (j : ℕ) → get_or (ops_of ls) j 0 ≡ (get_or ls j end_line).op
unfolding ops_of
ops_at [] j = refl
ops_at (l ∷ ls) zero = refl
ops_at (l ∷ ls) (suc j) = ops_at ls j

module _ (ls : List Line) (t : Columns) (b : Blank t) (h : length ls ≤ entries) where
  arg_is : (pc : ℕ) → get_or (numbered (length ls) (laid 0 ls t)).arg pc 0 ≡ over (slot_at 16 0 (ops_of ls) pc) (get_or (laid 0 ls t).arg pc 0)
  unfolding numbered named
  arg_is pc =
      let e = ops_length ls in
      let f = (sized_laid 0 ls t b.sized).arg in
      let z : 0 + pc ≡ pc = omega arith in
      rw (ops_laid ls t b.sized h) (rw z at (slotted_at 0 16 0 (ops_of ls) (laid 0 ls t).arg (omega arith) (omega arith) pc))

  numbered_blank : (pc : ℕ) → line_in (numbered (length ls) (laid 0 ls t)) pc ≡ with_slot (slot_at 16 0 (ops_of ls) pc) (get_or ls pc end_line)
  unfolding line_in with_slot numbered named
  numbered_blank pc =
      let T = laid 0 ls t in
      ap (λ a. line (get_or T.op pc 0) (get_or T.from pc 0) a (get_or T.mat pc 0) (get_or T.con pc (pos 0))) (arg_is pc)
      ∙ ap (with_slot (slot_at 16 0 (ops_of ls) pc)) (laid_blank ls t b h pc)

-- A line with a slot names no variable, so that it means what it meant.
means_slot : {ms : List ℤ} {vars to : ℕ} {i : Instr} (s : ℕ) (l : Line) → (2 ≤ l.op → l.op ≤ 7 → s ≡ 0) → Means ms vars l to i → Means ms vars (with_slot s l) to i
unfolding with_slot
means_slot s l h (means_end e) = means_end e
means_slot s l h (means_strip e) = means_strip e
means_slot s l h (means_drop e) = means_drop e
means_slot s l h (means_bind e) = rw (over_none s l.arg (h (omega arith) (omega arith))) (means_bind e)
means_slot s l h (means_constant e) = means_constant e
means_slot s l h (means_integer e) = rw (over_none s l.arg (h (omega arith) (omega arith))) (means_integer e)
means_slot s l h (means_value m e f a) = rw (over_none s l.arg (h (omega arith) (omega arith))) (means_value m e f a)
means_slot s l h (means_nil m e) = means_nil m e
means_slot s l h (means_list m e) = means_list m e
means_slot s l h (means_multiset m e a) = means_multiset m e a
means_slot s l h (means_join m e) = means_join m e
means_slot s l h (means_tuple n e d) = means_tuple n e d
means_slot s l h (means_keep e) = means_keep e
means_slot s l h (means_choice e) = means_choice e
means_slot s l h (means_deny e) = means_deny e
means_slot s l h (means_cut e) = means_cut e
means_slot s l h (means_other e) = means_other e
means_slot s l h (means_close e) = means_close e

-- ---- The arrays hold the rule's program, and `vars` is the number of its variables.

pub record Holds (ms : List ℤ) (r : Rule) (vars : ℕ) (t : Columns) : Type 0 where
  pub means : (pc : ℕ) → pc ≤ instrs r.pattern r.matcher → Means ms vars (line_in t pc) (get_or t.to pc 0) (program r.matcher r.pattern pc)
  pub after : (pc : ℕ) → instrs r.pattern r.matcher < pc → line_in t pc ≡ end_line
  -- Its slot is that of an earlier line or 0.
  pub from : (pc : ℕ) → (line_in t pc).from ≤ pc
  -- There are 272 numbers, and the first 16 are the variables'.
  pub number : (pc : ℕ) → (line_in t pc).arg < 272
  pub variable : (pc : ℕ) → 2 ≤ (line_in t pc).op → (line_in t pc).op ≤ 7 → (line_in t pc).arg < 16
  -- A line that divides has a slot of its own, and a tuple's one for each part that waits.
  pub own : (pc : ℕ) → 8 ≤ (line_in t pc).op → (line_in t pc).op ≤ 16 → Own t.arg pc
  pub part : (pc k : ℕ) → 11 + k ≤ (line_in t pc).op → (line_in t pc).op ≤ 13 → Own t.arg (pc + k)
  pub low : (pc : ℕ) → get_or t.to pc 0 ≤ 640
  pub reserved : (pc k : ℕ) → 0 < k → 11 + k ≤ (line_in t pc).op → (line_in t pc).op ≤ 13 → (line_in t (pc + k)).op ≡ 1
  pub last : instrs r.pattern r.matcher ≤ 639
  pub few : vars ≤ 16
  -- There is a constant for each line.
  pub long : length t.con ≡ entries

-- What the compiler leaves in the table, if the rule is accepted.
module _ (ms ps : List ℤ) (r : Rule) (a : rule_of ms ps ≡ accepted r) (t : Columns) (b : Blank t) where
  abbrev L : List Line
  L = lines_of ms ps

  abbrev T : Columns
  T = linked_in (length (lines_of ms ps)) (numbered (length (lines_of ms ps)) (laid 0 (lines_of ms ps) t))

  fits : length (lines_of ms ps) ≤ entries
  fits = let w = (rule_accepted ms ps r).0 a in let n = lines_length ms ps r w in let l = program_fits ms ps r w in omega arith

  slots_are : (pc : ℕ) → line_in T pc ≡ with_slot (slot_at 16 0 (ops_of L) pc) (get_or L pc end_line)
  unfolding line_in linked_in aimed
  slots_are = numbered_blank L t b fits

  op_same : T.op ≡ (laid 0 L t).op
  unfolding linked_in aimed numbered named
  op_same = refl

  ops_are : ops_in T.op 0 (length L) ≡ ops_of L
  ops_are = rw op_same (ops_laid L t b.sized fits)

  tos_are : T.to ≡ placed 0 (tos_of L) (replicate entries 0)
  unfolding linked_in aimed numbered named tos_of
  tos_are = rw (ops_laid L t b.sized fits, laid_to 0 L t, b.tos)

  constants_are : length T.con ≡ entries
  unfolding linked_in aimed numbered named
  constants_are = (sized_laid 0 L t b.sized).con

  -- The instruction is the line's.
  op_is : (pc : ℕ) → get_or (ops_of L) pc 0 ≡ (line_in T pc).op
  unfolding with_slot
  op_is pc = ops_at L pc ∙ sym (ap (λ (l : Line). l.op) (slots_are pc))

  args_are : (pc : ℕ) → get_or T.arg pc 0 ≡ over (slot_at 16 0 (ops_of L) pc) (get_or L pc end_line).arg
  unfolding line_in with_slot
  args_are pc = ap (λ (l : Line). l.arg) (slots_are pc)

  small : (pc : ℕ) → (get_or L pc end_line).arg < 16
  small pc = (line_small ms ps pc).arg

  short : slots_in 0 (ops_of L) ≤ 255
  short = slots_few ms ps r a

  owns : (pc : ℕ) → 0 < slot_at 16 0 (ops_of L) pc → Own T.arg pc
  owns = number_own (ops_of L) T.arg (λ j. (get_or L j end_line).arg) args_are small short

  number_is : (pc : ℕ) → (line_in T pc).arg < 272
  unfolding line_in
  number_is = number_few (ops_of L) T.arg (λ j. (get_or L j end_line).arg) args_are small short

  variable_is : (pc : ℕ) → 2 ≤ (line_in T pc).op → (line_in T pc).op ≤ 7
      → (line_in T pc).arg < 16
  unfolding line_in
  variable_is pc h d =
      let o = op_is pc in
      let q = ops_at L pc in
      let e = over_none (slot_at 16 0 (ops_of L) pc) (get_or L pc end_line).arg (slots_plain ms ps 16 pc (omega arith) (omega arith)) in
      let s = small pc in
      let g = args_are pc in
      omega arith

  reserved_is : (pc k : ℕ) → 0 < k → 11 + k ≤ (line_in T pc).op → (line_in T pc).op ≤ 13
      → (line_in T (pc + k)).op ≡ 1
  unfolding Reserved
  reserved_is pc k z h d =
      let o = op_is pc in
      let q = ops_at L pc in
      sym (op_is (pc + k)) ∙ ops_at L (pc + k) ∙ line_reserved ms ps pc k z (omega arith) (omega arith)

  part_is : (pc k : ℕ) → 11 + k ≤ (line_in T pc).op → (line_in T pc).op ≤ 13
      → Own T.arg (pc + k)
  part_is pc k h d =
      let o = op_is pc in
      owns (pc + k) (slot_part 16 0 (ops_of L) pc k (omega arith) (omega arith) (omega arith) (λ i z g. op_is (pc + i) ∙ reserved_is pc i z (omega arith) d))

  pub compiled : Holds ms r (variables_in (lines_of ms ps)) T
  unfolding with_slot
  compiled =
      let w = (rule_accepted ms ps r).0 a in
      let n = lines_length ms ps r w in
      let l = program_fits ms ps r w in
      let m = tos_length L in
      let at = placed_zeros entries (tos_of L) (omega arith) in
      record {
        means = λ pc h. rw (slots_are pc, tos_are, at pc) (means_slot (slot_at 16 0 (ops_of L) pc) (get_or L pc end_line) (slots_plain ms ps 16 pc) (line_means ms ps r w pc h (get_or (tos_of L) pc 0) (link_leads ms ps r w pc h)));
        after = λ pc h.
            let q = ops_length L in
            slots_are pc ∙ rw (get_or-eq_default L end_line {n = pc} (omega arith), slot_after_lem 16 0 (ops_of L) pc (omega arith), over_none 0 0 refl);
        from = λ pc. rw (slots_are pc) (line_small ms ps pc).from;
        number = number_is;
        variable = variable_is;
        own = λ pc h d. let o = op_is pc in owns pc (slot_own 16 0 (ops_of L) pc (omega arith) (omega arith) (omega arith));
        part = part_is;
        low = λ pc. let h = tos_low L pc in rw (tos_are, at pc) (omega arith);
        reserved = reserved_is;
        last = l;
        few = few_variables ms ps r w;
        long = constants_are;
      }

-- The same, as a caller has it that lent a table of zeros.
pub compiled_zeros : (ms ps : List ℤ) (r : Rule) → rule_of ms ps ≡ accepted r → (vars : ℕ) (t : Columns)
    → vars ≡ bindings_in (ops_in t.op 0 (length (lines_of ms ps)))
    → t ≡ linked_in (length (lines_of ms ps)) (numbered (length (lines_of ms ps)) (laid 0 (lines_of ms ps) (columns_of no_lines))) → Holds ms r vars t
compiled_zeros ms ps r a vars t e g =
    let o : ops_in t.op 0 (length (lines_of ms ps)) ≡ ops_of (lines_of ms ps) = rw g (ops_are ms ps r a (columns_of no_lines) blank) in
    let v : vars ≡ variables_in (lines_of ms ps) = e ∙ ap bindings_in o ∙ bindings_are (lines_of ms ps) in
    rw (v, g) (compiled ms ps r a (columns_of no_lines) blank)
