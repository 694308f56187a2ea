use Prim.Native.Nat.{ℕ, ◌+◌, ◌<◌, ◌≤◌}
use mathlib.Core.Path.{◌≡◌, sym, subst, ap, ◌∙◌}
use mathlib.Core.List.{List}
use lib.ListN.{length, get_or}
use lib.IntN.{ℤ}
use borrow.Author.Tests.{eqb-true, eqb-false}
use Rattle.words.specs.Words.{tag_at, entries}
use Rattle.tables.specs.Line.{Columns, columns_of}
use Rattle.program_rules.specs.Lines.{op_of, operands_of}
use Rattle.program_rules.specs.Stack.{Stack, stack, popped}
use Rattle.program_parts.specs.Parts.{stack_of}
use Rattle.program.specs.declared.lay.Cursor.{Cursor}
use Rattle.program.specs.Pass.{Outcome, cursor, Waits, outcome_of}
use Rattle.program.proofs.Turns.{Tagged, slot_asks, skip_fits, under_asks, divide_asks, split_returns, leaf_asks, close_asks, closes, done, pop_asks, leaf_returns}
use Rattle.program.proofs.lay.lay_next.Goals as goal

-- What is known of the tag at the cursor, by what the code has read of it.
tagged : {m p : List ℤ} (w : Stack) (c : Cursor) (t : Columns) {k o n i x : ℕ} → length m ≤ 64 → length p ≤ 256 → c.at < length p → Waits w c → (outcome_of m p w c t).lines < entries
    → i ≡ c.i → k ≡ tag_at m i → x ≡ tag_at p c.at → o ≡ op_of x k → n ≡ operands_of o → Tagged m p w.under w.slots w.behind (cursor c.at c.pc w.depth c.i) t k o n
tagged w c t f g h v l e a q d r = record { fits = v; brief = f; short = g; inside = h; under = cc; op = cc; skip = r; low = l }

-- What holds of a stack holds of the one that the code has.
moved : (m p : List ℤ) (c : Cursor) (t : Columns) (x : Outcome) (w w' : Stack) → w' ≡ w → Waits w c × (outcome_of m p w c t ≡ x) → Waits w' c × (outcome_of m p w' c t ≡ x)
moved m p c t x w w' e = subst (λ (v : Stack). Waits v c × (outcome_of m p v c t ≡ x)) (sym e)

pub overflow_add-next : goal.overflow_add-next
overflow_add-next c = skip_fits (tagged (stack_of c.args.parts.now) c.args.c (columns_of c.args.lines.now) c.args.m.brief c.args.p.short c.requires.inside c.requires.within c.requires.low c.from.ensures c.tag_at-k.ensures c.tag_at.ensures c.op_of-o.ensures c.operands.ensures)

pub slot_by-requires : goal.slot_by-requires
slot_by-requires c = slot_asks (tagged (stack_of c.args.parts.now) c.args.c (columns_of c.args.lines.now) c.args.m.brief c.args.p.short c.requires.inside c.requires.within c.requires.low c.from.ensures c.tag_at-k.ensures c.tag_at.ensures c.op_of-o.ensures c.operands.ensures)

pub second_under-requires : goal.second_under-requires
second_under-requires c = under_asks (tagged (stack_of c.args.parts.now) c.args.c (columns_of c.args.lines.now) c.args.m.brief c.args.p.short c.requires.inside c.requires.within c.requires.low c.from.ensures c.tag_at-k.ensures c.tag_at.ensures c.op_of-o.ensures c.operands.ensures) c.if-o-gt-NIL.true

pub first_under-j-requires : goal.first_under-j-requires
first_under-j-requires c = under_asks (tagged (stack_of c.args.parts.now) c.args.c (columns_of c.args.lines.now) c.args.m.brief c.args.p.short c.requires.inside c.requires.within c.requires.low c.from.ensures c.tag_at-k.ensures c.tag_at.ensures c.op_of-o.ensures c.operands.ensures) c.if-o-gt-NIL.true

pub divide-requires : goal.divide-requires
divide-requires c = let r = divide_asks (tagged (stack_of c.args.parts.now) c.args.c (columns_of c.args.lines.now) c.args.m.brief c.args.p.short c.requires.inside c.requires.within c.requires.low c.from.ensures c.tag_at-k.ensures c.tag_at.ensures c.op_of-o.ensures c.operands.ensures) c.if-o-gt-NIL.true _ c.reserved-e.ensures in
    record { lines = r.0; instruction = r.1 }

pub returns-then-o-gt-NIL : goal.returns-then-o-gt-NIL
returns-then-o-gt-NIL c = let T = tagged (stack_of c.args.parts.now) c.args.c (columns_of c.args.lines.now) c.args.m.brief c.args.p.short c.requires.inside c.requires.within c.requires.low c.from.ensures c.tag_at-k.ensures c.tag_at.ensures c.op_of-o.ensures c.operands.ensures in
    let r = split_returns T c.if-o-gt-NIL.true _ c.reserved-e.ensures _ _ _ _ _ _ _ c.first_under-j.ensures c.second_under.ensures (rw c.top-f.ensures.slot at c.slot_by.ensures) c.behind_by.ensures (rw c.top-f.ensures.slot at c.from_by.ensures) c.divide.ensures.value c.divide.ensures.lines in
    let v = moved c.args.m.words.now c.args.p.words.now (record { at = c.args.c.at + 1 + c.operands.result; pc = c.divide.result; i = c.first_under-j.result }) _ _ _ _ c.push.ensures r.1 in
    record { further = r.0; within = v.0; same = v.1 }

pub leaf-q-requires-clause-next_line : goal.leaf-q-requires-clause-next_line
leaf-q-requires-clause-next_line c = leaf_asks (tagged (stack_of c.args.parts.now) c.args.c (columns_of c.args.lines.now) c.args.m.brief c.args.p.short c.requires.inside c.requires.within c.requires.low c.from.ensures c.tag_at-k.ensures c.tag_at.ensures c.op_of-o.ensures c.operands.ensures) c.if-o-gt-NIL.false

pub close-end-requires-clause-room : goal.close-end-requires-clause-room
close-end-requires-clause-room c = (close_asks (tagged (stack_of c.args.parts.now) c.args.c (columns_of c.args.lines.now) c.args.m.brief c.args.p.short c.requires.inside c.requires.within c.requires.low c.from.ensures c.tag_at-k.ensures c.tag_at.ensures c.op_of-o.ensures c.operands.ensures) c.if-o-gt-NIL.false _ _ c.leaf-q.ensures.value (rw c.top-f.ensures.slot at c.leaf-q.ensures.lines)).1.1

pub returns-then-is_empty : goal.returns-then-is_empty
returns-then-is_empty c = let T = tagged (stack_of c.args.parts.now) c.args.c (columns_of c.args.lines.now) c.args.m.brief c.args.p.short c.requires.inside c.requires.within c.requires.low c.from.ensures c.tag_at-k.ensures c.tag_at.ensures c.op_of-o.ensures c.operands.ensures in
    let C = closes T c.if-o-gt-NIL.false _ _ c.leaf-q.ensures.value (rw c.top-f.ensures.slot at c.leaf-q.ensures.lines) _ _ _ c.close-end.ensures.place c.close-end.ensures.depth c.close-end.ensures.laid in
    let z = eqb-true _ _ (sym c.is_empty.ensures ∙ c.if-is_empty.true) in
    let r = done C z in
    let v = moved c.args.m.words.now c.args.p.words.now (record { at = length c.args.p.words.now; pc = c.close-end.result; i = 0 }) _ _ _ _ (c.close-end.ensures.same ∙ ap (stack _ _ _) z) r.1 in
    record { further = r.0; within = v.0; same = v.1 }

pub other-pc-requires : goal.other-pc-requires
other-pc-requires c = let T = tagged (stack_of c.args.parts.now) c.args.c (columns_of c.args.lines.now) c.args.m.brief c.args.p.short c.requires.inside c.requires.within c.requires.low c.from.ensures c.tag_at-k.ensures c.tag_at.ensures c.op_of-o.ensures c.operands.ensures in
    let C = closes T c.if-o-gt-NIL.false _ _ c.leaf-q.ensures.value (rw c.top-f.ensures.slot at c.leaf-q.ensures.lines) _ _ _ c.close-end.ensures.place c.close-end.ensures.depth c.close-end.ensures.laid in
    C.low

pub pop-requires-clause-low : goal.pop-requires-clause-low
pop-requires-clause-low c = let T = tagged (stack_of c.args.parts.now) c.args.c (columns_of c.args.lines.now) c.args.m.brief c.args.p.short c.requires.inside c.requires.within c.requires.low c.from.ensures c.tag_at-k.ensures c.tag_at.ensures c.op_of-o.ensures c.operands.ensures in
    let C = closes T c.if-o-gt-NIL.false _ _ c.leaf-q.ensures.value (rw c.top-f.ensures.slot at c.leaf-q.ensures.lines) _ _ _ c.close-end.ensures.place c.close-end.ensures.depth c.close-end.ensures.laid in
    subst (λ (x : ℕ). x < 1000) (sym (ap (λ (w : Stack). get_or w.slots w.depth 0) c.close-end.ensures.same)) (pop_asks C (eqb-false _ _ (sym c.is_empty.ensures ∙ c.if-is_empty.false))).1.2

pub returns : goal.returns
returns c = let T = tagged (stack_of c.args.parts.now) c.args.c (columns_of c.args.lines.now) c.args.m.brief c.args.p.short c.requires.inside c.requires.within c.requires.low c.from.ensures c.tag_at-k.ensures c.tag_at.ensures c.op_of-o.ensures c.operands.ensures in
    let C = closes T c.if-o-gt-NIL.false _ _ c.leaf-q.ensures.value (rw c.top-f.ensures.slot at c.leaf-q.ensures.lines) _ _ _ c.close-end.ensures.place c.close-end.ensures.depth c.close-end.ensures.laid in
    let n = c.top-top.ensures.behind ∙ ap (λ (w : Stack). get_or w.behind w.depth 0) c.close-end.ensures.same in
    let i = c.top-top.ensures.under ∙ ap (λ (w : Stack). get_or w.under w.depth 0) c.close-end.ensures.same in
    let r = leaf_returns C (eqb-false _ _ (sym c.is_empty.ensures ∙ c.if-is_empty.false)) _ _ (rw n at c.other-pc.ensures.value) (rw n at c.other-pc.ensures.lines) _ _ _ _ (c.pop.ensures ∙ ap (popped c.args.m.words.now) c.close-end.ensures.same) in
    record { further = r.0; within = rw i r.1.0; same = rw i r.1.1 }
