use Prim.Native.Nat.{◌+◌, ◌-◌}
use native.Mathlib.Omega.{arith}
use mathlib.Core.Path.{◌≡◌}
use Rattle.program.proofs.link.Loops.{passing_plain, linking_rules}
use Rattle.program.proofs.link.link.Goals as goal

pub loop-pc-preserved : goal.loop-pc-preserved
loop-pc-preserved c = let z : c.loop-pc.pc - 1 + 1 ≡ c.loop-pc.pc = omega (arith, c.loop-pc-test.true) in
    passing_plain _ _ _ _ _ _ _ c.loop-pc.invariant c.loop-pc-test.true _ _ c.op_at-o.ensures c.counted-n.ensures _ c.if-o-ge-OR.false (rw z at c.put_to.ensures)

pub returns : goal.returns
returns c = search linking_rules
