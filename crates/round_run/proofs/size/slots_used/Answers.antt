use Rattle.round_run.proofs.Sizes.{scan_none, scan_next, scan_below, scan_all}
use Rattle.round_run.proofs.size.slots_used.Goals as goal

pub loop-pc-init : goal.loop-pc-init
loop-pc-init c = scan_none _

pub wider-u-requires : goal.wider-u-requires
wider-u-requires c = (c.loop-pc.invariant.most, scan_below _ _ _ _ c.loop-pc.invariant c.requires c.arg_at-a.ensures)

pub loop-pc-preserved : goal.loop-pc-preserved
loop-pc-preserved c = scan_next _ _ _ _ _ c.loop-pc.invariant c.arg_at-a.ensures c.wider-u.ensures.0 c.wider-u.ensures.1.0 c.wider-u.ensures.1.1

pub returns : goal.returns
returns c = scan_all _ _ _ c.loop-pc.invariant c.loop-pc-test.false
