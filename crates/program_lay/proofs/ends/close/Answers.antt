use Rattle.program_lay.proofs.Closing.{ending_next, ending_place, ending_depth, ending_same, ending_laid}
use Rattle.program_lay.proofs.ends.close.Goals as goal

pub loop-end-preserved : goal.loop-end-preserved
loop-end-preserved c = ending_next _ _ _ _ _ _ _ c.loop-end.invariant c.requires.floor c.in-Some.end c.in-Some.ensures _ c.close_line.ensures

pub returns : goal.returns
returns c = let i = c.loop-end.invariant in
    let f = c.requires.floor in
    let o = c.in_default.ensures in
    record {
      place = ending_place _ _ _ _ _ _ _ i f o;
      depth = ending_depth _ _ _ _ _ _ _ i f o;
      same = ending_same _ _ _ _ _ _ _ i f o;
      laid = ending_laid _ _ _ _ _ _ _ i f o;
    }
