use Rattle.tables.specs.Line.{columns_of}
use Rattle.review_count.specs.Tally.{whole_sum, whole_product}
use Rattle.review_count.proofs.count.Sums.{Here}
use Rattle.review_count.proofs.count.tallied.Given as goal

abbrev pub invariant-loop-pc : goal.invariant-loop-pc
invariant-loop-pc l = Here (whole_sum l.cap.most (columns_of l.lines).op) (whole_product l.cap.most (columns_of l.lines).op) l.cap.most (columns_of l.lines).op l.waits l.depth l.total l.earlier l.last l.taken l.skip l.pc
