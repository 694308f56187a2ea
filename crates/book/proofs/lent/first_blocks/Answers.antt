use native.Mathlib.Omega.{arith}
use Rattle.book.proofs.lent.Chunks.{chunks_are}
use Rattle.book.proofs.lent.first_blocks.Goals as goal

pub returns : goal.returns
returns c = chunks_are _ _ _ _ c.as_chunks.ensures.front (omega arith)
