use native.Mathlib.Omega.{arith}
use Rattle.book.proofs.lent.Chunks.{chunk_at}
use Rattle.book.proofs.lent.block_of.Goals as goal

pub returns : goal.returns
returns c = chunk_at _ _ _ _ _ c.as_chunks.ensures.front (omega arith)
