-- What the proofs of printing an answer use.
pub mod Laws
