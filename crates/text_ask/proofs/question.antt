-- What the proofs of reading an input use.
pub mod Laws
