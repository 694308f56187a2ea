-- What the proofs of reading lines use.
pub mod Laws
