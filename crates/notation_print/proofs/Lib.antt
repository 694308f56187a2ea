-- What the proofs of printing use.
pub mod Laws
