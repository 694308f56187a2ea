-- What the proofs of the scanner use.
pub mod Laws
