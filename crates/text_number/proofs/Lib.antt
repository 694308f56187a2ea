-- What the proofs of the crate use.
pub mod Laws
