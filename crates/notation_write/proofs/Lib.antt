-- What the proofs of writing use.
pub mod Laws
