-- What the proofs of several modules use.
pub mod Pieces
