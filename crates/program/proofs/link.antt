-- What the proofs of several functions use.
pub mod Pass
pub mod Loops
