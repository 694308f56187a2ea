-- What the proofs of test 1 use.
pub mod Laws
pub mod Steps
