-- What the proofs of test 3 use.
pub mod Walked
pub mod Steps
