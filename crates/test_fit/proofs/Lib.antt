-- What the proofs of test 4 use.
pub mod Stack
pub mod Tags
pub mod Steps
pub mod Walked
