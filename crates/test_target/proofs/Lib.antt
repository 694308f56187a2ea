-- What the proofs of test 5 use.
pub mod Values
pub mod Looks
pub mod Steps
pub mod Runs
