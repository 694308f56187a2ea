-- What the proofs of test 6 use.
pub mod Steps
pub mod Runs
pub mod Fitted
pub mod Values
