-- What the proofs on shapes use, and those of the tests 4 and 6.
pub mod Standing
pub mod Steps
pub mod Shaped
