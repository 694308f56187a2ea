-- What the other search order promises. Main has the statements; the other modules hold the proofs.
pub mod Told
pub mod Order
pub mod Runs
pub mod Answers
pub mod Whole
pub mod Main
