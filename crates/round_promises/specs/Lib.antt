-- What the other search order promises: its words, and laws of them. Main in proofs/ has the statements.
pub mod Listed
pub mod Tree
pub mod Told
pub mod Permutations
pub mod Order
pub mod Passage
pub mod Runs
pub mod Whole
pub mod Siblings
