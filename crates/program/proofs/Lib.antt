-- What the proofs of several functions use.
pub mod Stack
pub mod Turns
pub mod Both
pub mod Numbering
