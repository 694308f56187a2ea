-- What the proofs of several functions use, here and in the crates above.
pub mod After
pub mod Known
pub mod Rows
pub mod Turns
pub mod Slice
