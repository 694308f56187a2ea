-- What the proofs of several functions use.
pub mod Words
pub mod Ends
pub mod Laws
pub mod Rows
