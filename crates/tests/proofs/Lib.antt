-- What the proofs of the ordered tests use, and what an answer says to the crates above.
pub mod Laws
pub mod Told
