-- What the proofs of several functions use, here and above.
pub mod Same
pub mod Signed
pub mod Sums
