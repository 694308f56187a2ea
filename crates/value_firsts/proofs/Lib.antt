-- What the proofs of the first places use.
pub mod Differing
pub mod Last
pub mod Laws
pub mod Freshly
