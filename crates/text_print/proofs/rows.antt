-- What the proofs of printing rows use.
pub mod Laws
