-- What the proofs of the leaves share.
pub mod Lines
pub mod Places
pub mod Slots
