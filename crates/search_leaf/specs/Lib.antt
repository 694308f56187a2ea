-- The definitions that this layer cites.
pub mod Told
pub mod Leaf
pub mod Lines
