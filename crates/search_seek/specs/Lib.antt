-- The definitions that this layer cites.
pub mod Asked
pub mod Pairs
pub mod Passed
