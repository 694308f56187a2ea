-- The definitions that this layer cites.
pub mod Pass
