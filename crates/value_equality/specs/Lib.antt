-- Equality of held values.
pub mod Equality
pub mod Levels
