-- What the total uses.
pub mod Counting
