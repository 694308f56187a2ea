-- Rows: the laws of the code, and those that the crates above use.
pub mod Room
pub mod Halves
pub mod Row
