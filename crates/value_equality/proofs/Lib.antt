-- Equality of held values: the laws of the code, and those that the crates above use.
pub mod First
pub mod Matchers
pub mod Marks
pub mod Comparing
pub mod Levels
pub mod Table
pub mod ByTag
pub mod Parts
pub mod Asking
pub mod Integers
