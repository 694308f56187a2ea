-- The sum over the lines is review's formula, and the code finds it.
pub mod Costs
pub mod Products
pub mod Counted
pub mod Pile
pub mod Sums
