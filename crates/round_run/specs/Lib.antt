-- The run by rounds over the lent table.
pub mod Sizes
pub mod Courses
pub mod Runs
