pub mod Sizes
pub mod Courses
pub mod Runs
