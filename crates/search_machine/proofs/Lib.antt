pub mod Fitting
pub mod Marked
pub mod Tests
pub mod Tuples
pub mod Choices
pub mod Instance
