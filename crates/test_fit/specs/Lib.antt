-- The machine's view of shapes and of test 4.
pub mod Fitting
pub mod Following
pub mod Shapes
