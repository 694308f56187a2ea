-- The machine's view of test 6.
pub mod Unfit
