-- The machine's view of test 3.
pub mod Variables
