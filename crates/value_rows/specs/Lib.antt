-- The values that the variables are bound to.
pub mod Row
