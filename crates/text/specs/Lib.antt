-- What the trial program prints for an input, to be read in this order.
pub mod Printed
pub mod Example
-- What the code's own answers stand for.
pub mod Meaning
pub mod Unique
