-- What the bytes of numbers are.
pub mod Numbers
