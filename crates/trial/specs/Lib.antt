-- What the trial program sends to standard output.
pub mod Meaning
