-- What the proof of test 2 uses.
pub mod Walked
pub mod Steps
