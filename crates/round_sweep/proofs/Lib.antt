pub mod Counts
pub mod Pulls
pub mod Rests
pub mod Turns
