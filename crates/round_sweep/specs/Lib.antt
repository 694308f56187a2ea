-- A round over the lent table, list after list.
pub mod Frames
pub mod Pulls
pub mod Rests
pub mod Turns
