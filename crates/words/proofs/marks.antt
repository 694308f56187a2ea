pub mod Places
pub mod Fronts
pub mod Asked
pub mod Marked
