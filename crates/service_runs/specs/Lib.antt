pub mod Going
pub mod Kept
pub mod Opens
