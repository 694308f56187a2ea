pub mod Views
pub mod Blocks
