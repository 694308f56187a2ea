-- Theorems that rest on the definitions of specs/.
pub mod Steps
pub mod PatternReads
pub mod PatternHas
pub mod Endings
pub mod Simulates
pub mod ReadsText
pub mod Main
