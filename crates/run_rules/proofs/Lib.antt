-- Theorems that rest on the definitions of specs/.
pub mod Splits
pub mod Calls
pub mod Matches
pub mod Main
