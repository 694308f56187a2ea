-- Theorems that rest on the definitions of specs/.
pub mod Sums
pub mod Noticed
pub mod Round
pub mod Sizes
pub mod Walks
pub mod Kept
pub mod Added
pub mod Withdrawn
pub mod Damaged
pub mod History
pub mod Main
