pub mod Refusals
pub mod Picks
pub mod Testing
pub mod Reviews
pub mod Matches
