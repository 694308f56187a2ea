-- The table of waiting states as entries, and the slots by their numbers.
pub mod Entries
pub mod Waiting
