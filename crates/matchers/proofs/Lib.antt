-- Matchers by the places of their tags: the laws that the crates above use.
pub mod Ends
pub mod Matchers
