-- Matchers by the places of their tags in a matcher's words.
pub mod Places
