-- What an add uses.
pub mod Refusals
pub mod Adds
