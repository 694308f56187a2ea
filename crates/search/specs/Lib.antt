-- The definitions that this layer cites.
pub mod Plain
pub mod Narrow
pub mod Run
pub mod Stops
pub mod Told
pub mod Valid
pub mod Meaning
pub mod Searched
