-- The calls on a rule book.
pub mod Calls
