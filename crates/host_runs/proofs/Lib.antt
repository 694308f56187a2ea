-- The calls on a lent run, as the code asks for them.
pub mod Calls
