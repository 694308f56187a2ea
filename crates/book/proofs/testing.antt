-- What the test of a book uses.
pub mod Finding
pub mod Walking
