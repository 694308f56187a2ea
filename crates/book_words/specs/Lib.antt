-- What the leaves on the words of a book compute.
pub mod Halves
