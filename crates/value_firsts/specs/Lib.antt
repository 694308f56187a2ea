-- The first places of what is left of a collection.
pub mod Firsts
