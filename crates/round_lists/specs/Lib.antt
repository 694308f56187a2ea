-- What is kept of a list of states, and what is taken out.
pub mod Lists
pub mod Taken
