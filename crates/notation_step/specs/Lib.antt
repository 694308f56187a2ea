-- What the contracts of the automaton cite, and how far a step goes.
pub mod Stepped
pub mod Bounds
