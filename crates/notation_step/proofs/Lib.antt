-- What the proofs of the automaton use.
pub mod Laws
