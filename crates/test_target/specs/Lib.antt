-- What test 5 answers, and the machine's view of it.
pub mod Targets
