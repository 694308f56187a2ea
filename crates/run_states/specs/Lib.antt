-- What a run holds between two advances: the states that wait.
pub mod Steps
pub mod Standing
