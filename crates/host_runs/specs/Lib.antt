-- What the calls on a lent run give.
pub mod Runs
