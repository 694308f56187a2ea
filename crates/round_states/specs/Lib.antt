-- A configuration of the machine that stands for a list of waiting states of a round: Kept, what of it has to be kept; Branches, its first state taken up and its remainder.
pub mod Kept
pub mod Lines
pub mod Branches
pub mod Nots
pub mod Ruled
pub mod Taking
pub mod Up
pub mod Standing
pub mod Remains
pub mod Table
pub mod Outcomes
pub mod Counts
pub mod Sweeps
pub mod Rounding
