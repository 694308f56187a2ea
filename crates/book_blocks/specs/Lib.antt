-- What a block's functions compute.
pub mod Heads
pub mod Faults
