-- What the trial program reads, to be read in this order.
pub mod Question
-- What the code's own answers stand for.
pub mod Meaning
