-- Whether everybody passes a rule, and review's count, over the lines of a program: to be read in this order.
pub mod Scan
pub mod Plain
pub mod Tally
pub mod Pile
