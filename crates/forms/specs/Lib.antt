-- Laws of the definitions that the code's proofs rest on: what is written and read, equality, variables, faults. What is promised stands in promises, above the code.
pub mod Tests
pub mod Lists
pub mod Written
pub mod Paired
pub mod Pairing
pub mod Readers
pub mod Counted
pub mod ReadMatcher
pub mod ReadPattern
pub mod Wrong
pub mod Numbering
pub mod Origins
pub mod Faults
pub mod Also
