-- The other search order of document 02, No. 10: Rounds has the definitions, Worked cases computed from them. What is promised stands in round_promises.
pub mod Rounds
pub mod Worked
