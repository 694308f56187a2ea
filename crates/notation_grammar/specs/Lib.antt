-- That the reader's code takes up the tokens as the notation's grammar does. Main in proofs/ states it.
pub mod Over
pub mod Waits
pub mod Acts
pub mod Closes
pub mod One
pub mod Figures
pub mod Shapes
pub mod Steps
pub mod UnitSteps
pub mod MatcherSteps
pub mod PatternSteps
pub mod Ranges
pub mod Names
pub mod Resolves
pub mod Written
pub mod Main
