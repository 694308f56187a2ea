-- What the tests in their order answer.
pub mod Judgements
