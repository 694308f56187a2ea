-- What the tests of one block use.
pub mod Forms
