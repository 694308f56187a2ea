-- What the tests 1 and 2 answer, and the machine's view of each.
pub mod Tests
pub mod Ends
pub mod Matchers
pub mod Table
pub mod Patterns
