-- What a withdrawal uses.
pub mod Changes
