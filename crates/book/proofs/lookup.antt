-- What reading uses.
pub mod Rules
