-- What reading a block uses.
pub mod Rules
