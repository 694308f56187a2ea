-- What writing a block uses.
pub mod Puts
