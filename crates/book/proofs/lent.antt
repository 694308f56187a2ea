-- What cutting the lent bytes into blocks uses.
pub mod Chunks
