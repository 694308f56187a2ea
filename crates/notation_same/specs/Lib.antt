-- That the scanner's code gives the tokens of the notation. Main in proofs/ states it.
pub mod Chars
pub mod Steps
pub mod Scans
