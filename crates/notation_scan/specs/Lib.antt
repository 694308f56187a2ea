-- What the contracts of the scanner cite.
pub mod Scanned
