-- The rule book of document 02, No. 7: its definitions, and what is proved of them. Main in proofs/ states the promises; Sums, Blocks, Books and Bytes are what to believe.
pub mod Sums
pub mod Blocks
pub mod Books
pub mod Worked
pub mod Noticed
pub mod Bytes
pub mod Views
