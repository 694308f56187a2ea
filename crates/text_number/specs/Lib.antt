-- Numbers as text: what they write, and what a word is.
pub mod Decimal
pub mod Word
