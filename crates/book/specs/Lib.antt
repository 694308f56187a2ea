-- What the calls on a book compute, over the lent bytes.
pub mod Testing
pub mod Totals
pub mod Lookup
pub mod Changes
