-- The eight bytes of a number, one after the other.
pub mod Laws
