-- What the proof of the tag table uses.
pub mod Laws
