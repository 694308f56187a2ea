-- Held values: what stands at an index of a target's words, and what is left of it by marks.
pub mod Places
pub mod Tables
pub mod Held
pub mod Origins
