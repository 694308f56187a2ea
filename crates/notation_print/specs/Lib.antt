-- What the contracts of printing cite.
pub mod Pages
pub mod Inks
pub mod Kinds
pub mod Pens
