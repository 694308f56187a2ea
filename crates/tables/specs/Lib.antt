-- What lies where in the tables of a run.
pub mod Section
pub mod Line
pub mod LineLaws
pub mod Place
pub mod PlaceLaws
pub mod Slot
pub mod SlotLaws
