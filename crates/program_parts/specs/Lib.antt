-- The parts that wait, as the definitions have them.
pub mod Parts
