-- What a test says, and what makes a run sound.
pub mod Tested
pub mod Sound
