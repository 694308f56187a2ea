-- What a call of match by rounds gives.
pub mod Rounds
