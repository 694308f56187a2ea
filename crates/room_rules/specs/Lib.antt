-- How many rows a rule can have, and the words of room that suffice for them.
pub mod Rooms
