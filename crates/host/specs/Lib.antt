pub mod Border
pub mod Rooms
pub mod Books
