-- The contracts of the code leave nothing open, and what is printed are the rows of the good ways: theorems over the definitions that the contracts cite. (The trial program's: `unique` in text.)
pub mod Services
pub mod Border
pub mod Lines
pub mod Rooms
pub mod WorkedRooms
pub mod Books
pub mod Runs
