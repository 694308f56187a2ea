pub mod Forest
pub mod Elements
pub mod Counting
pub mod Ends
pub mod Filling
pub mod Held
pub mod Origins
pub mod Accepted
