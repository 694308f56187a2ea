-- What the leaves on words and marks give.
pub mod Words
pub mod Marks
pub mod Marked
pub mod Dialects
