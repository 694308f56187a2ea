-- What the trial program prints, to be read in this order.
pub mod Decimal
pub mod Rows
-- What the code's own answers stand for.
pub mod Meaning
pub mod Cut
