pub mod Steady
pub mod Lending
pub mod First
