pub mod Laws
pub mod Outs
