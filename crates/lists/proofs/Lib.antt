pub mod Public
pub mod Parts
