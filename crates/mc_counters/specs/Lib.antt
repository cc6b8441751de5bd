pub mod Kinds
pub mod Steps
pub mod Tallied
