pub mod Held
pub mod Places
