pub mod Beginning
pub mod Halting
pub mod Handing
pub mod Returning
pub mod Running
