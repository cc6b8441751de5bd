pub mod Beginnings
pub mod Rooms
mod Rows
