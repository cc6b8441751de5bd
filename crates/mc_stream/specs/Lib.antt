pub mod Event
pub mod Stream
pub mod Pushing
pub mod Memory
pub mod Standard
