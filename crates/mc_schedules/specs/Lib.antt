pub mod Command
pub mod Line
pub mod Place
pub mod Schedule
pub mod Draft
pub mod Needed
pub mod Doing
pub mod Report
