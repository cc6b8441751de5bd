pub mod Answered
pub mod Beginnings
pub mod Following
mod ListRows
pub mod LogEnds
pub mod Openings
pub mod Owings
pub mod Reported
pub mod Served
mod Rows
pub mod Waited
