pub mod CoreRun
pub mod Over
pub mod Counts
pub mod Workers
