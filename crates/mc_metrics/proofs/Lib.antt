pub mod AtNumbers
pub mod Furthest
pub mod LabelLists
pub mod Samples
pub mod Seconds
