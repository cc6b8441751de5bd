pub mod Splits
pub mod WordTests
pub mod Holdings
pub mod Lines
pub mod Steps
pub mod States
pub mod Sending
pub mod Exptimes
pub mod Lawful
pub mod Setting
pub mod Awaiting
mod Begun
mod Blocks
mod ExptimeNumbers
mod Feeding
mod Parts
mod Pullings
mod Rows
pub mod Readings
pub mod Texts
