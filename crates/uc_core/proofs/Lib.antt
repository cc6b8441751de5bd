mod Rows
mod CoreRows
mod Lookups
mod Retrieved
mod Moves
mod Entries
mod Replays
pub mod CoreLaws
pub mod Runs
mod Answered
mod Once
mod Agreement
mod Worlds
pub mod OneWay
mod Soon
mod Marks
mod OwnRound
mod Sharp
mod Later
mod Each
pub mod Workers
pub mod Opened
mod Enabled
mod Leads
mod Alone
mod Asked
pub mod Shows
mod Ties
mod Followed
