pub mod Core
pub mod Step
pub mod Run
pub mod Headline
pub mod Asked
pub mod Kept
pub mod Fields
pub mod Showing
