pub mod Answering
pub mod Exposition
pub mod Gathering
pub mod Metrics
pub mod Page
