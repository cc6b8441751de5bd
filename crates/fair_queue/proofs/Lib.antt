pub mod Flows
pub mod Charging
pub mod Looking
pub mod Waiting
pub mod Behind
pub mod Order
