pub mod Sighting
pub mod Cells
pub mod Known
