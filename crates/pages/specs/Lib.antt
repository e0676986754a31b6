pub mod Views
pub mod Readings
