pub mod Lanes
pub mod Cycle
pub mod Small
