pub mod Ranged
pub mod Marking
