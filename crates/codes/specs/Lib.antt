pub mod Fill
pub mod Correct
