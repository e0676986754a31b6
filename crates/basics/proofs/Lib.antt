pub mod Checking
pub mod Updating
