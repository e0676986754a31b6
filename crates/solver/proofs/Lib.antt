pub mod Massey
pub mod Arrays
pub mod Steps
