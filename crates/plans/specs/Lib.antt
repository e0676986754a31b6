pub mod Orders
pub mod Marks
