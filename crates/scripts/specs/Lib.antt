pub mod Script
pub mod Commands
