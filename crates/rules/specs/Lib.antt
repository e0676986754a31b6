pub mod Refusals
pub mod Pages
pub mod Reach
pub mod Calls
pub mod Laws
pub mod Runs
pub mod Views
