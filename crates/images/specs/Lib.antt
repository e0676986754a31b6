pub mod Format
pub mod Opening
pub mod Opened
pub mod Refusals
pub mod Saving
pub mod Laws
