pub mod Opening
pub mod Scrubbing
pub mod Once
pub mod Numbers
