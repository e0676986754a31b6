pub mod Nines
pub mod Laws
