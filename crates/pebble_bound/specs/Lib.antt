pub mod Crossings
pub mod Laws
