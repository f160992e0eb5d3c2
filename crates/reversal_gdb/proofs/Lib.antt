pub mod Numbers
pub mod Loads
