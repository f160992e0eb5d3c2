pub mod Formats
pub mod Rows
pub mod Ranges
pub mod Words
pub mod Prelude
