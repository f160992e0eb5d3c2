pub mod Report
pub mod Prelude
