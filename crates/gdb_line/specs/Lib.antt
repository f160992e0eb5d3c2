pub mod Talk
pub mod LineState
pub mod Prelude
