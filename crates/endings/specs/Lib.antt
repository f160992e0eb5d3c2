pub mod Outcomes
pub mod Endings
pub mod Texts
pub mod Prelude
