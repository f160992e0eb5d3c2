pub mod Memory
pub mod Tables
pub mod Marks
pub mod PageLayout
pub mod Prelude
