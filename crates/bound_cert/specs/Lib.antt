pub mod Thresholds
pub mod TableTests
pub mod Acceptance
pub mod ValidLists
pub mod Verdicts
pub mod Laws
pub mod Prelude
