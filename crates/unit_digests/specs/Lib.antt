pub mod WorkDivision
pub mod Digests
pub mod Prelude
