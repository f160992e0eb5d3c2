pub mod TotalCount
pub mod CountableActions
pub mod CountsOf
pub mod Prelude
