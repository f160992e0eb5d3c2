pub mod LevelStart
pub mod Files
pub mod Run
pub mod Prelude
