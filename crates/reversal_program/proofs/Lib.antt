pub mod Levels
pub mod LevelFiles
