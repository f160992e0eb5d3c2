pub mod LevelLines
