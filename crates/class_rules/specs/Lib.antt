pub mod PlaceLevels
pub mod LevelInference
pub mod Stacks
pub mod Laws
