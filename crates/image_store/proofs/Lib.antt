pub mod Common
pub mod Levels
pub mod Places
pub mod SlotAllocation
pub mod LevelImages
