pub mod CountBounds
pub mod LevelCosts
