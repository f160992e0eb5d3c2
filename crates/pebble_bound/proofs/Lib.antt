pub mod SublevelCounts
pub mod StepCovers
pub mod ConfigurationMeasures
pub mod HeldPositions
pub mod BackwardCover
pub mod ListTotals
pub mod BoundLaws
