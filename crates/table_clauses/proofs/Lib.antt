pub mod OneMore
pub mod Places
pub mod BelowSplits
pub mod NoFailures
pub mod Meanings
pub mod DiskNoFailures
pub mod DiskMeanings
pub mod Decidability
