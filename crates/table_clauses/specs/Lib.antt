pub mod ClauseFailures
pub mod Splits
pub mod Columns
pub mod DiskColumns
pub mod ShorterColumns
pub mod Laws
