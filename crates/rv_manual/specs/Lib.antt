pub mod Fields
pub mod Integers
pub mod Operations
pub mod Access
pub mod Changes
pub mod Formats
pub mod Listing
pub mod NextState
