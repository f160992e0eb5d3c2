pub mod Steps
pub mod NextToken
pub mod Decimal
pub mod Addresses
