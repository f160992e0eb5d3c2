pub mod WorkDivision
pub mod DigestWalks
