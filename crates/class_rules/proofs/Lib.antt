pub mod RevolveComparison
pub mod ClassByLevels
pub mod StackOperations
pub mod MultistageMembership
pub mod Decidability
