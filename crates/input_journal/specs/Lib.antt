pub mod Form
pub mod Faults
pub mod RecordedInput
pub mod Parser
pub mod Laws
pub mod Parts
pub mod Prelude
