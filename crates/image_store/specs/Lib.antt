pub mod Calls
pub mod Pairs
pub mod SlotAllocation
pub mod Shelves
pub mod StoredImages
pub mod StoreCalls
pub mod Prelude
