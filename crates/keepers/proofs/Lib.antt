pub mod InputSearch
pub mod Images
pub mod ReadsAndWrites
pub mod ListedCalls
pub mod LineSequences
pub mod EmptyPrefix
pub mod SlotImages
pub mod Paths
