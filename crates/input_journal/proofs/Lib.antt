pub mod Fields
pub mod Items
pub mod WholeJournals
pub mod JournalUniqueness
pub mod Views
