pub mod SegmentResults
pub mod LastMatch
pub mod MarkedRun
