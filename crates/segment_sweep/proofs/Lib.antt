pub mod SegmentCovers
pub mod MarkExtension
pub mod StepExtension
