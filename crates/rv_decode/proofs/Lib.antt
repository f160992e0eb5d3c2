pub mod Groups
pub mod WordFields
pub mod FieldRanges
pub mod EncodingRoundTrip
pub mod EncodingUniqueness
