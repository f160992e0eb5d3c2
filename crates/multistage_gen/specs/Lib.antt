pub mod Traffic
pub mod TrafficCount
pub mod Numbers
pub mod MultistageList
pub mod Ranks
pub mod Threshold
pub mod Plan
pub mod Prelude
