pub mod HRevolveList
pub mod Plans
pub mod Laws
pub mod ReadableTables
pub mod Prelude
