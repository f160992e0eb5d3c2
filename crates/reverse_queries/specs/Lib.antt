pub mod QuestionEffects
pub mod Collision
pub mod FinderModel
pub mod HoldingsTrace
pub mod ListExecution
pub mod PickVisitor
pub mod Queries
pub mod Prelude
