-- The names that the clauses of other crates cite, passed on from one place. Declares nothing.
pub use Rattle.hrevolve_gen.specs.HRevolveList.{IsWritten}
pub use Rattle.hrevolve_gen.specs.Plans.{HasNestedPlan}
