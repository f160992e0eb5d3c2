-- The names that the clauses of other crates cite, passed on from one place. Declares nothing.
pub use Rattle.multistage_gen.specs.MultistageList.{IsMultistageList}
pub use Rattle.multistage_gen.specs.Threshold.{AreSavings}
pub use Rattle.multistage_gen.specs.Plan.{IsPlaced}
