-- The names that the clauses of other crates cite, passed on from one place. Declares nothing.
pub use Rattle.binomials.specs.Binomials.{beta_before}
pub use Rattle.binomials.specs.Advances.{least_advances, repeats, split}
pub use Rattle.binomials.specs.Laws.{IsSplit}
