-- The names that the clauses of other crates cite, passed on from one place. Declares nothing.
pub use Rattle.keepers.specs.AnyKeeper.{AnyKeeper, place_of, slots_of, told_of}
pub use Rattle.keepers.specs.Counts.{Rose, raised}
pub use Rattle.keepers.specs.DiskFaults.{FailsOnlyWhere}
pub use Rattle.keepers.specs.ExternalState.{asked_of, fresh, input_faults_of}
pub use Rattle.keepers.specs.Claims.{AddsPrefix, Files, Images, Tells, WhereTold}
pub use Rattle.keepers.specs.LineWrites.{AddsLines, StopsIn, seen}
