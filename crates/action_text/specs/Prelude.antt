-- The names that the clauses of other crates cite, passed on from one place. Declares nothing.
pub use Rattle.action_text.specs.ScheduleText.{IsSchedule}
pub use Rattle.action_text.specs.Faults.{HasFirstFault}
pub use Rattle.action_text.specs.Canonical.{HasSpelling}
