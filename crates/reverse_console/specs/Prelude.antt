-- The names that the clauses of other crates cite, passed on from one place. Declares nothing.
pub use Rattle.reverse_console.specs.Answer.{IsOrder}
pub use Rattle.reverse_console.specs.Marks.{MarkPlan}
pub use Rattle.reverse_console.specs.Script.{IsScript}
pub use Rattle.reverse_console.specs.ScriptFaults.{HasFirstFault}
pub use Rattle.reverse_console.specs.MarksOfRun.{MarksTell}
