-- The names that the clauses of other crates cite, passed on from one place. Declares nothing.
pub use Rattle.rv_machine.specs.MachineState.{IsMachineState, IsStatus, MachineState}
pub use Rattle.rv_machine.specs.Counting.{IsBlankOf}
pub use Rattle.rv_machine.specs.StateChanges.{addresses}
pub use Rattle.rv_machine.specs.SystemCalls.{are_mapped}
pub use Rattle.rv_machine.specs.StepTable.{is_running, next, written}
pub use Rattle.rv_machine.specs.States.{state_number}
pub use Rattle.rv_machine.specs.Watchers.{AreNoted, CanNote, Ends, GoesOn, IsNext}
pub use Rattle.rv_machine.specs.Output.{outputs}
