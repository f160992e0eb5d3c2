-- No public clause cites this file. How the output of a run is collected.
use Rattle.std.specs.Prelude.{◌≡◌, ℕ, List, ◌++◌, false}
use Rattle.rv_machine.specs.MachineState.{MachineState}
use Rattle.rv_machine.specs.Output.{output}
use Rattle.run_timeline.specs.declared.collector.Collector.{Collector}

-- the output of a state's step was added, or there was no memory for it, now or before
abbrev pub IsCollected : Collector → MachineState → List (List ℕ) → Collector → Type 0
IsCollected before s journal after =
    after.failed ≡ false → (before.failed ≡ false) × (after.bytes.items ≡ before.bytes.items ++ output s)
