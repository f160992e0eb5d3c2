-- No public clause cites this file. What the watcher for the last hit notes of a state and the step from it.
use Rattle.std.specs.Prelude.{◌≡◌, ℕ, ◌+◌, List}
use Rattle.std.specs.Option.{option_or}
use Rattle.rv_machine.specs.MachineState.{MachineState}
use Rattle.run_timeline.specs.declared.observing.Last.{Last}
use Rattle.run_timeline.specs.StepObservations.{seen}

-- a state and the step from it were observed
pub record IsNotedLast (before : Last) (s : MachineState) (journal : List (List ℕ)) (after : Last) : Type 0 where
  pub stops : after.stops.now ≡ before.stops.now
  pub at : after.at ≡ before.at + 1
  pub found : after.found ≡ option_or (seen before.stops.now journal before.at s) before.found
