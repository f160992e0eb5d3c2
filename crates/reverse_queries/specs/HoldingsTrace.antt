-- What a session holds on its way through a list of actions, and which states it gives there. It holds over any
-- keepers: then the fetched bytes determine the states.
use Rattle.std.specs.Prelude.{◌≡◌, ℕ, ◌+◌, List, map, length, slice_get, Some}
use Rattle.plan_types.specs.declared.action.Action.{Action}
use Rattle.rv_machine.specs.MachineState.{MachineState}
use Rattle.reverse_runner.specs.ActionEffects.{Holdings, Acts}
use Rattle.reverse_runner.specs.StateOrder.{handed_by}
use Rattle.reverse_runner.specs.VisitorCalls.{states_out}

-- these states, by number, include those that an action gives from what is held
abbrev pub HaveOut : ℕ → ℕ → Action → Holdings → (ℕ → MachineState) → Type 0
HaveOut unit steps a held states = map states (handed_by unit steps a) ≡ states_out a held.work held.tape.states

-- A list led from one holding to another. Each action changed the holdings as it does, and gave its states from what
-- was held before it. States go by their numbers.
pub record GoesThrough (unit steps : ℕ) (journal : List (List ℕ)) (list : List Action) (old new : Holdings) (states : ℕ → MachineState) : Type 0 where
  -- what was held before each action, and after the last one
  pub held : ℕ → Holdings
  pub from : held 0 ≡ old
  pub to : held (length list) ≡ new
  pub acts : (i : ℕ) (a : Action) → slice_get list i ≡ Some a → Acts unit journal a (held i) (held (i + 1))
  pub hands : (i : ℕ) (a : Action) → slice_get list i ≡ Some a → HaveOut unit steps a (held i) states

-- a list was performed, and this holds of the states that it gave
pub record IsFoundOn (Holds : (ℕ → MachineState) → Type 0) (unit steps : ℕ) (journal : List (List ℕ)) (list : List Action) (old new : Holdings) : Type 0 where
  pub states : ℕ → MachineState
  pub through : GoesThrough unit steps journal list old new states
  pub holds : Holds states
