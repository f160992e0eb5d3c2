-- What an accepted call is to do.
use Rattle.std.specs.Prelude.{ℕ, ◌*◌, List}
use Rattle.plan_types.specs.declared.action.Action.{Action}
use Rattle.level_book.specs.declared.book.Slots.{Slots}
use Rattle.rv_machine.specs.MachineState.{MachineState}
use Rattle.rv_machine.specs.States.{state_number}
use Rattle.reverse_runner.specs.Units.{unit_states}
use Rattle.reverse_console.specs.declared.order.Order.{Order}
use Rattle.reverse_console.specs.Marks.{MarkPlan}
use Rattle.requests.specs.declared.question.Question.{Question}

-- A run of a program, and a list over it. It has the first state, the recorded input, the slots of a book's levels, and
-- the list. It also has the machine steps in a step of the list, and the steps that the list reverses.
pub record Run : Type 0 where
  pub first : MachineState
  pub journal : List (List ℕ)
  pub unit : ℕ
  pub steps : ℕ
  pub slots : List Slots
  pub list : List Action

-- the number of its last state
abbrev pub last_of : Run → ℕ
last_of run = run.unit * run.steps

-- its state with a number
abbrev pub state_of : Run → ℕ → MachineState
state_of run n = state_number run.first run.journal n

-- its state at the end of so many units, which the list calls the state of a step
abbrev pub unit_state : Run → ℕ → MachineState
unit_state run n = unit_states run.first run.journal run.unit n

-- A job. Its course, in the file of its command, says what it is.
pub data Job : Type 0 where
  -- the actions of a list over a run
  perform : Run → Job
  -- a question about a run: its answer, for which the list is performed as far as needed
  ask : Question → Run → Job
  -- the last of a run's states up to this number with a digest, found by so many workers
  seek : MachineState → List (List ℕ) → (steps workers : ℕ) → (digest : List ℕ) → Job
  -- texts, each in one write
  write : List (List ℕ) → Job
  -- orders of a script that move about in a run from a state, with images kept at its marks
  console : MachineState → List (List ℕ) → MarkPlan → List Order → Job
  -- Revolve's list over the run from a state made from a number, for so many steps and slots. It has images in memory
  -- of its own, and writes no line, but a summary.
  demonstrate : (number : ℕ) → MachineState → (steps slots : ℕ) → Job
