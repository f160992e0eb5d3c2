-- A run that is marked at the starts of its segments, one for each worker.
use Rattle.std.specs.Prelude.{◌≡◌, ℕ, ◌+◌, ◌*◌, ◌/◌, ◌<◌, ◌≤◌, List, length, slice_get, Some, refl}
use Rattle.std.specs.Coded.{Coded, code_by, coded×, coded_ℕ, coded_list}
use Rattle.rv_machine.specs.MachineState.{MachineState}
use Rattle.rv_machine.specs.StateCode.{state_code}
use Rattle.rv_machine.specs.States.{state_number}

-- Segment i of a run begins with state i · width. It ends before the next one, or with state `count`.
pub record MarkedRun : Type 0 where
  -- the first state of each segment
  pub states : List MachineState
  pub count : ℕ
  pub width : ℕ

-- The marks of the run from a state. Mark i is state i · width, and there is one for each such number up to count.
pub record StandFor (start : MachineState) (journal : List (List ℕ)) (m : MarkedRun) : Type 0 where
  pub wide : 0 < m.width
  pub within : (i : ℕ) → i < length m.states → i * m.width ≤ m.count
  pub enough : m.count < length m.states * m.width
  pub each : (i : ℕ) → i < length m.states → slice_get m.states i ≡ Some (state_number start journal (i * m.width))

-- the width of segments for so many workers: the least w for which workers · w exceeds the count
abbrev pub segment_width : ℕ → ℕ → ℕ
segment_width count workers = count / workers + 1

-- where the last segment begins, which is how many steps it takes to mark the run
abbrev pub last_start : ℕ → ℕ → ℕ
last_start count workers = count / segment_width count workers * segment_width count workers

-- a marked run is stored as the tuple of its fields
abbrev pub marked_code : Coded MarkedRun
marked_code =
    code_by (List MachineState × (ℕ × ℕ)) (coded× (coded_list state_code) (coded× coded_ℕ coded_ℕ))
    (λ m. (m.states, (m.count, m.width))) (λ p. record { states = p.0; count = p.1.0; width = p.1.1 }) (λ _. refl)
