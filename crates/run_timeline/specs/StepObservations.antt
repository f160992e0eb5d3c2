-- No public clause cites this file. What is observed at single steps of a run.
use Rattle.std.specs.Prelude.{◌≡◌, ℕ, ◌+◌, ◌<◌, ◌==◌, ◌||◌, Bool, cond, List, Option, None, Some, is_some, position}
use Rattle.std.specs.List.{list_any}
use Rattle.std.specs.Option.{option_map, option_or}
use Rattle.rv_machine.specs.MachineState.{MachineState}
use Rattle.rv_machine.specs.StepTable.{written}
use Rattle.run_timeline.specs.Moves.{StopList}
use Rattle.run_timeline.specs.declared.stops.Hit.{Hit}
use Rattle.run_timeline.specs.declared.stops.Hit.TheVariants.{Break, Watch}
use Rattle.run_timeline.specs.Ranges.{writes_in}

-- a state is at a breakpoint; the first range with a byte that its step writes
abbrev pub breaks_at : StopList → MachineState → Bool
breaks_at stops s = list_any (λ a. a == s.pc) stops.addresses

abbrev pub writes_from : StopList → List (List ℕ) → MachineState → Option ℕ
writes_from stops journal s = position (writes_in (written s journal)) stops.ranges

abbrev pub is_hit : StopList → MachineState → List (List ℕ) → Bool
is_hit stops s journal = breaks_at stops s || is_some (writes_from stops journal s)

-- What a move backward hits at a state and its step, and where. The step comes first.
abbrev pub seen : StopList → List (List ℕ) → ℕ → MachineState → Option (ℕ × Hit)
seen stops journal at s = option_or (option_map (λ i. (at + 1, Watch i)) (writes_from stops journal s)) (cond (breaks_at stops s) (Some (at, Break)) None)

-- the last of so many observations, or None
abbrev pub IsLastSeen : (ℕ → Option (ℕ × Hit)) → ℕ → Option (ℕ × Hit) → Type 0
IsLastSeen see count (Some last) = (k : ℕ) × ((k < count) × (see k ≡ Some last) × ((j : ℕ) → k < j → j < count → see j ≡ None))
IsLastSeen see count None = (j : ℕ) → j < count → see j ≡ None
