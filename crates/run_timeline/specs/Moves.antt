-- Where a move over a run ends: at a breakpoint, before a write to a watched byte, or at the run's end.
use Rattle.std.specs.Prelude.{◌≡◌, ℕ, zero, suc, ◌+◌, ◌<◌, ◌≤◌, ◌==◌, ◌||◌, Bool, true, not, nat_lt, cond, List, Option, None, Some, position}
use Rattle.std.specs.List.{list_any}
use Rattle.std.specs.Option.{option_map, option_map_or, option_or}
use Rattle.rv_machine.specs.MachineState.{MachineState}
use Rattle.rv_machine.specs.States.{state_number}
use Rattle.rv_machine.specs.StepTable.{is_running, written}
use Rattle.run_timeline.specs.declared.stops.Hit.{Hit}
use Rattle.run_timeline.specs.declared.stops.Hit.TheVariants.{Break, Watch}
use Rattle.run_timeline.specs.declared.ranges.Range.{Range}
use Rattle.run_timeline.specs.declared.stops.Step.{Step}
use Rattle.run_timeline.specs.declared.stops.Step.TheVariants.{Went, Watched, End}
use Rattle.run_timeline.specs.Ranges.{writes_in}

-- what ends a move: the addresses of breakpoints, and the watched ranges
pub record StopList : Type 0 where
  pub addresses : List ℕ
  pub ranges : List Range

-- a run: its first state, its recorded input, and how many steps it has at most
pub record Run : Type 0 where
  pub first : MachineState
  pub journal : List (List ℕ)
  pub most : ℕ

abbrev pub state : Run → ℕ → MachineState
state r m = state_number r.first r.journal m

-- a place of the run: the number of a state with no stopped state before it
abbrev pub IsPlace : Run → ℕ → Type 0
IsPlace r m = (m ≤ r.most) × ((k : ℕ) → k < m → is_running (state r k).status ≡ true)

-- the end: a stopped state, or the greatest number
abbrev pub is_end : Run → ℕ → Bool
is_end r m = (m == r.most) || not (is_running (state r m).status)

-- place m is at a breakpoint
abbrev pub broken : Run → StopList → ℕ → Option Hit
broken r stops m = cond (list_any (λ a. a == (state r m).pc) stops.addresses) (Some Break) None

-- The first range with a byte that the step from place m writes. There is no step from the end.
abbrev pub watched : Run → StopList → ℕ → Option ℕ
watched r stops m = cond (is_end r m) None (position (writes_in (written (state r m) r.journal)) stops.ranges)

-- What a move forward from p hits at m, and a move backward. It is a breakpoint, but not the one at p, or otherwise the
-- step that the move would cross.
abbrev pub ahead : Run → StopList → ℕ → ℕ → Option Hit
ahead r stops p m = option_or (cond (nat_lt p m) (broken r stops m) None) (option_map Watch (watched r stops m))

abbrev pub behind : Run → StopList → ℕ → ℕ → Option Hit
behind r stops p zero = cond (nat_lt 0 p) (broken r stops 0) None
behind r stops p (suc m) = option_or (cond (nat_lt (suc m) p) (broken r stops (suc m)) None) (option_map Watch (watched r stops m))

-- nothing is hit from one place up to below another
abbrev pub NothingHit : (ℕ → Option Hit) → ℕ → ℕ → Type 0
NothingHit hit low bound = (m : ℕ) → low ≤ m → m < bound → hit m ≡ None

-- A move forward from p ends at the first hit from there, or at the run's end.
abbrev pub EndsForward : Run → StopList → ℕ → ℕ → Option Hit → Type 0
EndsForward r stops p m (Some hit) = (p ≤ m) × (ahead r stops p m ≡ Some hit) × NothingHit (ahead r stops p) p m
EndsForward r stops p m None = (p ≤ m) × (is_end r m ≡ true) × NothingHit (ahead r stops p) p (m + 1)

-- A move backward from p ends at the last hit up to p, or at the first place.
abbrev pub EndsBackward : Run → StopList → ℕ → ℕ → Option Hit → Type 0
EndsBackward r stops p m (Some hit) = (m ≤ p) × (behind r stops p m ≡ Some hit) × NothingHit (behind r stops p) (m + 1) (p + 1)
EndsBackward r stops p m None = (m ≡ 0) × NothingHit (behind r stops p) 0 (p + 1)

-- A move forward from p has reached q without a hit, and goes on.
abbrev pub CameForward : Run → StopList → ℕ → ℕ → Type 0
CameForward r stops p q = (p ≤ q) × NothingHit (ahead r stops p) p q

-- A move backward from p has reached q, and goes on. From q to before p there is no breakpoint, and no step writes a
-- watched byte.
abbrev pub CameBackward : Run → StopList → ℕ → ℕ → Type 0
CameBackward r stops p q = (q ≤ p) × ((k : ℕ) → q ≤ k → k < p → (broken r stops k ≡ None) × (watched r stops k ≡ None))

-- How a step from p ends, forward and backward. It isn't taken if it would cross a write to a watched byte.
abbrev pub step_ahead : Run → StopList → ℕ → Step
step_ahead r stops p = cond (is_end r p) End (option_map_or Watched (watched r stops p) Went)

abbrev pub step_behind : Run → StopList → ℕ → Step
step_behind r stops zero = End
step_behind r stops (suc p) = option_map_or Watched (watched r stops p) Went

-- how many steps were taken
abbrev pub steps_of : Step → ℕ
steps_of Went = 1
steps_of _ = 0
