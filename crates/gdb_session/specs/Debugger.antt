-- The state of a session of gdb.
use Rattle.std.specs.Prelude.{ℕ, Bool, true, false, not, List, [], ◌∷◌, ◌++◌, filter, cond, ◌==◌, ◌&&◌}
use Rattle.std.specs.List.{list_any}
use Rattle.rv_machine.specs.MachineState.{MachineState}
use Rattle.gdb_wire.specs.declared.request.StopKind.{StopKind}
use Rattle.gdb_wire.specs.declared.request.StopKind.TheVariants.{Breakpoint, WriteWatch}
use Rattle.run_timeline.specs.Moves.{Run, StopList, state}
use Rattle.run_timeline.specs.declared.ranges.Range.{Range}

pub record Debugger : Type 0 where
  pub run : Run
  -- the number of the state that is shown
  pub place : ℕ
  -- the breakpoints and the watched ranges, each once
  pub stops : StopList
  -- whether packets are acknowledged
  pub acks : Bool
  -- whether the program's output is off
  pub quiet : Bool

-- it shows the first state, and nothing was asked yet
abbrev pub new_debugger : Run → Debugger
new_debugger run = record { run = run; place = 0; stops = record { addresses = []; ranges = [] }; acks = true; quiet = false }

-- the state that is shown
abbrev pub shown : Debugger → MachineState
shown d = state d.run d.place

-- ---- stops

-- a list with one element more, unless it has it, and without it
abbrev pub with_one : {A : Type 0} → (A → A → Bool) → A → List A → List A
with_one same x xs = cond (list_any (same x) xs) xs (xs ++ x ∷ [])

abbrev pub without_one : {A : Type 0} → (A → A → Bool) → A → List A → List A
without_one same x xs = filter (λ y. not (same x y)) xs

abbrev pub same_address : ℕ → ℕ → Bool
same_address a b = b == a

abbrev pub same_range : Range → Range → Bool
same_range a b = (b.start == a.start) && (b.length == a.length)

-- the stops with one more, and with one less
abbrev pub inserted : StopKind → ℕ → ℕ → StopList → StopList
inserted Breakpoint at len stops = record stops { addresses = with_one same_address at stops.addresses }
inserted WriteWatch at len stops = record stops { ranges = with_one same_range (record { start = at; length = len }) stops.ranges }

abbrev pub removed : StopKind → ℕ → ℕ → StopList → StopList
removed Breakpoint at len stops = record stops { addresses = without_one same_address at stops.addresses }
removed WriteWatch at len stops = record stops { ranges = without_one same_range (record { start = at; length = len }) stops.ranges }
