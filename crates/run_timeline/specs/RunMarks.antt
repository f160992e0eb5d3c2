-- No public clause cites this file. The marks of a run: the states at equal distances, from the first on.
use Rattle.std.specs.Prelude.{ℕ, ◌-◌, ◌*◌, ◌<◌, ◌≤◌, max, length, slice_index_or}
use Rattle.rv_pages.specs.Memory.{page_numbers}
use Rattle.rv_machine.specs.MachineState.{MachineState}
use Rattle.run_timeline.specs.declared.mark.Mark.{Mark}
use Rattle.run_timeline.specs.declared.marks.Marks.{Marks}
use Rattle.run_timeline.specs.Mark.{HaveRoom, IsMarkOf}

-- where the next mark will be
abbrev pub next_mark : Marks → ℕ
next_mark m = m.count * m.distance

-- They are marks of a run with these states. Mark i keeps the state i times the distance from the first. Each has room
-- for as many pages as the states map.
pub record AreMarks (states : ℕ → MachineState) (m : Marks) : Type 0 where
  pub kept : (i : ℕ) (d : Mark) → i < m.count → IsMarkOf (states (i * m.distance)) (slice_index_or m.marks.items i d)
  pub pages : HaveRoom (length (page_numbers (states 0).memory)) m.marks.items

-- The marks span what the run has reached. The last one is within it, and the next one would be past it. Their distance
-- is one step, or at most twice that of a full set of marks over that way.
pub record Spans (m : Marks) (reached : ℕ) : Type 0 where
  pub last : (m.count - 1) * m.distance ≤ reached
  pub before : reached < next_mark m
  pub near : m.distance * length m.marks.items ≤ max (length m.marks.items) (2 * reached)
