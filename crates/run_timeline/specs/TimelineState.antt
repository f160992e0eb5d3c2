-- A timeline: a run, and a place in it.
use Rattle.std.specs.Prelude.{ℕ, ◌+◌, ◌*◌, ◌/◌, ◌^◌, ◌≤◌, max, min, refl}
use Rattle.std.specs.Coded.{Coded, code_by, coded×, coded_ℕ}
use Rattle.run_timeline.specs.declared.timeline.TheConstants.{MARK_PAGE_BYTES, MARK_REST_BYTES}
use Rattle.run_timeline.specs.Moves.{Run}
use Rattle.run_timeline.specs.WalkState.{run_code}

pub record TimelineState : Type 0 where
  pub run : Run
  -- the number of the state at its place, and the greatest such number so far
  pub place : ℕ
  pub reached : ℕ
  -- how many states of the run it keeps at most
  pub room : ℕ
  -- how many steps back it takes without steps of the machine
  pub trail : ℕ

-- At most as many steps as between two kept states. That is one, or at most twice the distance of a full set of states
-- over the way reached.
abbrev pub IsFew : TimelineState → ℕ → Type 0
IsFew t n = n * t.room ≤ max t.room (2 * t.reached)

-- How many states fit into so many bytes. Each takes its pages, each with its index, and some bytes more. There are at
-- least two, and at most 2 ^ 20.
abbrev pub marks_for : ℕ → ℕ → ℕ
marks_for bytes pages = max 2 (min (2 ^ 20) (bytes / (MARK_PAGE_BYTES * pages + MARK_REST_BYTES)))

-- a timeline's code for comparisons: the tuple of its fields
abbrev pub timeline_code : Coded TimelineState
timeline_code =
    code_by (Run × (ℕ × (ℕ × (ℕ × ℕ))))
    (coded× run_code (coded× coded_ℕ (coded× coded_ℕ (coded× coded_ℕ coded_ℕ))))
    (λ t. (t.run, (t.place, (t.reached, (t.room, t.trail))))) (λ p. record { run = p.0; place = p.1.0; reached = p.1.1.0; room = p.1.1.1.0; trail = p.1.1.1.1 })
    (λ _. refl)
