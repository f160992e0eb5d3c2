-- No public clause cites this file. The meaning of a walk's fields, and their invariant.
use Rattle.std.specs.Prelude.{◌≡◌, ℕ, ◌<◌, ◌≤◌, true, length}
use Rattle.rv_machine.specs.States.{state_number}
use Rattle.rv_machine.specs.StepTable.{is_running}
use Rattle.run_timeline.specs.declared.walk.Walk.TheInside.{Inside}
use Rattle.run_timeline.specs.RunMarks.{AreMarks, Spans}
use Rattle.run_timeline.specs.WalkState.{WalkState}

abbrev pub walk_state : Inside → WalkState
walk_state w = record {
  run = record { first = w.first; journal = w.journal; most = w.most };
  place = w.place;
  reached = w.reached;
  room = length w.marks.marks.items;
}

-- It keeps marks of the run, over the way that it has reached. No state there is stopped. The state at its place is in
-- work.
pub record IsWalk (w : Inside) : Type 0 where
  pub marks : AreMarks (state_number w.first w.journal) w.marks
  pub spans : Spans w.marks w.reached
  pub work : w.work ≡ state_number w.first w.journal w.place
  pub known : w.place ≤ w.reached
  pub within : w.reached ≤ w.most
  pub runs : (k : ℕ) → k < w.reached → is_running (state_number w.first w.journal k).status ≡ true
