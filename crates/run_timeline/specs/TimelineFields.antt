-- No public clause cites this file. The meaning of a timeline's fields, and their invariant.
use Rattle.std.specs.Prelude.{◌≡◌, length}
use Rattle.unit_undo.specs.UndoTrail.{IsMadeFor}
use Rattle.run_timeline.specs.declared.timeline.Timeline.TheInside.{Inside}
use Rattle.run_timeline.specs.TimelineState.{TimelineState}
use Rattle.run_timeline.specs.UndoTrail.{Trails}

abbrev pub timeline_state : Inside → TimelineState
timeline_state t = record { run = t.walk.run; place = t.walk.place; reached = t.walk.reached; room = t.walk.room; trail = length t.undo.entries }

-- the undo list leads back from the place, and has room for 1,024 steps
pub record IsTimeline (t : Inside) : Type 0 where
  pub trail : Trails t.undo.entries t.walk.run t.walk.place
  pub unit : t.undo.unit ≡ 1024
  pub made : IsMadeFor t.walk.run.journal t.undo
