-- How a session is kept.
use Rattle.std.specs.Prelude.{◌≡◌, false}
use Rattle.reverse_runner.specs.declared.session.Session.TheInside.{Inside}
use Rattle.reverse_runner.specs.SessionState.{SessionState}
use Rattle.reverse_runner.specs.HoldingsOfRun.{IsLaidOut}
use Rattle.reverse_runner.specs.Rooms.{image_room, AreShort}
use Rattle.reverse_runner.specs.Workspaces.{IsInOrder, tape_in, HasUnits}

abbrev pub session_state : Inside → SessionState
session_state s = record {
  situation = s.config;
  unit = s.unit;
  work = s.space.desk.work;
  tape = tape_in s.space;
  store = s.space.desk.store;
  journal = s.journal;
  done = s.done;
  ended = s.ended;
}

-- The levels hold the pairs of the configuration, up to a refusal. A tape that isn't empty holds a unit. The undo list
-- was made for the recorded input. No stored image is longer than one of the state in work can be.
pub record IsSession (s : Inside) : Type 0 where
  pub fits : IsInOrder s.space
  pub laid : s.ended ≡ false → IsLaidOut s.config.steps s.config.slots s.config.at s.space.desk.store
  pub units : s.ended ≡ false → HasUnits s.unit s.journal s.config.steps s.config.at s.space
  pub short : s.ended ≡ false → AreShort (image_room s.space.desk.work) s.space.desk.store
