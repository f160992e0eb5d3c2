-- How a console is kept.
use Rattle.std.specs.Prelude.{◌≤◌}
use Rattle.reverse_console.specs.declared.console.Console.TheInside.{Inside}
use Rattle.reverse_runner.specs.Rooms.{image_room, AreShort}
use Rattle.reverse_console.specs.ConsoleState.{ConsoleState}
use Rattle.reverse_console.specs.Marks.{mark_count}
use Rattle.reverse_console.specs.MarkInvariant.{AreSet}
use Rattle.reverse_runner.specs.DeskFields.{Fits}

abbrev pub console_state : Inside → ConsoleState
console_state c = record {
  plan = c.marks;
  work = c.desk.work;
  store = c.desk.store;
  journal = c.journal;
  place = c.place;
  ended = c.ended;
}

-- all marks are set, with images of this machine, and the place is one of the run
pub record IsConsole (c : Inside) : Type 0 where
  pub fits : Fits c.desk
  pub set : AreSet c.marks (mark_count c.marks) c.desk.store
  pub within : c.place ≤ c.marks.count
  pub short : AreShort (image_room c.desk.work) c.desk.store
