-- `run`: the program's run, backward by a schedule's list or by Revolve's.
use Rattle.std.specs.Prelude.{length, ◌*◌, map}
use Rattle.level_book.specs.CostFold.{forward}
use Rattle.reversal.specs.Job.{Run, last_of}
use Rattle.reversal.specs.Output.{lines_down}
use Rattle.reversal.specs.Deeds.{deed_of, CallsSome}
use Rattle.reversal.specs.RunTrace.{AreOfRun, ComesToDamage, Went}
use Rattle.reversal.specs.Course.{Course}

-- A run uses the table of all that is done over one by a list. Only a run may have its schedule made.

-- The actions of the list are performed, and the lines of the states that they give are written. Those are all states
-- from the last to the first, each once. An ending at a write has the number of the action that gives that line's
-- state.
abbrev pub performing : Run → Course
performing run = record {
  levels = length run.slots;
  deeds = λ shown. map (deed_of shown.states run.unit run.steps) run.list;
  output = λ shown. lines_down shown.states (last_of run);
  steps = λ shown. run.unit * forward run.list;
  write_place = λ place. place;
  storage_place = λ place. place;
  shows = λ shown old. AreOfRun run shown.states old;
  answers = λ shown old new. Unit {0};
  answers_partly = λ shown performed old new. Unit {0};
  holds = λ Same shown performed old new. Went Same run performed shown.states old new;
  damage = λ shown performed level put got old new. ComesToDamage run performed level put got old;
  stops = λ shown performed level old new. Unit {0};
  may_want = CallsSome;
}
