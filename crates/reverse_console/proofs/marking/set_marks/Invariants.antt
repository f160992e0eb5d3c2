use Rattle.std.proofs.Common.{◌≡◌, ◌+◌, ◌-◌, ◌<◌, ◌≤◌, length, Ok}
use Rattle.rv_machine.specs.States.{state_number}
use Rattle.reverse_runner.specs.Desks.{KeepersAre}
use Rattle.reverse_runner.specs.KeepersSeen.{told_by, calls_to, Called}
use Rattle.reverse_runner.specs.Rooms.{image_room, AreShort}
use Rattle.reverse_console.specs.Costs.{puts_of}
use Rattle.reverse_runner.specs.DeskFields.{Fits}
use Rattle.reverse_console.specs.Marks.{marked, mark_count}
use Rattle.reverse_console.specs.MarkInvariant.{AreSet, AreKept, StandAt}
use Rattle.reverse_console.proofs.marking.set_marks.Given as goal

-- the marks so far are set, and the state in work is that of the last of them
abbrev pub invariant-loop-mark : goal.invariant-loop-mark
invariant-loop-mark g l = record {
  set : AreSet l.marks l.mark l.desk.store;
  stand :
      StandAt l.fn.desk.work l.journal l.marks 0 l.fn.desk.store (told_by g.K.Storage l.fn.keepers.items) →
      StandAt l.fn.desk.work l.journal l.marks l.mark l.desk.store (told_by g.K.Storage l.keepers.items);
  kept : AreKept l.fn.desk.work l.journal l.marks l.mark l.desk.store;
  work : l.desk.work ≡ state_number l.fn.desk.work l.journal (marked l.marks (l.mark - 1));
  fits : Fits l.desk;
  counted : l.steps ≡ l.fn.steps + marked l.marks (l.mark - 1);
  called :
      Called (puts_of l.marks l.mark) (calls_to g.K.Storage l.fn.keepers.items)
      (calls_to g.K.Storage l.keepers.items);
  are : KeepersAre {A = Unit} g.K.Storage (λ k. k < length l.marks.slots) (Ok tt) l.fn.keepers.items l.keepers.items;
  known : l.mark ≤ mark_count l.marks;
  short : AreShort (image_room l.fn.desk.work) l.fn.desk.store → AreShort (image_room l.fn.desk.work) l.desk.store;
}
