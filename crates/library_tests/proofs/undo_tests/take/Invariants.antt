use Rattle.std.proofs.Common.{◌≡◌}
use Rattle.rv_machine.specs.States.{state_number}
use Rattle.unit_undo.specs.UndoTrail.{HasSteps}
use Rattle.library_tests.proofs.undo_tests.take.Given as goal

abbrev pub invariant-loop : goal.invariant-loop
invariant-loop g l = record {
  has : HasSteps l.undo l.fn.state l.journal l.counter;
  state : l.state ≡ state_number l.fn.state l.journal l.counter;
  unit : l.undo.unit ≡ l.fn.undo.unit;
  room : l.undo.room ≡ l.fn.undo.room;
}
