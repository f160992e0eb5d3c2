use Rattle.std.proofs.Common.{◌≡◌, length}
use Rattle.unit_undo.specs.UndoTrail.{LeadsBack, led_back}
use Rattle.library_tests.proofs.undo_tests.go_back.Given as goal

abbrev pub invariant-loop-undo : goal.invariant-loop-undo
invariant-loop-undo l = record {
  leads : LeadsBack l.undo.entries l.state (led_back l.undo.entries l.state);
  unit : l.undo.unit ≡ l.initial.undo.unit;
  room : l.undo.room ≡ l.initial.undo.room;
}

abbrev pub decreases-loop-undo : goal.decreases-loop-undo
decreases-loop-undo l = length l.undo.entries
