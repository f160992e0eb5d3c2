use Rattle.std.proofs.Common.{◌≡◌}
use Rattle.unit_undo.specs.UndoTrail.{IsMadeFor}
use Rattle.library_tests.proofs.undo_tests.check_units.Given as goal

abbrev pub invariant-loop : goal.invariant-loop
invariant-loop g l = record {
  made : IsMadeFor l.journal l.undo;
  few : l.undo.unit ≡ l.unit;
}
