use Rattle.std.proofs.Common.{length}
use Rattle.unit_undo.specs.UndoTrail.{LeadsBack, led_back}
use Rattle.library_tests.proofs.digest_tests.check_digests.Given as goal

abbrev pub invariant-loop-rt : goal.invariant-loop-rt
invariant-loop-rt g l = LeadsBack l.undo.entries l.state (led_back l.undo.entries l.state)

abbrev pub decreases-loop-rt : goal.decreases-loop-rt
decreases-loop-rt g l = length l.undo.entries
