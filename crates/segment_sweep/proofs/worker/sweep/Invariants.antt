use Rattle.std.proofs.Common.{◌≡◌, ◌≤◌}
use Rattle.rv_machine.specs.States.{state_number}
use Rattle.segment_sweep.specs.SegmentResults.{Covers}
use Rattle.segment_sweep.proofs.worker.sweep.Given as goal

abbrev pub invariant-loop-n : goal.invariant-loop-n
invariant-loop-n g l =
    let query = g.K.Sought.query in
    record {
      from : l.from ≤ l.n;
      state : l.state ≡ state_number query.start query.journal l.n;
      covers : Covers query l.from l.n l.found;
    }
