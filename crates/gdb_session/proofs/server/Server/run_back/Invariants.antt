use Rattle.std.proofs.Common.{◌≤◌}
use Rattle.gdb_session.proofs.Motions.{BackWay}
use Rattle.gdb_session.proofs.server.Server.run_back.Given as goal

-- the move came back to the end of what is left
abbrev pub invariant-loop-end : goal.invariant-loop-end
invariant-loop-end g l = record {
  start : l.fn.self.session.place ≤ l.fn.self.session.run.most;
  way : BackWay l.fn.self l.self l.end (g.N.Line.told l.fn.line) (g.N.Line.told l.line);
  later : g.N.Line.fault_count l.fn.line ≤ g.N.Line.fault_count l.line;
}

abbrev pub decreases-loop-end : goal.decreases-loop-end
decreases-loop-end g l = l.end
