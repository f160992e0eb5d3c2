use Rattle.std.proofs.Common.{◌≤◌, ◌-◌}
use Rattle.gdb_session.proofs.Motions.{OnWay}
use Rattle.gdb_session.proofs.server.Server.run_forward.Given as goal

-- the move came to the place, and goes on there
abbrev pub invariant-loop-interrupted : goal.invariant-loop-interrupted
invariant-loop-interrupted g l = record {
  start : l.fn.self.session.place ≤ l.fn.self.session.run.most;
  way : OnWay l.fn.self l.self (g.N.Line.told l.fn.line) (g.N.Line.told l.line);
  later : g.N.Line.fault_count l.fn.line ≤ g.N.Line.fault_count l.line;
}

abbrev pub decreases-loop-interrupted : goal.decreases-loop-interrupted
decreases-loop-interrupted g l = l.self.session.run.most - l.self.session.place
