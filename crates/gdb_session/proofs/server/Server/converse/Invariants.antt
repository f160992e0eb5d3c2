use Rattle.std.proofs.Common.{◌≡◌, ◌≤◌, []}
use Rattle.keepers.specs.Claims.{Tells, WhereTold}
use Rattle.gdb_session.specs.ServerState.{talker}
use Rattle.gdb_session.specs.Turns.{GoesOn, IsFed}
use Rattle.gdb_session.proofs.server.Server.converse.Given as goal

abbrev pub invariant-loop : goal.invariant-loop
invariant-loop g l = record {
  goes_on : Tells (g.N.Line.told l.fn.line) (g.N.Line.told l.line) (GoesOn l.fn.self.session.run l.self.held.items (talker l.self));
  empty : l.self.out.items ≡ [];
  fed : WhereTold (g.N.Line.told l.line) (IsFed l.counter l.self.held.items);
  later : g.N.Line.fault_count l.fn.line ≤ g.N.Line.fault_count l.line;
}
