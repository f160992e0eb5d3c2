use Rattle.std.proofs.lemmas.Result.{on_ok_weaker}
use Rattle.gdb_session.proofs.PendingOutput.{stop_out, stop_last}
use Rattle.gdb_session.proofs.server.Server.push_stop.Goals as goal

pub returns-clause-out : goal.returns-clause-out
returns-clause-out c =
    on_ok_weaker c.push_halt.result (stop_out c.args.self.now c.push_ending.new.self c.push_halt.new.self c.args.halt c.push_ending.ensures.same.session c.in_ok-push_ending.ensures.out) c.push_halt.ensures.out

pub returns-clause-last : goal.returns-clause-last
returns-clause-last c =
    on_ok_weaker c.push_halt.result (stop_last c.args.self.now c.push_ending.new.self c.push_halt.new.self c.args.halt c.push_ending.ensures.same.session) c.push_halt.ensures.last
