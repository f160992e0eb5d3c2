use Rattle.std.proofs.lemmas.Result.{on_ok_weaker, on_err_weaker}
use Rattle.gdb_session.proofs.PendingOutput.{at_error, pauses, pauses_refused, sends_refused}
use Rattle.gdb_session.proofs.server.Server.pause.Goals as goal

pub returns-in_err-send-clause-refused : goal.returns-in_err-send-clause-refused
returns-in_err-send-clause-refused g c =
    at_error _ (sends_refused c.args.self.now.out.items (g.N.Line.told c.args.line.now) (g.N.Line.told c.send.new.line) c.in_err-send.ensures.refused)

pub returns-clause-does : goal.returns-clause-does
returns-clause-does g c =
    on_ok_weaker c.is_interrupted.result
    (λ holds. pauses c.args.self.now c.send.new.self c.is_interrupted.new.self (g.N.Line.told c.args.line.now) (g.N.Line.told c.send.new.line) (g.N.Line.told c.is_interrupted.new.line)
    c.in_ok-send.ensures.goes c.send.ensures.same c.in_ok-send.ensures.empty holds c.is_interrupted.ensures.same)
    c.is_interrupted.ensures.holds

pub returns-clause-refused : goal.returns-clause-refused
returns-clause-refused g c =
    on_err_weaker c.is_interrupted.result
    (λ comes. pauses_refused c.args.self.now.out.items (g.N.Line.told c.args.line.now) (g.N.Line.told c.send.new.line) (g.N.Line.told c.is_interrupted.new.line) c.in_ok-send.ensures.goes comes)
    c.is_interrupted.ensures.refused
