use Rattle.std.proofs.lemmas.Result.{on_err_weaker}
use Rattle.gdb_session.specs.ServerState.{BreaksOff}
use Rattle.gdb_session.proofs.PendingOutput.{at_error, on_ok_both}
use Rattle.gdb_session.proofs.LineClaims.{tells_so}
use Rattle.gdb_session.proofs.Motions.{Partly, broken_partly, unstopped_partly, unsent_partly, sent}
use Rattle.gdb_session.proofs.server.Server.run_move.Goals as goal

pub returns-in_err-halt-clause-partly : goal.returns-in_err-halt-clause-partly
returns-in_err-halt-clause-partly g c =
    let s = c.args.self.now in
    at_error _ (tells_so (g.N.Line.told c.args.line.now) (g.N.Line.told c.move_by.new.line) (BreaksOff s c.args.motion) (Partly s c.args.motion) (broken_partly s c.args.motion) c.in_err-halt.ensures.partly)

pub returns-in_err-push_stop-clause-partly : goal.returns-in_err-push_stop-clause-partly
returns-in_err-push_stop-clause-partly g c =
    at_error _ (unstopped_partly c.args.self.now c.move_by.new.self c.args.motion c.in_ok-halt.halt (g.N.Line.told c.args.line.now) (g.N.Line.told c.move_by.new.line) c.in_ok-halt.ensures.moved)

pub returns-clause-partly : goal.returns-clause-partly
returns-clause-partly g c =
    on_err_weaker c.send.result
    (unsent_partly c.args.self.now c.move_by.new.self c.push_stop.new.self c.args.motion c.in_ok-halt.halt (g.N.Line.told c.args.line.now) (g.N.Line.told c.move_by.new.line) (g.N.Line.told c.send.new.line)
    c.in_ok-halt.ensures.moved c.in_ok-push_stop.ensures.out)
    c.send.ensures.refused

pub returns-clause-moves : goal.returns-clause-moves
returns-clause-moves g c =
    on_ok_both c.send.result
    (λ goes empty. sent c.args.self.now c.move_by.new.self c.push_stop.new.self c.send.new.self c.args.motion c.in_ok-halt.halt (g.N.Line.told c.args.line.now) (g.N.Line.told c.move_by.new.line) (g.N.Line.told c.send.new.line)
    c.in_ok-halt.ensures.moved c.in_ok-push_stop.ensures.out c.in_ok-push_stop.ensures.last c.push_stop.ensures.same goes c.send.ensures.same empty)
    c.send.ensures.goes c.send.ensures.empty
