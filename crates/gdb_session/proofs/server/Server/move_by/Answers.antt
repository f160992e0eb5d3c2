use Rattle.gdb_wire.specs.declared.request.Motion.TheVariants as motion
use Rattle.gdb_session.proofs.PendingOutput.{at_error}
use Rattle.gdb_session.proofs.MoveKinds.{still_breaks, still_moved, step_back_moved}
use Rattle.gdb_session.proofs.server.Server.move_by.Goals as goal

pub returns-in_err-halt-in-Step-clause-partly : goal.returns-in_err-halt-in-Step-clause-partly
returns-in_err-halt-in-Step-clause-partly g c = at_error _ (still_breaks c.args.self.now c.args.motion (g.N.Line.told c.args.line.now) c.is_within.ensures)

pub returns-in_ok-halt-in-Step-clause-moved : goal.returns-in_ok-halt-in-Step-clause-moved
returns-in_ok-halt-in-Step-clause-moved g c =
    still_moved c.args.self.now c.step_forward.new.self c.args.motion motion.Step c.in_ok-halt-in-Step.halt (g.N.Line.told c.args.line.now) c.in-Step.is c.in_ok-halt-in-Step.ensures.moved c.step_forward.ensures.held

pub returns-in-StepBack-clause-moved : goal.returns-in-StepBack-clause-moved
returns-in-StepBack-clause-moved g c =
    step_back_moved c.args.self.now c.step_back.new.self c.args.motion c.step_back.result (g.N.Line.told c.args.line.now) c.in-StepBack.is c.step_back.ensures.moved c.step_back.ensures.held c.step_back.ensures.out
