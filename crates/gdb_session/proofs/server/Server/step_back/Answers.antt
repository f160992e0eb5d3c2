use Rattle.std.proofs.Common.{refl}
use Rattle.gdb_session.proofs.PendingOutput.{moved_step_back}
use Rattle.gdb_session.proofs.server.Server.step_back.Goals as goal

pub returns-clause-moved : goal.returns-clause-moved
returns-clause-moved g c =
    let s = c.args.self.now in
    moved_step_back s (record s { session = c.step_back-step.new.self }) c.step_back-step.result c.halt_of_step.result c.step_back-step.ensures.value c.halt_of_step.ensures c.step_back-step.ensures.goes c.step_back-step.ensures.stays refl
