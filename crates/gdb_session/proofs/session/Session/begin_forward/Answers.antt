use Rattle.std.proofs.Common.{subst}
use Rattle.run_timeline.specs.Moves.{CameForward, EndsForward}
use Rattle.run_timeline.specs.MoveParts.{MatchPart}
use Rattle.gdb_session.specs.Debugger.{Debugger}
use Rattle.gdb_session.proofs.session.Session.begin_forward.Goals as goal

pub returns-clause-ends : goal.returns-clause-ends
returns-clause-ends g c =
    let n = c.begin_forward-part.new.self.place in
    subst (λ (d : Debugger). MatchPart c.begin_forward-part.result (EndsForward d.run d.stops d.place n) (CameForward d.run d.stops d.place n)) c.self.view_is c.begin_forward-part.ensures.ends
