use Rattle.std.proofs.Common.{◌≡◌, Some, MatchOption, ap, subst, arith}
use Rattle.run_timeline.specs.Moves.{CameBackward, EndsBackward}
use Rattle.gdb_session.specs.Debugger.{Debugger}
use Rattle.gdb_session.proofs.MoveEnds.{back_none}
use Rattle.gdb_session.proofs.session.Session.look_back.Goals as goal

pub returns-clause-ends : goal.returns-clause-ends
returns-clause-ends g c =
    let s = c.self.inside in
    let end = c.args.end in
    let place : s.timeline.place ≡ c.args.self.now.place = ap (λ (d : Debugger). d.place) c.self.view_is in
    let known = c.are_places.ensures.known in
    let high = c.requires.known in
    let here = c.look_back.ensures.ends end (omega (arith, place, known, high)) (back_none s.timeline.run s.stops end) in
    subst (λ (d : Debugger). MatchOption c.look_back.result.1 (CameBackward d.run d.stops end c.look_back.result.0) (λ found. EndsBackward d.run d.stops end found.0 (Some found.1))) c.self.view_is here
