use Rattle.std.proofs.Common.{ℕ, ◌<◌, ◌≤◌, subst}
use Rattle.std.specs.Prelude.{⊤}
use Rattle.run_timeline.specs.Moves.{CameForward, EndsForward, IsPlace}
use Rattle.run_timeline.specs.MoveParts.{MatchPart}
use Rattle.run_timeline.proofs.MoveEnds.{place_before}
use Rattle.gdb_session.specs.Debugger.{Debugger}
use Rattle.gdb_session.proofs.MoveEnds.{order_on}
use Rattle.gdb_session.proofs.session.Session.look_forward.Goals as goal

pub returns-clause-ends : goal.returns-clause-ends
returns-clause-ends g c =
    let n = c.look_forward-part.new.self.place in
    subst (λ (d : Debugger). (p : ℕ) → p < d.place → CameForward d.run d.stops p d.place → MatchPart c.look_forward-part.result (EndsForward d.run d.stops p n) (CameForward d.run d.stops p n)) c.self.view_is c.look_forward-part.ensures.ends

pub returns-clause-order : goal.returns-clause-order
returns-clause-order g c =
    let s = c.self.inside in
    let now = c.args.self.now in
    let n = c.look_forward-part.new.self.place in
    let known : s.timeline.place ≤ s.timeline.reached = c.are_places.ensures.known in
    let place = subst (λ (d : Debugger). IsPlace d.run d.place) c.self.view_is (place_before s.timeline.run s.timeline.place s.timeline.reached known c.are_places.ensures.places) in
    let ends = subst (λ (d : Debugger). (p : ℕ) → p < d.place → CameForward d.run d.stops p d.place → MatchPart c.look_forward-part.result (EndsForward d.run d.stops p n) (CameForward d.run d.stops p n)) c.self.view_is c.look_forward-part.ensures.ends in
    let further = subst (λ (d : Debugger). MatchPart c.look_forward-part.result (λ _. ⊤) (d.place < n)) c.self.view_is c.look_forward-part.ensures.further in
    order_on now.run now.stops now.place n c.look_forward-part.result place c.requires ends further
