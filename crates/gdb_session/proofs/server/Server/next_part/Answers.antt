use Rattle.std.proofs.Common.{◌<◌, ℕ, ap, sym, refl, subst, arith}
use Rattle.run_timeline.specs.Moves.{CameForward, EndsForward}
use Rattle.run_timeline.specs.MoveParts.{MatchPart}
use Rattle.gdb_session.specs.Debugger.{Debugger}
use Rattle.gdb_session.proofs.PendingOutput.{counted_there, shown_after}
use Rattle.gdb_session.proofs.server.Server.next_part.Goals as goal

pub push_output-requires : goal.push_output-requires
push_output-requires g c =
    let s = c.args.self.now in
    let e = c.look_forward-part.new.self in
    let run = ap (λ (d : Debugger). d.run) c.look_forward-part.ensures.stays in
    let from = c.place-from.ensures in
    let order = c.look_forward-part.ensures.order in
    record {
      behind = omega (arith, order, from);
      counted = counted_there s.session e c.place-from.result c.written-written.result from c.written-written.ensures run;
    }

pub returns-clause-shown : goal.returns-clause-shown
returns-clause-shown g c =
    let s = c.args.self.now in
    let e = c.look_forward-part.new.self in
    shown_after s (record s { session = e }) c.push_output.new.self c.place-from.result c.place-from.ensures c.look_forward-part.ensures.stays refl refl c.in_ok-push_output.ensures.shows c.push_output.ensures.same

pub returns-clause-ends : goal.returns-clause-ends
returns-clause-ends g c =
    let d = c.args.self.now.session in
    let part = c.look_forward-part.result in
    subst (λ (e : Debugger). (p : ℕ) → p < d.place → CameForward d.run d.stops p d.place → MatchPart part (EndsForward d.run d.stops p e.place) (CameForward d.run d.stops p e.place)) (sym c.push_output.ensures.same.session) c.look_forward-part.ensures.ends
