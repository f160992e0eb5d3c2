use Rattle.std.proofs.Common.{◌<◌, sym, subst, arith}
use Rattle.std.specs.Prelude.{⊤}
use Rattle.keepers.specs.Claims.{Tells}
use Rattle.gdb_wire.specs.declared.request.Motion.TheVariants as motion
use Rattle.run_timeline.specs.declared.stops.Part.{Part}
use Rattle.run_timeline.specs.MoveParts.{MatchPart}
use Rattle.run_timeline.specs.Moves.{CameForward, EndsForward}
use Rattle.gdb_session.specs.declared.halt.Halt.{Halt}
use Rattle.gdb_session.specs.ServerState.{GoesSome}
use Rattle.gdb_session.proofs.LineClaims.{tells_here, none_passes}
use Rattle.gdb_session.proofs.PendingOutput.{at_error}
use Rattle.gdb_session.proofs.Motions.{way_begins, way_pauses, way_goes_on, ended_at_once, ended_on, interrupted_on, breaks_way, came_here, parts_on, within_there, Moved}
use Rattle.gdb_session.proofs.MoveKinds.{still_breaks}
use Rattle.gdb_session.proofs.server.Server.run_forward.Goals as goal

pub returns-in_err-part-clause-partly : goal.returns-in_err-part-clause-partly
returns-in_err-part-clause-partly g c = at_error _ (still_breaks c.args.self.now motion.Continue (g.N.Line.told c.args.line.now) c.is_within.ensures)

pub returns-in-Ended-clause-moved : goal.returns-in-Ended-clause-moved
returns-in-Ended-clause-moved g c =
    let s = c.args.self.now in
    let t = c.first_part.new.self in
    let x = g.N.Line.told c.args.line.now in
    let d = s.session in
    let shown = c.in_ok-part.ensures.shown in
    let ends = subst (λ (p : Part). MatchPart p (EndsForward d.run d.stops d.place t.session.place) (CameForward d.run d.stops d.place t.session.place)) c.in-Ended.is c.in_ok-part.ensures.ends in
    subst (λ (halt : Halt). Tells x x (Moved s t motion.Continue halt)) (sym c.halt_of_hit.ensures) (ended_at_once s t x c.in-Ended.hit shown.0 shown.1 ends shown.2 c.first_part.ensures.held)

pub loop-interrupted-init : goal.loop-interrupted-init
loop-interrupted-init g c =
    let s = c.args.self.now in
    let t = c.first_part.new.self in
    let d = s.session in
    let shown = c.in_ok-part.ensures.shown in
    let came = subst (λ (p : Part). MatchPart p (EndsForward d.run d.stops d.place t.session.place) (CameForward d.run d.stops d.place t.session.place)) c.in_default.is c.in_ok-part.ensures.ends in
    let further = subst (λ (p : Part). MatchPart p (λ _. ⊤) (d.place < t.session.place)) c.in_default.is c.in_ok-part.ensures.further in
    record {
      start = c.is_within.ensures;
      way = way_begins s t (g.N.Line.told c.args.line.now) shown.0 came further c.first_part.ensures.within shown.1 shown.2 c.first_part.ensures.held;
      later = omega arith;
    }

pub returns-in_err-interrupted-clause-partly : goal.returns-in_err-interrupted-clause-partly
returns-in_err-interrupted-clause-partly g c =
    at_error _ (breaks_way c.args.self.now c.loop-interrupted.self (g.N.Line.told c.args.line.now) (g.N.Line.told c.loop-interrupted.line) (g.N.Line.told c.pause.new.line) c.loop-interrupted.invariant.way c.in_err-interrupted.ensures.refused)

pub returns-then-interrupted-clause-moved : goal.returns-then-interrupted-clause-moved
returns-then-interrupted-clause-moved g c =
    let s = c.args.self.now in
    let u = c.pause.new.self in
    let x = g.N.Line.told c.args.line.now in
    let z = g.N.Line.told c.pause.new.line in
    let way = way_pauses s c.loop-interrupted.self u x (g.N.Line.told c.loop-interrupted.line) z c.loop-interrupted.invariant.way c.pause.ensures.same c.in_ok-interrupted.ensures.does in
    interrupted_on s u x z way (c.in_ok-interrupted.ensures.interrupted c.if-interrupted.true)

pub next_part-requires : goal.next_part-requires
next_part-requires g c =
    let s = c.args.self.now in
    let u = c.pause.new.self in
    let x = g.N.Line.told c.args.line.now in
    let z = g.N.Line.told c.pause.new.line in
    came_here s u x z (way_pauses s c.loop-interrupted.self u x (g.N.Line.told c.loop-interrupted.line) z c.loop-interrupted.invariant.way c.pause.ensures.same c.in_ok-interrupted.ensures.does)

pub returns-in_err-next-clause-partly : goal.returns-in_err-next-clause-partly
returns-in_err-next-clause-partly g c =
    let s = c.args.self.now in
    let u = c.pause.new.self in
    let x = g.N.Line.told c.args.line.now in
    let z = g.N.Line.told c.pause.new.line in
    let way = way_pauses s c.loop-interrupted.self u x (g.N.Line.told c.loop-interrupted.line) z c.loop-interrupted.invariant.way c.pause.ensures.same c.in_ok-interrupted.ensures.does in
    at_error _ (breaks_way s u x z z way (tells_here z (GoesSome u.out.items) (none_passes u.out.items)))

pub returns-in-Ended-next-clause-moved : goal.returns-in-Ended-next-clause-moved
returns-in-Ended-next-clause-moved g c =
    let s = c.args.self.now in
    let u = c.pause.new.self in
    let v = c.next_part.new.self in
    let x = g.N.Line.told c.args.line.now in
    let z = g.N.Line.told c.pause.new.line in
    let d = s.session in
    let m = v.session.place in
    let way = way_pauses s c.loop-interrupted.self u x (g.N.Line.told c.loop-interrupted.line) z c.loop-interrupted.invariant.way c.pause.ensures.same c.in_ok-interrupted.ensures.does in
    let shown = c.in_ok-next.ensures.shown in
    let all = parts_on s u x z c.in_ok-next.next m way c.in_ok-next.ensures.ends in
    let ends = subst (λ (p : Part). MatchPart p (EndsForward d.run d.stops d.place m) (CameForward d.run d.stops d.place m)) c.in-Ended-next.is all in
    subst (λ (halt : Halt). Tells x z (Moved s v motion.Continue halt)) (sym c.halt_of_hit-in-Ended-next.ensures)
    (ended_on s u v x z c.in-Ended-next.hit shown.0 way shown.1 c.next_part.ensures.order ends shown.2 c.next_part.ensures.held)

pub loop-interrupted-preserved : goal.loop-interrupted-preserved
loop-interrupted-preserved g c =
    let s = c.args.self.now in
    let u = c.pause.new.self in
    let v = c.next_part.new.self in
    let x = g.N.Line.told c.args.line.now in
    let z = g.N.Line.told c.pause.new.line in
    let d = s.session in
    let m = v.session.place in
    let inv = c.loop-interrupted.invariant in
    let before = inv.later in
    let later = c.pause.ensures.later in
    let way = way_pauses s c.loop-interrupted.self u x (g.N.Line.told c.loop-interrupted.line) z inv.way c.pause.ensures.same c.in_ok-interrupted.ensures.does in
    let shown = c.in_ok-next.ensures.shown in
    let all = parts_on s u x z c.in_ok-next.next m way c.in_ok-next.ensures.ends in
    let came = subst (λ (p : Part). MatchPart p (EndsForward d.run d.stops d.place m) (CameForward d.run d.stops d.place m)) c.in_default-next.is all in
    let further = subst (λ (p : Part). MatchPart p (λ _. ⊤) (u.session.place < m)) c.in_default-next.is c.in_ok-next.ensures.further in
    record {
      start = inv.start;
      way = way_goes_on s u v x z shown.0 way shown.1 further (within_there s u x z m way c.next_part.ensures.within) came shown.2 c.next_part.ensures.held;
      later = omega (arith, before, later);
    }
