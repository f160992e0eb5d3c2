use Rattle.std.proofs.Common.{[], sym, subst, arith}
use Rattle.keepers.specs.Claims.{Tells}
use Rattle.gdb_wire.specs.declared.request.Motion.TheVariants as motion
use Rattle.gdb_session.specs.declared.halt.Halt.{Halt}
use Rattle.gdb_session.specs.ServerState.{Does, IsMoved}
use Rattle.gdb_session.proofs.PendingOutput.{at_error}
use Rattle.gdb_session.proofs.Backward.{back_begins, at_found, back_paused, at_interrupt, at_first, at_refusal}
use Rattle.gdb_session.proofs.server.Server.run_back.Goals as goal

pub loop-end-init : goal.loop-end-init
loop-end-init g c = record {
  start = c.is_within.ensures;
  way = back_begins c.args.self.now c.place-end.result (g.N.Line.told c.args.line.now) c.place-end.ensures;
  later = omega arith;
}

pub look_back-from-requires : goal.look_back-from-requires
look_back-from-requires g c =
    let high = c.loop-end.invariant.way.high in
    record { some = omega arith; known = high }

pub returns-in-Some-clause-moved : goal.returns-in-Some-clause-moved
returns-in-Some-clause-moved g c =
    let s = c.args.self.now in
    let t = c.loop-end.self in
    let look = c.look_back-from in
    let go = c.go_to.new.self in
    let x = g.N.Line.told c.args.line.now in
    let y = g.N.Line.told c.loop-end.line in
    let all =
    at_found s t c.loop-end.end look.result.0 c.in-Some.at x y look.result.1 c.in-Some.hit look.new.self go c.loop-end.invariant.way c.in-Some.is look.ensures.ends look.ensures.stays c.go_to.ensures.goes c.go_to.ensures.known in
    subst (λ (halt : Halt). Tells x y (λ a b. IsMoved s (record t { session = go }) motion.ContinueBack halt [] × Does s (record t { session = go }) [] a b)) (sym c.halt_of_hit.ensures) all

pub returns-in_err-interrupted-clause-partly : goal.returns-in_err-interrupted-clause-partly
returns-in_err-interrupted-clause-partly g c =
    let inv = c.loop-end.invariant in
    at_error _ (at_refusal c.args.self.now c.loop-end.self c.loop-end.end (g.N.Line.told c.args.line.now) (g.N.Line.told c.loop-end.line) (g.N.Line.told c.is_interrupted.new.line) inv.start inv.way c.in_err-interrupted.ensures.refused)

pub loop-end-preserved : goal.loop-end-preserved
loop-end-preserved g c =
    let inv = c.loop-end.invariant in
    let look = c.look_back-from in
    let before = inv.later in
    let later = c.is_interrupted.ensures.later in
    record {
      start = inv.start;
      way = back_paused c.args.self.now c.loop-end.self c.is_interrupted.new.self c.loop-end.end look.result.0 (g.N.Line.told c.args.line.now) (g.N.Line.told c.loop-end.line) (g.N.Line.told c.is_interrupted.new.line) look.result.1 look.new.self
          inv.way c.in_default.is look.ensures.ends look.ensures.from look.ensures.stays c.is_interrupted.ensures.same c.in_ok-interrupted.ensures.holds;
      later = omega (arith, before, later);
    }

pub returns-clause-moved : goal.returns-clause-moved
returns-clause-moved g c =
    let t = c.loop-end.self in
    at_first c.args.self.now t c.loop-end.end (g.N.Line.told c.args.line.now) (g.N.Line.told c.loop-end.line) c.go_to-2.new.self c.loop-end.invariant.way (omega arith) c.go_to-2.ensures.goes c.go_to-2.ensures.known

pub returns-then-interrupted-clause-moved : goal.returns-then-interrupted-clause-moved
returns-then-interrupted-clause-moved g c =
    let s = c.args.self.now in
    let v = c.is_interrupted.new.self in
    let look = c.look_back-from in
    let x = g.N.Line.told c.args.line.now in
    let z = g.N.Line.told c.is_interrupted.new.line in
    let way =
    back_paused s c.loop-end.self v c.loop-end.end look.result.0 x (g.N.Line.told c.loop-end.line) z look.result.1 look.new.self
    c.loop-end.invariant.way c.in_default.is look.ensures.ends look.ensures.from look.ensures.stays c.is_interrupted.ensures.same c.in_ok-interrupted.ensures.holds in
    at_interrupt s v look.result.0 x z c.go_to-then-interrupted.new.self way (c.in_ok-interrupted.ensures.interrupted c.if-interrupted.true) c.go_to-then-interrupted.ensures.goes c.go_to-then-interrupted.ensures.known
