use Rattle.std.proofs.Common.{◌≡◌, sym, ap, subst, arith}
use Rattle.run_timeline.specs.Moves.{Run, EndsForward, CameForward}
use Rattle.run_timeline.specs.WalkState.{WalkState}
use Rattle.run_timeline.proofs.MoveEnds.{further_on}
use Rattle.run_timeline.proofs.walk.Walk.run_forward.Goals as goal

pub returns-in-Ended-look_forward-clause-ends : goal.returns-in-Ended-look_forward-clause-ends
returns-in-Ended-look_forward-clause-ends g c =
    let now = c.args.self.now in
    let st = c.args.stops.now in
    let at = c.loop-hit.self.place in
    let run : c.loop-hit.self.run ≡ now.run = ap (λ (x : WalkState). x.run) c.loop-hit.invariant.stays in
    let came = subst (λ (r : Run). CameForward r st now.place at) (sym run) c.loop-hit.invariant.came in
    subst (λ (r : Run). EndsForward r st now.place c.look_forward.new.self.place c.in-Ended-look_forward.hit) run (c.in-Ended-look_forward.ensures.ends now.place c.loop-hit.invariant.behind came)

pub loop-hit-preserved : goal.loop-hit-preserved
loop-hit-preserved g c =
    let now = c.args.self.now in
    let st = c.args.stops.now in
    let inv = c.loop-hit.invariant in
    let new = c.look_forward.new.self in
    let run : c.loop-hit.self.run ≡ now.run = ap (λ (x : WalkState). x.run) inv.stays in
    let came = subst (λ (r : Run). CameForward r st now.place c.loop-hit.self.place) (sym run) inv.came in
    record {
      stays = further_on now c.loop-hit.self new inv.stays c.look_forward.ensures.stays (omega (arith, c.look_forward.ensures.within));
      behind = omega (arith, inv.behind, c.look_forward.ensures.within);
      came = subst (λ (r : Run). CameForward r st now.place new.place) run (c.in_default-look_forward.ensures.ends now.place inv.behind came);
      counted = omega (arith, inv.counted, c.look_forward.ensures.counted);
    }
