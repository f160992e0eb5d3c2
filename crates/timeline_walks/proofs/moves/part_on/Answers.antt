use Rattle.std.proofs.Common.{◌≡◌, ◌<◌, max, sym, ap, subst, ◌∙◌, arith}
use Rattle.run_timeline.specs.Moves.{Run, EndsForward, CameForward}
use Rattle.run_timeline.specs.TimelineState.{TimelineState}
use Rattle.timeline_walks.proofs.moves.part_on.Goals as goal

-- a timeline goes further
further_on : (old mid new : TimelineState) → mid ≡ record old { place = mid.place; reached = max old.reached mid.place; trail = 0 } → new ≡ record mid { place = new.place; reached = max mid.reached new.place; trail = 0 } → mid.place < new.place →
    new ≡ record old { place = new.place; reached = max old.reached new.place; trail = 0 }
further_on old mid new e f further =
    let r : mid.reached ≡ max old.reached mid.place = ap (λ (x : TimelineState). x.reached) e in
    let reached : max mid.reached new.place ≡ max old.reached new.place = omega (arith, r, further) in
    f ∙ ap (λ (x : TimelineState). record x { place = new.place; reached = max mid.reached new.place; trail = 0 }) e ∙ (λ i. record old { place = new.place; reached = reached i; trail = 0 })

pub returns-in-Ended-part-clause-ends : goal.returns-in-Ended-part-clause-ends
returns-in-Ended-part-clause-ends g c =
    let now = c.args.timeline.now in
    let st = c.args.stops.now in
    let inv = c.loop-hit.invariant in
    let run : c.loop-hit.timeline.run ≡ now.run = ap (λ (x : TimelineState). x.run) inv.stays in
    let came = subst (λ (r : Run). CameForward r st now.place c.loop-hit.timeline.place) (sym run) inv.came in
    subst (λ (r : Run). EndsForward r st now.place c.look_forward-part.new.self.place c.in-Ended-part.hit) run (c.in-Ended-part.ensures.ends now.place inv.behind came)

pub loop-hit-preserved : goal.loop-hit-preserved
loop-hit-preserved g c =
    let now = c.args.timeline.now in
    let st = c.args.stops.now in
    let inv = c.loop-hit.invariant in
    let new = c.look_forward-part.new.self in
    let further : c.loop-hit.timeline.place < new.place = c.in_default-part.ensures.further in
    let run : c.loop-hit.timeline.run ≡ now.run = ap (λ (x : TimelineState). x.run) inv.stays in
    let came = subst (λ (r : Run). CameForward r st now.place c.loop-hit.timeline.place) (sym run) inv.came in
    record {
      stays = further_on now c.loop-hit.timeline new inv.stays c.look_forward-part.ensures.stays further;
      behind = omega (arith, inv.behind, further);
      came = subst (λ (r : Run). CameForward r st now.place new.place) run (c.in_default-part.ensures.ends now.place inv.behind came);
      counted = omega (arith, inv.counted, c.look_forward-part.ensures.counted);
    }
