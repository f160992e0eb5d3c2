use Rattle.std.proofs.Common.{◌≡◌, ◌≤◌, ℕ, Option, Some, sym, ap, subst, ◌∙◌, arith}
use Rattle.std.specs.Prelude.{IfSome, MatchOption}
use Rattle.run_timeline.specs.declared.stops.Hit.{Hit}
use Rattle.run_timeline.specs.Moves.{Run, CameBackward, EndsBackward}
use Rattle.run_timeline.specs.TimelineState.{TimelineState}
use Rattle.timeline_walks.proofs.moves.part_back.Goals as goal

-- what stays the same of a timeline that stands elsewhere
reached_same : (s t : TimelineState) (place trail : ℕ) → s ≡ record t { place = place; trail = trail } → s.reached ≡ t.reached
reached_same s t place trail is = ap (λ (x : TimelineState). x.reached) is

pub returns-in-Some : goal.returns-in-Some
returns-in-Some g c =
    let now = c.args.timeline.now in
    let st = c.args.stops.now in
    let inv = c.loop-end.invariant in
    let look = c.look_back-from in
    let run : c.loop-end.timeline.run ≡ now.run = ap (λ (x : TimelineState). x.run) inv.stays in
    let reached : c.loop-end.timeline.reached ≡ now.reached = reached_same c.loop-end.timeline now c.loop-end.timeline.place c.loop-end.timeline.trail inv.stays in
    let same : look.new.self.reached ≡ c.loop-end.timeline.reached = reached_same look.new.self c.loop-end.timeline c.loop-end.end 0 look.ensures.stays in
    let came = subst (λ (r : Run). CameBackward r st now.place c.loop-end.end) (sym run) inv.came in
    let ends = subst (λ (o : Option (ℕ × Hit)). MatchOption o (CameBackward c.loop-end.timeline.run st now.place look.result.0) (λ found. EndsBackward c.loop-end.timeline.run st now.place found.0 (Some found.1)))
    c.in-Some.is (look.ensures.ends now.place (omega (arith, reached, c.are_places.ensures.known)) came) in
    let near : c.in-Some.at ≤ c.loop-end.end = subst (λ (o : Option (ℕ × Hit)). IfSome o (λ found. found.0 ≤ c.loop-end.end)) c.in-Some.is look.ensures.near in
    let there : c.go_to.new.self.place ≡ c.in-Some.at = c.go_to.ensures.known (omega (arith, near, inv.came.0, same, reached, c.are_places.ensures.known)) in
    subst (λ (n : ℕ). EndsBackward now.run st now.place n (Some c.in-Some.hit)) (sym there)
    (subst (λ (r : Run). EndsBackward r st now.place c.in-Some.at (Some c.in-Some.hit)) run ends)

pub loop-end-preserved : goal.loop-end-preserved
loop-end-preserved g c =
    let now = c.args.timeline.now in
    let st = c.args.stops.now in
    let inv = c.loop-end.invariant in
    let look = c.look_back-from in
    let new = look.new.self in
    let run : c.loop-end.timeline.run ≡ now.run = ap (λ (x : TimelineState). x.run) inv.stays in
    let reached : c.loop-end.timeline.reached ≡ now.reached = ap (λ (x : TimelineState). x.reached) inv.stays in
    let came = subst (λ (r : Run). CameBackward r st now.place c.loop-end.end) (sym run) inv.came in
    let further = subst (λ (o : Option (ℕ × Hit)). MatchOption o (CameBackward c.loop-end.timeline.run st now.place look.result.0) (λ found. EndsBackward c.loop-end.timeline.run st now.place found.0 (Some found.1)))
    c.in_default.is (look.ensures.ends now.place (omega (arith, reached, c.are_places.ensures.known)) came) in
    let place : c.loop-end.end ≡ new.place = sym (ap (λ (x : TimelineState). x.place) look.ensures.stays) in
    let trail : 0 ≡ new.trail = sym (ap (λ (x : TimelineState). x.trail) look.ensures.stays) in
    record {
      stays = look.ensures.stays ∙ ap (λ (x : TimelineState). record x { place = c.loop-end.end; trail = 0 }) inv.stays ∙ (λ i. record now { place = place i; trail = trail i });
      came = subst (λ (r : Run). CameBackward r st now.place look.result.0) run further;
    }
