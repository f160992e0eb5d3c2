use Rattle.std.proofs.Common.{◌≡◌, ℕ, ◌+◌, ◌≤◌, max, Some, sym, ap, subst, ◌∙◌, arith}
use Rattle.std.specs.Prelude.{Option}
use Rattle.run_timeline.specs.declared.stops.Hit.{Hit}
use Rattle.run_timeline.specs.Moves.{Run, state}
use Rattle.run_timeline.specs.WalkState.{WalkState, IsFew}
use Rattle.run_timeline.specs.Moves.{EndsBackward}
use Rattle.run_timeline.specs.StepObservations.{seen, IsLastSeen}
use Rattle.run_timeline.proofs.StopHits.{NothingSeen, ends_at_first, seen_near}
use Rattle.run_timeline.proofs.MoveEnds.{ends_at_seen, unseen_from, place_before, few_same, few_max}
use Rattle.run_timeline.proofs.walk.Walk.run_back.Goals as goal

pub return_to-requires : goal.return_to-requires
return_to-requires g c =
    let now = c.args.self.now in
    let inv = c.loop-end.invariant in
    let look = c.look_before-from in
    let reached : look.new.self.reached ≡ now.reached = ap (λ (x : WalkState). x.reached) look.ensures.goes ∙ ap (λ (x : WalkState). x.reached) inv.stays in
    let few = look.ensures.few in
    let last = subst (λ (o : Option (ℕ × Hit)). IsLastSeen (λ k. seen c.args.stops.now c.loop-end.self.run.journal (look.result.0 + k) (state c.loop-end.self.run (look.result.0 + k))) few.0 o) c.in-Some.is (look.ensures.last few.0 few.1.0) in
    let near : c.in-Some.at ≤ look.result.0 + last.0 + 1 = seen_near c.args.stops.now c.loop-end.self.run.journal (look.result.0 + last.0) (state c.loop-end.self.run (look.result.0 + last.0)) (c.in-Some.at, c.in-Some.hit) last.1.1 in
    omega (arith, near, last.1.0, few.1.0, reached, inv.high, c.are_places.ensures.known)

pub returns-in-Some-clause-ends : goal.returns-in-Some-clause-ends
returns-in-Some-clause-ends g c =
    let now = c.args.self.now in
    let st = c.args.stops.now in
    let inv = c.loop-end.invariant in
    let look = c.look_before-from in
    let from = look.result.0 in
    let run : c.loop-end.self.run ≡ now.run = ap (λ (x : WalkState). x.run) inv.stays in
    let few = look.ensures.few in
    let last = subst (λ (o : Option (ℕ × Hit)). IsLastSeen (λ k. seen st now.run.journal (from + k) (state now.run (from + k))) few.0 o) c.in-Some.is
    (subst (λ (r : Run). IsLastSeen (λ k. seen st r.journal (from + k) (state r (from + k))) few.0 look.result.1) run (look.ensures.last few.0 few.1.0)) in
    let there : c.return_to.new.self.place ≡ c.in-Some.at = ap (λ (x : WalkState). x.place) c.return_to.ensures.goes in
    subst (λ (n : ℕ). EndsBackward now.run st now.place n (Some c.in-Some.hit)) (sym there)
    (ends_at_seen now.run st from c.loop-end.end now.place few.0 (c.in-Some.at, c.in-Some.hit) (place_before now.run now.place now.reached c.are_places.ensures.known c.are_places.ensures.places) inv.high few.1.0 last inv.nothing)

pub returns-in-Some-clause-counted : goal.returns-in-Some-clause-counted
returns-in-Some-clause-counted g c =
    let now = c.args.self.now in
    let inv = c.loop-end.invariant in
    let look = c.look_before-from in
    let few = look.ensures.few in
    let back = c.return_to.ensures.counted in
    let one : IsFew now few.0 = few_same c.loop-end.self now few.0 c.loop-end.self.place inv.stays few.1.1 in
    let seen_there : look.new.self ≡ record now { place = c.loop-end.end } = look.ensures.goes ∙ ap (λ (x : WalkState). record x { place = c.loop-end.end }) inv.stays in
    let two : IsFew now back.0 = few_same look.new.self now back.0 c.loop-end.end seen_there back.1.2 in
    let there : c.return_to.new.self.place ≡ c.in-Some.at = ap (λ (x : WalkState). x.place) c.return_to.ensures.goes in
    let last = subst (λ (o : Option (ℕ × Hit)). IsLastSeen (λ k. seen c.args.stops.now c.loop-end.self.run.journal (look.result.0 + k) (state c.loop-end.self.run (look.result.0 + k))) few.0 o) c.in-Some.is (look.ensures.last few.0 few.1.0) in
    let near : c.in-Some.at ≤ look.result.0 + last.0 + 1 = seen_near c.args.stops.now c.loop-end.self.run.journal (look.result.0 + last.0) (state c.loop-end.self.run (look.result.0 + last.0)) (c.in-Some.at, c.in-Some.hit) last.1.1 in
    (max few.0 back.0, (omega (arith, near, last.1.0, few.1.0, there, back.1.0, look.ensures.counted, inv.counted), few_max now few.0 back.0 one two))

pub loop-end-preserved : goal.loop-end-preserved
loop-end-preserved g c =
    let now = c.args.self.now in
    let st = c.args.stops.now in
    let inv = c.loop-end.invariant in
    let look = c.look_before-from in
    let from = look.result.0 in
    let run : c.loop-end.self.run ≡ now.run = ap (λ (x : WalkState). x.run) inv.stays in
    let few = look.ensures.few in
    let none = subst (λ (o : Option (ℕ × Hit)). IsLastSeen (λ k. seen st now.run.journal (from + k) (state now.run (from + k))) few.0 o) c.in_default.is
    (subst (λ (r : Run). IsLastSeen (λ k. seen st r.journal (from + k) (state r (from + k))) few.0 look.result.1) run (look.ensures.last few.0 few.1.0)) in
    let there : c.loop-end.end ≡ look.new.self.place = sym (ap (λ (x : WalkState). x.place) look.ensures.goes) in
    record {
      stays = look.ensures.goes ∙ ap (λ (x : WalkState). record x { place = c.loop-end.end }) inv.stays ∙ ap (λ (n : ℕ). record now { place = n }) there;
      high = omega (arith, look.ensures.from, inv.high);
      nothing = unseen_from now.run st from c.loop-end.end now.place few.0 few.1.0 none inv.nothing;
      counted = omega (arith, look.ensures.counted, inv.counted);
    }

pub returns-clause-ends : goal.returns-clause-ends
returns-clause-ends g c =
    let now = c.args.self.now in
    let inv = c.loop-end.invariant in
    let first : c.loop-end.end ≡ 0 = omega arith in
    let there : c.return_to-2.new.self.place ≡ 0 = ap (λ (x : WalkState). x.place) c.return_to-2.ensures.goes in
    let nothing = subst (λ (n : ℕ). NothingSeen now.run c.args.stops.now n now.place) first inv.nothing in
    (there, ends_at_first now.run c.args.stops.now now.place (place_before now.run now.place now.reached c.are_places.ensures.known c.are_places.ensures.places) nothing)
