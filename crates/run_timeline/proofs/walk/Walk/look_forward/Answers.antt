use Rattle.std.proofs.Common.{◌≡◌, ap, subst, ◌∙◌, sym, arith, inl, inr}
use Rattle.std.specs.Option.{option_map, option_or}
use Rattle.run_timeline.specs.declared.stops.Hit.TheVariants.{Watch}
use Rattle.run_timeline.specs.Moves.{Run, EndsForward, broken, watched}
use Rattle.run_timeline.specs.WalkState.{WalkState}
use Rattle.run_timeline.proofs.MoveEnds.{ends_looking, last_ends}
use Rattle.run_timeline.proofs.walk.Walk.look_forward.Goals as goal
use Rattle.run_timeline.proofs.walk.Walk.look_forward.Goals.{else-place-most-via-then-place-most+else-not-look_towards, else-place-most-via-else-place-most}

pub returns-clause-ends : goal.returns-clause-ends
returns-clause-ends g c p behind came =
    let now = c.args.self.now in
    let st = c.args.stops.now in
    let new = c.else-place-most.self in
    elim c.else-place-most.branch [
      | else-place-most-via-then-place-most+else-not-look_towards w ↦
          (let same = w.self-is in
          let run : new.run ≡ now.run = ap (λ (x : WalkState). x.run) same ∙ ap (λ (x : WalkState). x.run) w.look_towards.ensures.stays in
          let there : new.place ≡ w.look_towards.new.self.place = ap (λ (x : WalkState). x.place) same in
          let is = subst (λ (r : Run). c.hit.result ≡ option_or (broken r st new.place) (option_map Watch (watched r st new.place))) run c.hit.ensures in
          let at = subst (λ n. c.hit.result ≡ option_or (broken now.run st n) (option_map Watch (watched now.run st n))) there is in
          let ends = ends_looking now.run st p now.place w.look_towards.new.self.place c.hit.result behind (omega (arith, w.look_towards.ensures.within)) came.1 w.look_towards.ensures.before at (inr (w.look_towards.ensures.ends w.if-not-look_towards.false)) in
          subst (λ n. EndsForward now.run st p n c.hit.result) (sym there) ends)
      | else-place-most-via-else-place-most w ↦
          (let same = w.self-is in
          let is = subst (λ (x : WalkState). c.hit.result ≡ option_or (broken x.run st x.place) (option_map Watch (watched x.run st x.place))) same c.hit.ensures in
          let there : new.place ≡ now.place = ap (λ (x : WalkState). x.place) same in
          let ends = ends_looking now.run st p now.place now.place c.hit.result behind (omega arith) came.1 (λ k low high. absurd (omega (arith, low, high))) is (inl (last_ends now.run now.place (omega (arith, w.if-place-most.false, c.place.ensures.value, c.most.ensures, c.are_places.ensures)))) in
          subst (λ n. EndsForward now.run st p n c.hit.result) (sym there) ends)
    ]
