use Rattle.std.proofs.Common.{◌≡◌, ap, arith}
use Rattle.run_timeline.specs.WalkState.{WalkState}
use Rattle.run_timeline.proofs.Walks.{room_for, arrived}
use Rattle.run_timeline.proofs.walk.Walk.go_towards.Goals as goal

pub pass-requires-clause-pages : goal.pass-requires-clause-pages
pass-requires-clause-pages g c = room_for c.self.inside c.advance_until-taken.result c.advance_until-taken.new.state c.self.invariant c.advance_until-taken.ensures.states

pub invariant_of-self : goal.invariant_of-self
invariant_of-self g c =
    let w = c.self.inside in
    let taken = c.advance_until-taken.result in
    let here : w.place ≡ c.args.self.now.place = ap (λ (x : WalkState). x.place) c.self.view_is in
    let most : w.most ≡ c.args.self.now.run.most = ap (λ (x : WalkState). x.run.most) c.self.view_is in
    arrived w c.pass.new.self c.advance_until-taken.new.state taken c.max-self-inside.result c.self.invariant c.advance_until-taken.ensures.states (λ k l. (c.advance_until-taken.ensures.before k l).0)
    (omega (arith, here, most, c.advance_until-taken.ensures.within, c.end_towards-end.ensures, c.requires.within, c.requires.behind)) c.max-self-inside.ensures c.pass.ensures.marks c.pass.ensures.spans
