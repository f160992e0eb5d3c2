use Rattle.std.proofs.Common.{◌≡◌, ◌-◌, ◌++◌, false, ap, subst, arith}
use Rattle.rv_machine.specs.Output.{outputs}
use Rattle.run_timeline.specs.Moves.{state}
use Rattle.run_timeline.specs.WalkState.{WalkState}
use Rattle.run_timeline.proofs.OutputCollector.{collected_from}
use Rattle.run_timeline.proofs.Walks.{went_on}
use Rattle.run_timeline.proofs.walk.Walk.collect_to.Goals as goal

pub invariant_of-self : goal.invariant_of-self
invariant_of-self g c =
    let here = ap (λ (x : WalkState). x.place) c.self.view_is in
    let reached = ap (λ (x : WalkState). x.reached) c.self.view_is in
    went_on c.self.inside c.advance_watched.new.state c.args.place c.self.invariant (omega (arith, here, c.requires.behind)) (omega (arith, reached, c.requires.known)) c.advance_watched.ensures.states

pub returns-clause-bytes : goal.returns-clause-bytes
returns-clause-bytes g c n is ok =
    let w = c.self.inside in
    let here : w.place ≡ c.args.self.now.place = ap (λ (x : WalkState). x.place) c.self.view_is in
    let u = c.args.collector.now in
    let v = c.advance_watched.new.watch in
    subst (λ (x : WalkState). (u.failed ≡ false) × (v.bytes.items ≡ u.bytes.items ++ outputs (state x.run x.place) x.run.journal n)) c.self.view_is
    (collected_from (record { first = w.first; journal = w.journal; most = w.most }) w.place (c.args.place - w.place) n w.work u v c.self.invariant.work (omega (arith, here, is)) c.advance_watched.ensures.noted ok)
