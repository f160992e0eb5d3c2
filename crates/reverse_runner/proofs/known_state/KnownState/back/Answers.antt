use Rattle.reverse_runner.proofs.Common.{sym, subst, MachineState, states_of, AreDigests}
use Rattle.reverse_runner.proofs.TapeDigests.{known_here}
use Rattle.reverse_runner.proofs.known_state.KnownState.back.Goals as goal

pub invariant_of-self : goal.invariant_of-self
invariant_of-self c =
    let p = c.back.ensures.back in
    let h = subst (λ (s : MachineState). AreDigests c.args.known.now (states_of c.args.undo.now.entries s)) (sym c.self.view_is) c.requires.known in
    known_here c.args.known.now c.digest_at-self-inside.result c.count.result c.args.undo.now c.back.new.self p.0 c.self.inside.state c.back.new.state c.count.ensures p.1.0 p.1.1 h c.digest_at-self-inside.ensures
