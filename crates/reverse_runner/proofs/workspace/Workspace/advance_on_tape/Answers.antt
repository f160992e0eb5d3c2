-- The tape ends at the state after the steps, and leads back over those before.
use Rattle.reverse_runner.proofs.Common.{◌∙◌, sym, subst, List, ℕ, Option, MachineState, led, states_below, LeadsBack, states_of, AreDigests}
use Rattle.reverse_runner.proofs.TapeDigests.{known_on_tape}
use Rattle.reverse_runner.proofs.workspace.Workspace.advance_on_tape.Goals as goal

pub returns-clause-back : goal.returns-clause-back
returns-clause-back g c =
    subst (λ (s : MachineState). LeadsBack c.advance_noting.new.undo.entries s (states_below c.args.self.now.desk.work c.args.journal.now c.args.count)) (sym c.copy_from.ensures) c.advance_noting.ensures.back

pub returns-clause-known : goal.returns-clause-known
returns-clause-known g c =
    let back = subst (λ (s : MachineState). LeadsBack c.advance_noting.new.undo.entries s (states_below c.args.self.now.desk.work c.args.journal.now c.args.count)) (sym c.copy_from.ensures) c.advance_noting.ensures.back in
    subst (λ (known : List (Option (List ℕ))). AreDigests known (states_of c.advance_noting.new.undo.entries c.copy_from.new.self)) (sym c.know_first.ensures.known)
    (known_on_tape c.known.result c.args.self.now.desk.work c.args.journal.now c.args.count _ (led c.advance_noting.new.undo.entries c.copy_from.new.self _ back) c.known.ensures)
