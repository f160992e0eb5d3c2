use Rattle.std.proofs.Common.{sym, ◌∙◌, ap}
use Rattle.rv_machine.specs.States.{state_number}
use Rattle.rv_machine.proofs.Runs.{state_number-add}
use Rattle.segment_sweep.proofs.marks.advance.Goals as goal

pub returns-clause-state : goal.returns-clause-state
returns-clause-state g c = λ s n e. c.advance.ensures.states ∙ ap (λ t. state_number t c.args.journal.now c.args.count) e ∙ sym (state_number-add s c.args.journal.now n c.args.count)
