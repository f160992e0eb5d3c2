use Rattle.std.proofs.Common.{ℕ, List, Option, ◌∙◌, ap, ◌↔◌, IsTrue, sym, subst}
use Rattle.reverse_console.specs.declared.order.Sought.{Sought}
use Rattle.rv_machine.specs.MachineState.{MachineState}
use Rattle.reverse_queries.specs.Queries.{word_bytes}
use Rattle.reverse_console.specs.SearchTargets.{Meets}
use Rattle.reverse_console.proofs.StepSearch.{differ_changes, changes_differ}
use Rattle.reverse_console.proofs.seeking.step_seeking.Goals as goal

pub returns-in-Change-clause-meets : goal.returns-in-Change-clause-meets
returns-in-Change-clause-meets g c =
    let P : Sought → Type 0 = λ s. IsTrue c.some_differ.result ↔ Meets s c.args.journal.now c.args.work.now in
    let bytes : MachineState → List (Option ℕ) = λ s. word_bytes s.memory c.in-Change.word in
    let before = c.bytes_of_word-before.ensures ∙ ap bytes c.state-in-Change.ensures in
    let after = c.bytes_of_word.ensures ∙ ap bytes c.state-in-Change-2.ensures in
    subst P (sym c.in-Change.is) (
      λ t. differ_changes c.args.journal.now c.in-Change.word c.args.work.now c.advance-in-Change.new.self c.bytes_of_word-before.result c.bytes_of_word.result before after c.advance-in-Change.ensures.states (c.some_differ.ensures.0 t),
      λ h. c.some_differ.ensures.1 (changes_differ c.args.journal.now c.in-Change.word c.args.work.now c.advance-in-Change.new.self c.bytes_of_word-before.result c.bytes_of_word.result before after c.advance-in-Change.ensures.states h),
    )
