use Rattle.std.proofs.Common.{◌≡◌, sym, subst}
use Rattle.rv_machine.specs.States.{state_number}
use Rattle.reverse_console.specs.Answer.{IsAnswer}
use Rattle.reverse_console.specs.ConsoleState.{ConsoleState, source_of}
use Rattle.reverse_console.specs.MarkInvariant.{source}
use Rattle.reverse_console.specs.StateSources.{ComesFrom, IsAnswerSeen}
use Rattle.reverse_console.specs.MarksOfRun.{Stands}
use Rattle.reverse_console.proofs.OrderCosts.{source_stands}
use Rattle.reverse_console.proofs.MarkStates.{comes_from_run}
use Rattle.reverse_console.proofs.FetchedStates.{answer_of_seen}
use Rattle.reverse_console.proofs.console.Console.sees_its_run.Goals as goal

pub returns-clause-states : goal.returns-clause-states
returns-clause-states c first told is stands i n s =
    let inside = c.self.inside in
    let p = inside.marks in
    let j = inside.journal in
    let S : ConsoleState → Type 0 = λ x. Stands first x told in
    let st = subst S (sym c.self.view_is) stands in
    let from = source_stands first p j inside.desk told is c.is_recorded.ensures st.machine st.levels in
    let P : ConsoleState → Type 0 = λ x. ComesFrom (source_of x told) i n s → s ≡ state_number first x.journal n in
    subst P c.self.view_is (comes_from_run first (source p j inside.desk told) i n s from)

pub returns-clause-answers : goal.returns-clause-answers
returns-clause-answers c first told is stands place order answer =
    let inside = c.self.inside in
    let p = inside.marks in
    let j = inside.journal in
    let S : ConsoleState → Type 0 = λ x. Stands first x told in
    let st = subst S (sym c.self.view_is) stands in
    let from = source_stands first p j inside.desk told is c.is_recorded.ensures st.machine st.levels in
    let P : ConsoleState → Type 0 = λ x. IsAnswerSeen (source_of x told) place order answer → IsAnswer first x.journal x.plan.count place order answer in
    subst P c.self.view_is (answer_of_seen first (source p j inside.desk told) place order answer from)
