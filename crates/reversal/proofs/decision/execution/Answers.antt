use Rattle.std.proofs.Common.{◌≤◌, List, length, sym, ap, subst}
use Rattle.plan_types.specs.declared.action.Action.{Action}
use Rattle.level_book.specs.BookCosts.{slots_of}
use Rattle.level_book.specs.Valid.{Valid}
use Rattle.reversal.specs.Job.{perform}
use Rattle.reversal.specs.InputMeaning.{in_units}
use Rattle.reversal.proofs.decision.execution.Goals as goal

pub returns-clause-job : goal.returns-clause-job
returns-clause-job c =
    let o = c.args.over in
    ap (λ l. perform (in_units o.unit o.start o.journal o.steps (slots_of o.book) l)) c.new.ensures

pub returns-clause-can_be_done : goal.returns-clause-can_be_done
returns-clause-can_be_done c is =
    let o = c.args.over in
    let F : List Action → Type 0 = λ l. length l ≤ 16777216 in
    let V : List Action → Type 0 = λ l. Valid o.steps (slots_of o.book) l in
    record { steps = is.steps; unit = is.unit; instructions = is.instructions; few = subst F (sym c.new.ensures) is.few; valid = subst V (sym c.new.ensures) is.valid }
