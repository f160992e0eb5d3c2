use Rattle.std.proofs.Common.{◌≡◌, ◌⊎◌, List, append-nil, sym, ◌∙◌, ap, subst}
use Rattle.std.specs.List.{AllByRecursion}
use Rattle.plan_types.specs.declared.action.Action.{Action}
use Rattle.level_book.specs.BookCosts.{slots_of, names_of}
use Rattle.action_text.specs.Canonical.{HasSpelling}
use Rattle.disk_gen.specs.PeriodicList.{periodic_list}
use Rattle.disk_gen.proofs.PeriodicValidity.{periodic_valid}
use Rattle.endings.specs.declared.outcome.Outcome.{Outcome}
use Rattle.reversal.specs.Job.{Job, write}
use Rattle.endings.specs.Outcomes.{bad_book, no_memory}
use Rattle.reversal.specs.Plans.{list_pieces}
use Rattle.reversal.specs.NoPlans.{IsUnperiodic}
use Rattle.reversal.specs.InputMeaning.{HasBookFault}
use Rattle.reversal.specs.CommandPlan.{DecidesPlanPeriodic}
use Rattle.reversal.specs.Table.{accept}
use Rattle.reversal.specs.JobModel.{IsRefusal}
use Rattle.reversal.proofs.ActionSpelling.{valid_spelled}
use Rattle.reversal.proofs.RevolvePlan.{as_many}
use Rattle.reversal.proofs.DecisionLaws.{periodic_by_book, periodic_by_plan, periodic_accepted}
use Rattle.reversal.proofs.Decisions.{by_error}
use Rattle.reversal.proofs.periodic.decide_periodic.Goals as goal

pub returns-in_err-book : goal.returns-in_err-book
returns-in_err-book c counts =
    by_error _ _ c.from_residual.result _ c.from_residual.ensures.1 (λ e gives.
    let same : c.in_err-book.field-0.0 ≡ e = cc in
    let P : Outcome → Type 0 = λ x. IsRefusal (HasBookFault c.args.book.now) bad_book x in
    periodic_by_book c.args.plan.now.steps c.args.plan.now.period c.args.book.now e (subst P same c.in_err-book.ensures.refused))

pub returns-in_err-periodic : goal.returns-in_err-periodic
returns-in_err-periodic c counts =
    by_error _ _ c.from_residual-in_err-periodic.result _ c.from_residual-in_err-periodic.ensures.1 (λ e gives.
    let same : c.in_err-periodic.field-0.0 ≡ e = cc in
    let P : Outcome → Type 0 = λ x. (x ≡ no_memory) ⊎ IsUnperiodic c.args.plan.now.steps c.args.plan.now.period c.in_ok-book.book x in
    periodic_by_plan c.args.plan.now.steps c.args.plan.now.period c.args.book.now e c.in_ok-book.book c.in_ok-book.ensures.found (subst P same c.in_err-periodic.ensures.refused))

pub plan_job-requires : goal.plan_job-requires
plan_job-requires c =
    let b = c.in_ok-book.book in
    let S : List Action → Type 0 = λ l. AllByRecursion (HasSpelling (names_of b)) l in
    subst S (sym c.in_ok-periodic.ensures.list) (valid_spelled c.args.plan.now.steps (slots_of b) (names_of b) (periodic_list c.args.plan.now.steps c.args.plan.now.period b) c.requires.steps (as_many b) (periodic_valid c.args.plan.now.steps c.args.plan.now.period b c.requires.some c.in_ok-periodic.ensures.plan))

pub returns : goal.returns
returns c counts =
    let b = c.in_ok-book.book in
    let plan = c.in_ok-periodic.ensures.plan in
    let D : Job → Type 0 = λ j. DecidesPlanPeriodic c.args.plan.now.steps c.args.plan.now.period c.args.book.now (accept j) in
    record {
      accepted = subst D (sym (c.in_ok-job.ensures.job ∙ ap write (append-nil _) ∙ ap (λ l. write (list_pieces (names_of b) l)) c.in_ok-periodic.ensures.list))
          (periodic_accepted c.args.plan.now.steps c.args.plan.now.period c.args.book.now b c.in_ok-book.ensures.found plan.two plan.fast plan.slow);
      can_be_done = c.in_ok-job.ensures.can_be_done;
      room = c.in_ok-job.ensures.room counts;
      refused = tt;
    }
