use Rattle.std.proofs.Common.{◌≡◌, ◌++◌, List, sym, ◌∙◌, subst}
use Rattle.std.specs.List.{AllByRecursion}
use Rattle.plan_types.specs.declared.action.Action.{Action}
use Rattle.level_book.specs.BookCosts.{names_of}
use Rattle.action_text.specs.Canonical.{HasSpelling}
use Rattle.cert_text.specs.Canonical as certificate
use Rattle.endings.specs.declared.outcome.Outcome.{Outcome}
use Rattle.reversal.specs.Job.{Job, write}
use Rattle.endings.specs.Outcomes.{bad_book}
use Rattle.reversal.specs.Plans.{list_pieces}
use Rattle.reversal.specs.InputMeaning.{HasBookFault}
use Rattle.reversal.specs.CommandPlan.{DecidesPlanRevolve}
use Rattle.reversal.specs.Table.{accept}
use Rattle.reversal.specs.JobModel.{IsRefusal}
use Rattle.reversal.proofs.RevolvePlan.{plan_spelled, certificate_is}
use Rattle.reversal.proofs.DecisionLaws.{IsUnplanned, plan_by_book, plan_by_plan, plan_accepted}
use Rattle.reversal.proofs.Decisions.{by_error}
use Rattle.reversal.proofs.planning.decide_revolve.Goals as goal

pub returns-in_err-book : goal.returns-in_err-book
returns-in_err-book c counts =
    by_error _ _ c.from_residual.result _ c.from_residual.ensures.1 (λ e gives.
    let same : c.in_err-book.field-0.0 ≡ e = cc in
    let P : Outcome → Type 0 = λ x. IsRefusal (HasBookFault c.args.book.now) bad_book x in
    plan_by_book c.args.steps c.args.book.now e (subst P same c.in_err-book.ensures.refused))

pub returns-in_err-revolve : goal.returns-in_err-revolve
returns-in_err-revolve c counts =
    by_error _ _ c.from_residual-in_err-revolve.result _ c.from_residual-in_err-revolve.ensures.1 (λ e gives.
    let same : c.in_err-revolve.field-0.0 ≡ e = cc in
    let P : Outcome → Type 0 = λ x. IsUnplanned c.args.steps c.in_ok-book.book x in
    plan_by_plan c.args.steps c.args.book.now e c.in_ok-book.book c.in_ok-book.ensures.found (subst P same c.in_err-revolve.ensures.refused))

pub plan_job-requires : goal.plan_job-requires
plan_job-requires c =
    let b = c.in_ok-book.book in
    let S : List Action → Type 0 = λ l. AllByRecursion (HasSpelling (names_of b)) l in
    subst S (sym c.in_ok-revolve.ensures.list) (plan_spelled c.args.steps b c.requires.steps c.in_ok-revolve.ensures.plan)

pub returns : goal.returns
returns c counts =
    let b = c.in_ok-book.book in
    let D : Job → Type 0 = λ j. DecidesPlanRevolve c.args.steps c.args.book.now (accept j) in
    let is = certificate_is c.args.steps b c.certify_revolve-certificate.result c.certify_revolve-certificate.ensures.few c.certify_revolve-certificate.ensures.more in
    record {
      accepted = subst D (sym (c.in_ok-job.ensures.job ∙ (λ i. write (list_pieces (names_of b) (c.in_ok-revolve.ensures.list i) ++ certificate.pieces (is i)))))
          (plan_accepted c.args.steps c.args.book.now b c.in_ok-book.ensures.found c.in_ok-revolve.ensures.plan);
      can_be_done = c.in_ok-job.ensures.can_be_done;
      room = c.in_ok-job.ensures.room counts;
      refused = tt;
    }
