use Rattle.std.proofs.Common.{◌≡◌, subst, ◌∙◌, ap}
use Rattle.cost_report.specs.Report.{report_lines}
use Rattle.endings.specs.declared.outcome.Outcome.{Outcome}
use Rattle.reversal.specs.CostReport.{list_report}
use Rattle.reversal.specs.JobModel.{IsUnjudged}
use Rattle.reversal.proofs.DecisionLaws.{cost_refuses, cost_accepted}
use Rattle.reversal.proofs.Decisions.{by_error}
use Rattle.reversal.proofs.cost.decide_cost.Goals as goal

pub returns-in_err-book : goal.returns-in_err-book
returns-in_err-book c counts =
    by_error _ _ c.from_residual.result _ c.from_residual.ensures.1 (λ e gives.
    let same : c.in_err-book.field-0.0 ≡ e = cc in
    let P : Outcome → Type 0 = λ x. IsUnjudged c.args.steps c.args.book.now c.args.schedule.now x in
    cost_refuses c.args.steps c.args.book.now c.args.schedule.now e (subst P same c.in_err-book.ensures.refused))

pub returns : goal.returns
returns c counts =
    let book = c.in_ok-book.book in
    let valid = c.in_ok-book.ensures in
    record {
      accepted = cost_accepted c.args.steps c.args.book.now c.args.schedule.now book c.in_ok-book.list.items (report_lines book c.counts_of-counts.result) valid.book valid.list valid.valid
          (c.counts_of-counts.ensures.report ∙ ap (list_report book) c.deref.ensures.value);
      can_be_done = c.counts_of-counts.ensures.bounded;
      room = tt;
      refused = tt;
    }
