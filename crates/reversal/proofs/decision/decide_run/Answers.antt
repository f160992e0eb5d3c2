use Rattle.std.proofs.Common.{◌≡◌, ◌⊎◌, sym, subst}
use Rattle.endings.specs.declared.outcome.Outcome.{Outcome}
use Rattle.endings.specs.Outcomes.{no_memory}
use Rattle.requests.specs.declared.schedule.Schedule.{Schedule}
use Rattle.requests.specs.declared.schedule.Schedule.TheVariants.{Named}
use Rattle.requests.specs.RequestModel.{as_schedule}
use Rattle.requests.specs.InputOutcome.{contents_of}
use Rattle.reversal.specs.Job.{Job, perform}
use Rattle.reversal.specs.JobModel.{job_of, IsDecided}
use Rattle.reversal.specs.Table.{Decision, Decided, accept, refuse}
use Rattle.reversal.specs.InputMeaning.{over_loaded}
use Rattle.reversal.proofs.Decisions.{by_error, by_another}
use Rattle.reversal.proofs.decision.decide_run.Goals as goal

pub returns-in_err-over-in-Named-clause-decided : goal.returns-in_err-over-in-Named-clause-decided
returns-in_err-over-in-Named-clause-decided c =
    by_error _ _ c.from_residual.result _ c.from_residual.ensures.1 (λ e gives.
    let same : c.in_err-over-in-Named.field-0.0 ≡ e = cc in
    let D : Schedule → Outcome → Type 0 = λ s x. (x ≡ no_memory)
    ⊎ Decided (over_loaded perform c.args.options.now (as_schedule s) c.args.backward.now.run.steps (contents_of c.args.loaded.now) c.args.counts.now) (refuse x) in
    subst (λ s. D s e) (sym c.in-Named.is) (subst (D (Named c.in-Named.field-0)) same (c.in_err-over-in-Named.ensures.refused perform)))

pub returns-in_ok-over-in-Named-clause-decided : goal.returns-in_ok-over-in-Named-clause-decided
returns-in_ok-over-in-Named-clause-decided c =
    let D : Schedule → Job → Type 0 = λ s j.
    Decided (over_loaded perform c.args.options.now (as_schedule s) c.args.backward.now.run.steps (contents_of c.args.loaded.now) c.args.counts.now) (accept j) in
    record {
      accepted = subst (λ s. D s (job_of c.execution.result)) (sym c.in-Named.is)
          (subst (D (Named c.in-Named.field-0)) (sym c.execution.ensures.job) (c.in_ok-over-in-Named.ensures.accepted perform));
      can_be_done = c.execution.ensures.can_be_done c.in_ok-over-in-Named.ensures.over;
      room = c.execution.ensures.room c.args.counts.now c.in_ok-over-in-Named.ensures.room;
      refused = tt;
    }

pub returns-in-Made-clause-decided : goal.returns-in-Made-clause-decided
returns-in-Made-clause-decided c =
    let D : Schedule → Type 0 = λ s.
    IsDecided (λ (d : Decision). Decided (over_loaded perform c.args.options.now (as_schedule s) c.args.backward.now.run.steps (contents_of c.args.loaded.now) c.args.counts.now) d) c.args.counts.now
    c.decide_made.result in
    by_another _ _ c.args.counts.now c.decide_made.result (subst D (sym c.in-Made.is) c.decide_made.ensures.decided) (λ d h. h)
