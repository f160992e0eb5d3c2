use Rattle.std.proofs.Common.{sym, subst}
use Rattle.requests.specs.declared.kind.PlanKind.{PlanKind}
use Rattle.reversal.specs.CommandPlan.{DecidesPlan}
use Rattle.reversal.specs.JobModel.{IsDecided}
use Rattle.reversal.proofs.Decisions.{by_another}
use Rattle.reversal.proofs.plan_kinds.decide_plan.Goals as goal

pub returns-in-Revolve : goal.returns-in-Revolve
returns-in-Revolve g c counts =
    let P : PlanKind → Type 0 = λ kind. IsDecided (DecidesPlan kind c.args.plan.now.steps c.args.book.now) counts c.decide_revolve.result in
    subst P (sym c.in-Revolve.is) (by_another _ _ counts c.decide_revolve.result (c.decide_revolve.ensures counts) (λ d h. h))

pub returns-in-Multistage : goal.returns-in-Multistage
returns-in-Multistage g c counts =
    let P : PlanKind → Type 0 = λ kind. IsDecided (DecidesPlan kind c.args.plan.now.steps c.args.book.now) counts c.decide_multistage.result in
    subst P (sym c.in-Multistage.is) (by_another _ _ counts c.decide_multistage.result (c.decide_multistage.ensures counts) (λ d h. h))

pub returns-in-Disk : goal.returns-in-Disk
returns-in-Disk g c counts =
    let P : PlanKind → Type 0 = λ kind. IsDecided (DecidesPlan kind c.args.plan.now.steps c.args.book.now) counts c.decide_disk.result in
    subst P (sym c.in-Disk.is) (by_another _ _ counts c.decide_disk.result (c.decide_disk.ensures counts) (λ d h. h))

pub returns-in-Hrevolve : goal.returns-in-Hrevolve
returns-in-Hrevolve g c counts =
    let P : PlanKind → Type 0 = λ kind. IsDecided (DecidesPlan kind c.args.plan.now.steps c.args.book.now) counts c.decide_hrevolve.result in
    subst P (sym c.in-Hrevolve.is) (by_another _ _ counts c.decide_hrevolve.result (c.decide_hrevolve.ensures counts) (λ d h. h))
