use Rattle.std.proofs.Common.{List, subst, sym, ℕ, arith}
use Rattle.std.specs.List.{AllByRecursion}
use Rattle.requests.specs.declared.request.Command.{Command}
use Rattle.requests.specs.Bounds.{command_numbers, IsWithin}
use Rattle.reversal.specs.Decision.{DecidesLoaded}
use Rattle.reversal.specs.CommandCheck.{DecidesCheck}
use Rattle.reversal.specs.CommandCertify.{DecidesCertify}
use Rattle.reversal.specs.CommandCost.{DecidesCost}
use Rattle.reversal.specs.CommandPlan.{DecidesPlan, DecidesPlanPeriodic}
use Rattle.reversal.specs.CommandAsm.{DecidesAsm, DecidesDisasm}
use Rattle.reversal.specs.JobModel.{IsDecided}
use Rattle.requests.specs.InputOutcome.{contents_of}
use Rattle.requests.specs.Request.{unit_count}
use Rattle.requests.specs.RequestModel.{as_command}
use Rattle.reversal.proofs.Decisions.{by_another}
use Rattle.requests.proofs.NumberTests.{all_front, all_after, stack_within, workers_within, unit_within}
use Rattle.reversal.proofs.decision.decide.Goals as goal

pub decide_run-requires-clause-run : goal.decide_run-requires-clause-run
decide_run-requires-clause-run g c =
    let P : Command → Type 0 = λ x. AllByRecursion IsWithin (command_numbers (unit_count c.args.request.now.options) (as_command x)) in
    let numbers = subst P c.in-Run.is (all_after _ _ c.requires.numbers) in
    record {
      stack = stack_within c.args.request.now.options (all_front _ _ c.requires.numbers);
      unit = unit_within c.args.request.now.options (all_front _ _ c.requires.numbers);
      steps = numbers.0.1;
      instructions = numbers.1.0.1;
    }

pub decide_run-requires-clause-workers : goal.decide_run-requires-clause-workers
decide_run-requires-clause-workers g c = workers_within c.args.request.now.options (all_front _ _ c.requires.numbers)

pub decide_ask-requires-clause-run : goal.decide_ask-requires-clause-run
decide_ask-requires-clause-run g c =
    let P : Command → Type 0 = λ x. AllByRecursion IsWithin (command_numbers (unit_count c.args.request.now.options) (as_command x)) in
    let numbers = subst P c.in-Ask.is (all_after _ _ c.requires.numbers) in
    record {
      stack = stack_within c.args.request.now.options (all_front _ _ c.requires.numbers);
      unit = unit_within c.args.request.now.options (all_front _ _ c.requires.numbers);
      steps = numbers.0.1;
      instructions = numbers.1.1.0.1;
    }

pub decide_plan-requires-clause-workers : goal.decide_plan-requires-clause-workers
decide_plan-requires-clause-workers g c κs inside =
    let within = workers_within c.args.request.now.options (all_front _ _ c.requires.numbers) in
    let count = c.workers_of.ensures in
    (omega (arith, within.0, count), omega (arith, within.1, count))

pub workers_of-requires : goal.workers_of-requires
workers_of-requires g c = (workers_within c.args.request.now.options (all_front _ _ c.requires.numbers)).1

pub decide_plan-requires-clause-steps : goal.decide_plan-requires-clause-steps
decide_plan-requires-clause-steps g c κs inside =
    let P : Command → Type 0 = λ x. AllByRecursion IsWithin (command_numbers (unit_count c.args.request.now.options) (as_command x)) in
    (subst P c.in-Plan.is (all_after _ _ c.requires.numbers)).0

pub decide_periodic-requires-clause-steps : goal.decide_periodic-requires-clause-steps
decide_periodic-requires-clause-steps g c =
    let P : Command → Type 0 = λ x. AllByRecursion IsWithin (command_numbers (unit_count c.args.request.now.options) (as_command x)) in
    (subst P c.in-PlanPeriodic.is (all_after _ _ c.requires.numbers)).0.1

pub decide_periodic-requires-clause-some : goal.decide_periodic-requires-clause-some
decide_periodic-requires-clause-some g c =
    let P : Command → Type 0 = λ x. AllByRecursion IsWithin (command_numbers (unit_count c.args.request.now.options) (as_command x)) in
    (subst P c.in-PlanPeriodic.is (all_after _ _ c.requires.numbers)).1.0.0

pub decide_periodic-requires-clause-small : goal.decide_periodic-requires-clause-small
decide_periodic-requires-clause-small g c =
    let P : Command → Type 0 = λ x. AllByRecursion IsWithin (command_numbers (unit_count c.args.request.now.options) (as_command x)) in
    (subst P c.in-PlanPeriodic.is (all_after _ _ c.requires.numbers)).1.0.1

pub decide_demo-requires-clause-number : goal.decide_demo-requires-clause-number
decide_demo-requires-clause-number g c =
    let P : Command → Type 0 = λ x. AllByRecursion IsWithin (command_numbers (unit_count c.args.request.now.options) (as_command x)) in
    (subst P c.in-Demo.is (all_after _ _ c.requires.numbers)).0.1

pub decide_demo-requires-clause-steps : goal.decide_demo-requires-clause-steps
decide_demo-requires-clause-steps g c =
    let P : Command → Type 0 = λ x. AllByRecursion IsWithin (command_numbers (unit_count c.args.request.now.options) (as_command x)) in
    (subst P c.in-Demo.is (all_after _ _ c.requires.numbers)).1.0.1

pub decide_demo-requires-clause-slots : goal.decide_demo-requires-clause-slots
decide_demo-requires-clause-slots g c =
    let P : Command → Type 0 = λ x. AllByRecursion IsWithin (command_numbers (unit_count c.args.request.now.options) (as_command x)) in
    (subst P c.in-Demo.is (all_after _ _ c.requires.numbers)).1.1.0.1

pub decide_check-requires-clause-steps : goal.decide_check-requires-clause-steps
decide_check-requires-clause-steps g c =
    let P : Command → Type 0 = λ x. AllByRecursion IsWithin (command_numbers (unit_count c.args.request.now.options) (as_command x)) in
    (subst P c.in-Check.is (all_after _ _ c.requires.numbers)).0.1

pub decide_certify-requires-clause-steps : goal.decide_certify-requires-clause-steps
decide_certify-requires-clause-steps g c =
    let P : Command → Type 0 = λ x. AllByRecursion IsWithin (command_numbers (unit_count c.args.request.now.options) (as_command x)) in
    (subst P c.in-Certify.is (all_after _ _ c.requires.numbers)).0.1

pub decide_ask-requires-clause-question : goal.decide_ask-requires-clause-question
decide_ask-requires-clause-question g c =
    let P : Command → Type 0 = λ x. AllByRecursion IsWithin (command_numbers (unit_count c.args.request.now.options) (as_command x)) in
    (subst P c.in-Ask.is (all_after _ _ c.requires.numbers)).1.0

pub decide_cost-requires-clause-steps : goal.decide_cost-requires-clause-steps
decide_cost-requires-clause-steps g c =
    let P : Command → Type 0 = λ x. AllByRecursion IsWithin (command_numbers (unit_count c.args.request.now.options) (as_command x)) in
    (subst P c.in-Cost.is (all_after _ _ c.requires.numbers)).0.1

pub decide_find-requires-clause-stack : goal.decide_find-requires-clause-stack
decide_find-requires-clause-stack g c = stack_within c.args.request.now.options (all_front _ _ c.requires.numbers)

pub decide_find-requires-clause-workers : goal.decide_find-requires-clause-workers
decide_find-requires-clause-workers g c = workers_within c.args.request.now.options (all_front _ _ c.requires.numbers)

pub decide_find-requires-clause-steps : goal.decide_find-requires-clause-steps
decide_find-requires-clause-steps g c =
    let P : Command → Type 0 = λ x. AllByRecursion IsWithin (command_numbers (unit_count c.args.request.now.options) (as_command x)) in
    (subst P c.in-Find.is (all_after _ _ c.requires.numbers)).0.1

pub returns-in-Run : goal.returns-in-Run
returns-in-Run g c =
    let P : Command → Type 0 = λ x. IsDecided (DecidesLoaded c.args.request.now.options (as_command x) (contents_of c.args.loaded.now) c.args.counts.now) c.args.counts.now c.decide_run.result in
    subst P (sym c.in-Run.is) c.decide_run.ensures.decided

pub returns-in-Ask : goal.returns-in-Ask
returns-in-Ask g c =
    let P : Command → Type 0 = λ x. IsDecided (DecidesLoaded c.args.request.now.options (as_command x) (contents_of c.args.loaded.now) c.args.counts.now) c.args.counts.now c.decide_ask.result in
    subst P (sym c.in-Ask.is) c.decide_ask.ensures

pub returns-in-Check : goal.returns-in-Check
returns-in-Check g c =
    let P : Command → Type 0 = λ x. IsDecided (DecidesLoaded c.args.request.now.options (as_command x) (contents_of c.args.loaded.now) c.args.counts.now) c.args.counts.now c.decide_check.result in
    let Q : List ℕ → Type 0 = λ x. IsDecided (DecidesCheck c.in-Check.check.steps x c.deref-in-Check-2.result.now) c.args.counts.now c.decide_check.result in
    let R : List ℕ → Type 0 = λ x. IsDecided (DecidesCheck c.in-Check.check.steps c.args.loaded.now.book.items x) c.args.counts.now c.decide_check.result in
    subst P (sym c.in-Check.is) (by_another _ _ c.args.counts.now c.decide_check.result (subst R c.deref-in-Check-2.ensures.value (subst Q c.deref-in-Check.ensures.value (c.decide_check.ensures c.args.counts.now))) (λ d h. h))

pub returns-in-Certify : goal.returns-in-Certify
returns-in-Certify g c =
    let P : Command → Type 0 = λ x. IsDecided (DecidesLoaded c.args.request.now.options (as_command x) (contents_of c.args.loaded.now) c.args.counts.now) c.args.counts.now c.decide_certify.result in
    let Q : List ℕ → Type 0 = λ x. IsDecided (DecidesCertify c.in-Certify.certify.steps x c.deref-in-Certify-2.result.now c.deref-in-Certify-3.result.now) c.args.counts.now c.decide_certify.result in
    let R : List ℕ → Type 0 = λ x. IsDecided (DecidesCertify c.in-Certify.certify.steps c.args.loaded.now.book.items x c.deref-in-Certify-3.result.now) c.args.counts.now c.decide_certify.result in
    let S : List ℕ → Type 0 = λ x. IsDecided (DecidesCertify c.in-Certify.certify.steps c.args.loaded.now.book.items c.args.loaded.now.schedule.items x) c.args.counts.now c.decide_certify.result in
    subst P (sym c.in-Certify.is) (by_another _ _ c.args.counts.now c.decide_certify.result (subst S c.deref-in-Certify-3.ensures.value (subst R c.deref-in-Certify-2.ensures.value (subst Q c.deref-in-Certify.ensures.value (c.decide_certify.ensures c.args.counts.now)))) (λ d h. h))

pub returns-in-Cost : goal.returns-in-Cost
returns-in-Cost g c =
    let P : Command → Type 0 = λ x. IsDecided (DecidesLoaded c.args.request.now.options (as_command x) (contents_of c.args.loaded.now) c.args.counts.now) c.args.counts.now c.decide_cost.result in
    let Q : List ℕ → Type 0 = λ x. IsDecided (DecidesCost c.in-Cost.cost.steps x c.deref-in-Cost-2.result.now) c.args.counts.now c.decide_cost.result in
    let R : List ℕ → Type 0 = λ x. IsDecided (DecidesCost c.in-Cost.cost.steps c.args.loaded.now.book.items x) c.args.counts.now c.decide_cost.result in
    subst P (sym c.in-Cost.is) (by_another _ _ c.args.counts.now c.decide_cost.result (subst R c.deref-in-Cost-2.ensures.value (subst Q c.deref-in-Cost.ensures.value (c.decide_cost.ensures c.args.counts.now))) (λ d h. h))

pub returns-in-Plan : goal.returns-in-Plan
returns-in-Plan g c =
    let P : Command → Type 0 = λ x. IsDecided (DecidesLoaded c.args.request.now.options (as_command x) (contents_of c.args.loaded.now) c.args.counts.now) c.args.counts.now c.decide_plan.result in
    let Q : List ℕ → Type 0 = λ x. IsDecided (DecidesPlan c.in-Plan.plan.kind c.in-Plan.plan.steps x) c.args.counts.now c.decide_plan.result in
    subst P (sym c.in-Plan.is) (by_another _ _ c.args.counts.now c.decide_plan.result (subst Q c.deref.ensures.value (c.decide_plan.ensures c.args.counts.now)) (λ d h. h))

pub returns-in-PlanPeriodic : goal.returns-in-PlanPeriodic
returns-in-PlanPeriodic g c =
    let P : Command → Type 0 = λ x. IsDecided (DecidesLoaded c.args.request.now.options (as_command x) (contents_of c.args.loaded.now) c.args.counts.now) c.args.counts.now c.decide_periodic.result in
    let Q : List ℕ → Type 0 = λ x. IsDecided (DecidesPlanPeriodic c.in-PlanPeriodic.plan.steps c.in-PlanPeriodic.plan.period x) c.args.counts.now c.decide_periodic.result in
    subst P (sym c.in-PlanPeriodic.is) (by_another _ _ c.args.counts.now c.decide_periodic.result (subst Q c.deref-in-PlanPeriodic.ensures.value (c.decide_periodic.ensures c.args.counts.now)) (λ d h. h))

pub returns-in-Find : goal.returns-in-Find
returns-in-Find g c =
    let P : Command → Type 0 = λ x. IsDecided (DecidesLoaded c.args.request.now.options (as_command x) (contents_of c.args.loaded.now) c.args.counts.now) c.args.counts.now c.decide_find.result in
    subst P (sym c.in-Find.is) (by_another _ _ c.args.counts.now c.decide_find.result (c.decide_find.ensures c.args.counts.now) (λ d h. h))

pub returns-in-Asm : goal.returns-in-Asm
returns-in-Asm g c =
    let P : Command → Type 0 = λ x. IsDecided (DecidesLoaded c.args.request.now.options (as_command x) (contents_of c.args.loaded.now) c.args.counts.now) c.args.counts.now c.decide_asm.result in
    let Q : List ℕ → Type 0 = λ x. IsDecided (DecidesAsm x) c.args.counts.now c.decide_asm.result in
    subst P (sym c.in-Asm.is) (by_another _ _ c.args.counts.now c.decide_asm.result (subst Q c.deref-in-Asm.ensures.value (c.decide_asm.ensures c.args.counts.now)) (λ d h. h))

pub returns-in-Disasm : goal.returns-in-Disasm
returns-in-Disasm g c =
    let P : Command → Type 0 = λ x. IsDecided (DecidesLoaded c.args.request.now.options (as_command x) (contents_of c.args.loaded.now) c.args.counts.now) c.args.counts.now c.decide_disasm.result in
    let Q : List ℕ → Type 0 = λ x. IsDecided (DecidesDisasm x) c.args.counts.now c.decide_disasm.result in
    subst P (sym c.in-Disasm.is) (by_another _ _ c.args.counts.now c.decide_disasm.result (subst Q c.deref-in-Disasm.ensures.value (c.decide_disasm.ensures c.args.counts.now)) (λ d h. h))

pub decide_console-requires-clause-stack : goal.decide_console-requires-clause-stack
decide_console-requires-clause-stack g c = stack_within c.args.request.now.options (all_front _ _ c.requires.numbers)

pub decide_console-requires-clause-steps : goal.decide_console-requires-clause-steps
decide_console-requires-clause-steps g c =
    let P : Command → Type 0 = λ x. AllByRecursion IsWithin (command_numbers (unit_count c.args.request.now.options) (as_command x)) in
    (subst P c.in-Console.is (all_after _ _ c.requires.numbers)).0.1

pub returns-in-Console : goal.returns-in-Console
returns-in-Console g c =
    let P : Command → Type 0 = λ x. IsDecided (DecidesLoaded c.args.request.now.options (as_command x) (contents_of c.args.loaded.now) c.args.counts.now) c.args.counts.now c.decide_console.result in
    subst P (sym c.in-Console.is) (by_another _ _ c.args.counts.now c.decide_console.result c.decide_console.ensures (λ d h. h))

pub returns-in-Demo : goal.returns-in-Demo
returns-in-Demo g c =
    let P : Command → Type 0 = λ x. IsDecided (DecidesLoaded c.args.request.now.options (as_command x) (contents_of c.args.loaded.now) c.args.counts.now) c.args.counts.now c.decide_demo.result in
    subst P (sym c.in-Demo.is) (by_another _ _ c.args.counts.now c.decide_demo.result (c.decide_demo.ensures c.args.counts.now) (λ d h. h))
