use Rattle.revolve_gen.proofs.RemainderSteps.{fresh_begun, begun_owing}
use Rattle.revolve_gen.proofs.phases.first_phase.Goals as goal

pub returns-then-steps-gt0-clause-written : goal.returns-then-steps-gt0-clause-written
returns-then-steps-gt0-clause-written c = λ level room. fresh_begun level room c.args.start c.args.steps c.args.first c.if-steps-gt0.true

pub returns-then-steps-gt0-clause-owing : goal.returns-then-steps-gt0-clause-owing
returns-then-steps-gt0-clause-owing c = λ room small plan. begun_owing room c.args.start c.args.steps c.args.first c.if-steps-gt0.true c.requires small plan
