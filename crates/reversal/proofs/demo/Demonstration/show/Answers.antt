use Rattle.std.proofs.Common.{ℕ, inl, inr, refl}
use Rattle.endings.specs.Outcomes.{done, stopped}
use Rattle.reversal.specs.Moment.{Moment, beside}
use Rattle.reversal.proofs.DemoDeeds.{halted, whole, in_part}
use Rattle.reversal.proofs.demo.Demonstration.show.Goals as goal

pub returns-in_default-digest : goal.returns-in_default-digest
returns-in_default-digest g c other =
    let d = c.args.self in
    let seen : g.row.O.Denot → ℕ → Moment = λ out steps. beside g.O.Sink other out steps in
    inr (inr (
      refl,
      halted d.number d.start d.steps d.slots c.in-Ok.run' (seen c.args.out.now c.args.counter.now) (seen c.args.out.now c.digest.new.counter)
          c.in-Ok.ensures.list c.in_default-digest.ensures refl refl refl (record { sink = refl; keepers = λ k. refl }),
    ))

pub returns-in-Ok-write : goal.returns-in-Ok-write
returns-in-Ok-write g c other =
    let d = c.args.self in
    let seen : g.row.O.Denot → ℕ → Moment = λ out steps. beside g.O.Sink other out steps in
    inr (inl (whole d.number d.start d.steps d.slots c.in-Ok.run' c.in-Ok.ensures.session c.in-Ok.ensures.list c.in-Some.digest c.summary.result c.bytes.result.now c.in-Some.ensures.0 c.summary.ensures c.bytes.ensures.value
    (seen c.args.out.now c.args.counter.now) (seen c.write.new.self c.digest.new.counter) c.in-Some.ensures.1 done (record { sink = c.in-Ok-write.ensures.quiet; keepers = λ k. refl }) refl c.in-Ok-write.ensures.ok c.write.ensures.calls refl))

pub returns : goal.returns
returns g c other =
    let d = c.args.self in
    let seen : g.row.O.Denot → ℕ → Moment = λ out steps. beside g.O.Sink other out steps in
    inr (inl (in_part d.number d.start d.steps d.slots c.in-Ok.run' c.in-Ok.ensures.session c.in-Ok.ensures.list c.in-Some.digest c.summary.result c.bytes.result.now c.in-Some.ensures.0 c.summary.ensures c.bytes.ensures.value
    (seen c.args.out.now c.args.counter.now) (seen c.write.new.self c.digest.new.counter) c.in-Some.ensures.1 (stopped 0) (record { sink = c.in-Err.ensures.cause; keepers = λ k. refl }) refl c.in-Err.ensures.refused c.write.ensures.calls refl))
