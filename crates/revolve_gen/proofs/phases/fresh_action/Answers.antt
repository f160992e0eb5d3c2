use Rattle.std.proofs.Common.{◌≡◌, ◌+◌, ◌-◌, ◌∷◌, ◌++◌, sym, ◌∙◌, ap, length, arith}
use Rattle.plan_types.specs.declared.action.Action.TheVariants.{Forward}
use Rattle.plan_types.specs.declared.action.Keep.TheVariants.{Tape}
use Rattle.revolve_gen.specs.Places.{level_at}
use Rattle.revolve_gen.specs.RevolveList.{one_step}
use Rattle.revolve_gen.specs.Remainder.{owed}
use Rattle.revolve_gen.proofs.RevolveRules.{has_slot}
use Rattle.revolve_gen.proofs.RemainderSteps.{below, fresh_one_owed, fresh_more_owed, fresh_owing}
use Rattle.revolve_gen.proofs.phases.fresh_action.Goals as goal
use Rattle.revolve_gen.proofs.phases.fresh_action.Goals.{then-first, else-first}

pub returns-then-steps-eq1-clause-written : goal.returns-then-steps-eq1-clause-written
returns-then-steps-eq1-clause-written c =
    let level = level_at c.args.places.now in
    let xs = c.args.stack.now.items in
    fresh_one_owed level c.args.room xs c.args.start c.args.steps c.args.first c.if-steps-eq1.true
    ∙ elim c.if-first.branch [
      | then-first w ↦ ap (λ t. one_step t c.args.start ++ below level c.args.room xs) w.if-first.true ∙ ap (λ phase. Forward c.args.start (c.args.start + 1) Tape ∷ owed level c.args.room phase xs) (sym w.phase-is)
      | else-first w ↦ ap (λ t. one_step t c.args.start ++ below level c.args.room xs) w.if-first.false ∙ ap (λ phase. Forward c.args.start (c.args.start + 1) Tape ∷ owed level c.args.room phase xs) (sym w.phase-is)
    ]

pub hold_front-ahead-requires-clause-place : goal.hold_front-ahead-requires-clause-place
hold_front-ahead-requires-clause-place c =
    let stretch = c.requires.owing.next.stretch in
    omega (arith, has_slot c.args.steps (c.args.room - length c.args.stack.now.items) stretch (omega (arith, stretch.some, c.if-steps-eq1.false)))

pub returns-clause-written : goal.returns-clause-written
returns-clause-written c =
    let level = level_at c.args.places.now in
    let xs = c.args.stack.now.items in
    let stretch = c.requires.owing.next.stretch in
    let front = c.hold_front-ahead.ensures in
    let place : c.len.result ≡ length xs = omega (arith, c.len.ensures, c.args.stack.now.ok.0) in
    fresh_more_owed level c.args.room xs c.hold_front-ahead.new.stack.items c.args.start c.args.steps c.hold_front-ahead.result c.level-level.result c.args.first
    stretch (omega (arith, stretch.some, c.if-steps-eq1.false)) front.value (c.level-level.ensures ∙ ap level place) front.pushed

pub returns-clause-owing : goal.returns-clause-owing
returns-clause-owing c =
    let xs = c.args.stack.now.items in
    let stretch = c.requires.owing.next.stretch in
    let slot = has_slot c.args.steps (c.args.room - length xs) stretch (omega (arith, stretch.some, c.if-steps-eq1.false)) in
    let front = c.hold_front-ahead.ensures in
    fresh_owing c.args.room xs c.hold_front-ahead.new.stack.items c.args.start c.args.steps c.hold_front-ahead.result c.args.first c.requires.owing front.within (omega arith) front.pushed
