use Rattle.std.proofs.Common.{◌≡◌, ℕ, ◌-◌, ◌∙◌, ap, subst, length, arith}
use Rattle.binomials.specs.Laws.{IsStretch}
use Rattle.revolve_gen.specs.Places.{level_at}
use Rattle.revolve_gen.proofs.RemainderSteps.{held_one_owed, held_more_owed, held_taken, held_owing}
use Rattle.revolve_gen.proofs.phases.held_action.Goals as goal

pub returns-then-newest-eq1-clause-written : goal.returns-then-newest-eq1-clause-written
returns-then-newest-eq1-clause-written c =
    let level = level_at c.args.places.now in
    let xs = c.pop.new.self.items in
    let place : c.len.result ≡ length xs = omega (arith, c.len.ensures, c.pop.new.self.ok.0) in
    held_one_owed level c.args.room xs c.args.stack.now.items c.in-Some.newest c.level-level.result c.in-Some.ensures.items c.if-newest-eq1.true (c.level-level.ensures ∙ ap level place)

pub returns-then-newest-eq1-clause-owing : goal.returns-then-newest-eq1-clause-owing
returns-then-newest-eq1-clause-owing c =
    let xs = c.pop.new.self.items in
    let taken = held_taken c.args.room xs c.args.stack.now.items c.in-Some.newest c.requires.owing c.in-Some.ensures.items in
    let P : ℕ → Type 0 = λ steps. IsStretch steps (c.args.room - length xs) in
    let whole = taken.0.within in
    let short = taken.1 in
    record {
      few = omega arith;
      small = c.requires.owing.small;
      stretches = taken.2;
      next = record { stretch = subst P c.if-newest-eq1.true taken.0.stretch; within = omega (arith, c.if-newest-eq1.true) };
    }

pub hold_front-ahead-requires-clause-some : goal.hold_front-ahead-requires-clause-some
hold_front-ahead-requires-clause-some c =
    let taken = held_taken c.args.room c.pop.new.self.items c.args.stack.now.items c.in-Some.newest c.requires.owing c.in-Some.ensures.items in
    omega (arith, taken.0.stretch.some, c.if-newest-eq1.false)

pub hold_front-ahead-requires-clause-short : goal.hold_front-ahead-requires-clause-short
hold_front-ahead-requires-clause-short c =
    let taken = held_taken c.args.room c.pop.new.self.items c.args.stack.now.items c.in-Some.newest c.requires.owing c.in-Some.ensures.items in
    omega (arith, taken.0.within)

pub hold_front-ahead-requires-clause-place : goal.hold_front-ahead-requires-clause-place
hold_front-ahead-requires-clause-place c =
    (held_taken c.args.room c.pop.new.self.items c.args.stack.now.items c.in-Some.newest c.requires.owing c.in-Some.ensures.items).1

pub overflow_add-result : goal.overflow_add-result
overflow_add-result c =
    let taken = held_taken c.args.room c.pop.new.self.items c.args.stack.now.items c.in-Some.newest c.requires.owing c.in-Some.ensures.items in
    omega (arith, taken.0.within, c.hold_front-ahead.ensures.within.shorter)

pub overflow_add-result-2 : goal.overflow_add-result-2
overflow_add-result-2 c =
    let taken = held_taken c.args.room c.pop.new.self.items c.args.stack.now.items c.in-Some.newest c.requires.owing c.in-Some.ensures.items in
    omega (arith, taken.0.within)

pub returns-clause-written : goal.returns-clause-written
returns-clause-written c =
    let level = level_at c.args.places.now in
    let xs = c.pop.new.self.items in
    let place : c.len.result ≡ length xs = omega (arith, c.len.ensures, c.pop.new.self.ok.0) in
    let taken = held_taken c.args.room xs c.args.stack.now.items c.in-Some.newest c.requires.owing c.in-Some.ensures.items in
    let front = c.hold_front-ahead.ensures in
    held_more_owed level c.args.room xs c.args.stack.now.items c.hold_front-ahead.new.stack.items c.in-Some.newest c.hold_front-ahead.result c.level-level.result
    c.in-Some.ensures.items taken.0.stretch (omega (arith, taken.0.stretch.some, c.if-newest-eq1.false)) front.value (c.level-level.ensures ∙ ap level place) front.pushed

pub returns-clause-owing : goal.returns-clause-owing
returns-clause-owing c =
    let xs = c.pop.new.self.items in
    let taken = held_taken c.args.room xs c.args.stack.now.items c.in-Some.newest c.requires.owing c.in-Some.ensures.items in
    let front = c.hold_front-ahead.ensures in
    held_owing c.args.room xs c.hold_front-ahead.new.stack.items c.in-Some.newest.start c.in-Some.newest.steps c.hold_front-ahead.result c.requires.owing.small taken.0 taken.1 taken.2
    front.within front.pushed
