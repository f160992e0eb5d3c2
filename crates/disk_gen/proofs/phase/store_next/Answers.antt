use Rattle.std.proofs.Common.{◌+◌, ◌-◌, ◌*◌, ◌∷◌, ◌++◌, refl, sym, ◌∙◌, ap, subst, arith}
use Rattle.plan_types.specs.declared.action.Keep.TheVariants.{Store}
use Rattle.plan_types.specs.declared.action.Action.TheVariants.{Forward}
use Rattle.revolve_gen.specs.Part.{Coming}
use Rattle.disk_gen.specs.declared.phase.Phase.TheVariants.{Ahead, Back}
use Rattle.disk_gen.specs.Remainder.{owed_behind, IsOwing}
use Rattle.disk_gen.proofs.RemainderSteps.{store_more, store_last, store_fits, more_owing, last_owing}
use Rattle.disk_gen.proofs.phase.store_next.Goals as goal

pub returns-then-left-gt1-clause-written : goal.returns-then-left-gt1-clause-written
returns-then-left-gt1-clause-written c =
    let a = c.args in
    let s = a.stretch.now in
    store_more a.period a.last s.slots a.held a.left (a.held + 1) (a.left - 1) refl (omega (arith, c.if-left-gt1.true))
    ∙ ap (λ t. Forward (a.held * a.period) (a.held * a.period + a.period) (Store 1) ∷ (t ++ owed_behind a.period a.last s.slots (Ahead (a.held + 1) (a.left - 1)))) (sym c.requires.done)

pub returns-then-left-gt1-clause-owing : goal.returns-then-left-gt1-clause-owing
returns-then-left-gt1-clause-owing c =
    let a = c.args in
    let s = a.stretch.now in
    more_owing a.period a.last s.slots a.held a.left (a.held + 1) (a.left - 1) s.levels c.requires.owing refl (omega (arith, c.if-left-gt1.true)) (omega (arith, c.if-left-gt1.true))

pub begin-requires-clause-plan : goal.begin-requires-clause-plan
begin-requires-clause-plan c = c.requires.owing.next.3

pub begin-requires-clause-short : goal.begin-requires-clause-short
begin-requires-clause-short c =
    let a = c.args in
    let s = a.stretch.now in
    omega (arith, store_fits a.period a.last s.slots a.held a.left s.levels c.requires.owing)

pub returns-clause-written : goal.returns-clause-written
returns-clause-written c =
    let a = c.args in
    let s = a.stretch.now in
    store_last a.period a.last s.slots a.held a.left (a.held + 1) (a.held * a.period + a.period) s.levels c.requires.owing.fast (omega (arith, c.if-left-gt1.false, c.requires.owing.next.0)) refl refl
    ∙ ap (λ (t : Coming). Forward (a.held * a.period) (a.held * a.period + a.period) (Store 1) ∷ (t.actions ++ owed_behind a.period a.last t.slots (Back (a.held + 1)))) (sym c.begin.ensures)

pub returns-clause-owing : goal.returns-clause-owing
returns-clause-owing c =
    let a = c.args in
    let s = a.stretch.now in
    let P : Coming → Type 0 = λ t. IsOwing a.period a.last t.levels t.slots (Back (a.held + 1)) in
    subst P (sym c.begin.ensures) (last_owing a.period a.last s.slots a.held a.left (a.held + 1) s.levels c.requires.owing refl)
