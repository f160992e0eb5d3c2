use Rattle.std.proofs.Common.{◌-◌, ◌*◌, ◌∷◌, ◌++◌, refl, sym, ◌∙◌, ap, subst, arith}
use Rattle.plan_types.specs.declared.action.Dest.TheVariants.{Work}
use Rattle.plan_types.specs.declared.action.Action.TheVariants.{Move}
use Rattle.revolve_gen.specs.Part.{Coming}
use Rattle.disk_gen.specs.declared.phase.Phase.TheVariants.{Back}
use Rattle.disk_gen.specs.Remainder.{owed_behind, IsOwing}
use Rattle.disk_gen.proofs.RemainderSteps.{load, load_fits, load_owing}
use Rattle.disk_gen.proofs.phase.load_newest.Goals as goal

pub begin-requires-clause-plan : goal.begin-requires-clause-plan
begin-requires-clause-plan c = c.requires.owing.next.1 c.requires.some

pub begin-requires-clause-short : goal.begin-requires-clause-short
begin-requires-clause-short c =
    let a = c.args in
    let s = a.stretch.now in
    omega (arith, load_fits a.period a.last s.slots a.held s.levels c.requires.owing c.requires.some)

pub returns-clause-written : goal.returns-clause-written
returns-clause-written c =
    let a = c.args in
    let s = a.stretch.now in
    load a.period a.last s.slots a.held (a.held - 1) ((a.held - 1) * a.period) s.levels c.requires.owing.fast c.requires.owing.some (omega (arith, c.requires.some)) refl
    ∙ ap (λ (t : Coming). Move ((a.held - 1) * a.period) 1 Work ∷ (t.actions ++ owed_behind a.period a.last t.slots (Back (a.held - 1)))) (sym c.begin.ensures)

pub returns-clause-owing : goal.returns-clause-owing
returns-clause-owing c =
    let a = c.args in
    let s = a.stretch.now in
    let P : Coming → Type 0 = λ t. IsOwing a.period a.last t.levels t.slots (Back (a.held - 1)) in
    subst P (sym c.begin.ensures) (load_owing a.period a.last s.slots a.held (a.held - 1) s.levels c.requires.owing (omega (arith, c.requires.some)))
