use Rattle.std.proofs.Common.{length, subst, sym, ap, ◌∙◌, refl, arith}
use Rattle.class_rules.specs.PlaceLevels.{HasPlaceLevels}
use Rattle.class_rules.proofs.ClassByLevels.{at_some}
use Rattle.multistage_gen.specs.Threshold.{AreSavings}
use Rattle.bound_cert.specs.Thresholds.{AreOn}
use Rattle.bound_cert.proofs.ThresholdFit.{two_levels, few_places, fitting}
use Rattle.bound_cert.proofs.places.weigh_places.Goals as goal

pub first_misfit-requires-clause-each : goal.first_misfit-requires-clause-each
first_misfit-requires-clause-each c =
    let has = at_some c.in_ok-levels.field-0 c.in-Some.levels _ _ c.in-Some.is c.in_ok-levels.ensures in
    let two = two_levels c.args.listed.now.book.now.levels has.two in
    let saved = c.in_ok-savings.ensures two.0 two.1 two.2 in
    ap length c.deref-2.ensures.value ∙ saved.count ∙ sym has.count ∙ sym (ap length c.deref.ensures.value)

pub first_misfit-requires-clause-few : goal.first_misfit-requires-clause-few
first_misfit-requires-clause-few c =
    let has = at_some c.in_ok-levels.field-0 c.in-Some.levels _ _ c.in-Some.is c.in_ok-levels.ensures in
    let few = few_places c.args.listed.now.steps c.args.listed.now.book.now c.args.listed.now.list.now c.in-Some.levels.items has in
    omega (arith, few, ap length c.deref.ensures.value, c.requires.short)

pub returns-in-Some-first_misfit : goal.returns-in-Some-first_misfit
returns-in-Some-first_misfit c =
    let list = c.args.listed.now.list.now in
    let has = at_some c.in_ok-levels.field-0 c.in-Some.levels _ _ c.in-Some.is c.in_ok-levels.ensures in
    let two = two_levels c.args.listed.now.book.now.levels has.two in
    let saved = subst (AreSavings list two.0 two.1) (sym c.deref-2.ensures.value) (c.in_ok-savings.ensures two.0 two.1 two.2) in
    let on : AreOn c.args.listed.now.steps c.args.listed.now.book.now list two.0 two.1 c.deref.result.now =
    record { two = two.2; has = subst (HasPlaceLevels c.args.listed.now.steps c.args.listed.now.book.now list) (sym c.deref.ensures.value) has } in
    let found = c.in-Some-first_misfit.ensures c.args.listed.now.steps c.args.listed.now.book.now list two.0 two.1 c.room.ensures on saved in
    (c.requires.valid, record { fast = two.0; slow = two.1; levels = c.deref.result.now; are_on = on; misfits = found.0; none_before = found.1 })

pub returns : goal.returns
returns c =
    let list = c.args.listed.now.list.now in
    let has = at_some c.in_ok-levels.field-0 c.in-Some.levels _ _ c.in-Some.is c.in_ok-levels.ensures in
    let two = two_levels c.args.listed.now.book.now.levels has.two in
    let saved = subst (AreSavings list two.0 two.1) (sym c.deref-2.ensures.value) (c.in_ok-savings.ensures two.0 two.1 two.2) in
    let on : AreOn c.args.listed.now.steps c.args.listed.now.book.now list two.0 two.1 c.deref.result.now =
    record { two = two.2; has = subst (HasPlaceLevels c.args.listed.now.steps c.args.listed.now.book.now list) (sym c.deref.ensures.value) has } in
    let none = c.in-None.ensures c.args.listed.now.steps c.args.listed.now.book.now list two.0 two.1 c.room.ensures on saved in
    (refl, (c.requires.valid, fitting c.args.threshold c.args.listed.now.steps c.args.listed.now.book.now list two.0 two.1 c.deref.result.now on none))
