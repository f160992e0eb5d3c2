use Rattle.bound_cert.proofs.ThresholdFit.{below_first, above_first}
use Rattle.bound_cert.proofs.places.first_misfit.Goals as goal

pub returns-in-Some : goal.returns-in-Some
returns-in-Some c steps book list fast slow most on are =
    below_first c.args.threshold steps book list fast slow c.args.levels.now c.args.savings.now on are c.in-Some.place _ c.misfit.ensures c.in-Some.ensures

pub returns-in-Some-first_above : goal.returns-in-Some-first_above
returns-in-Some-first_above c steps book list fast slow most on are =
    above_first c.args.threshold steps book list fast slow c.args.levels.now c.args.savings.now on are c.in-Some-first_above.place _ c.misfit-in-Some-first_above.ensures
    c.in_default.ensures c.in-Some-first_above.ensures
