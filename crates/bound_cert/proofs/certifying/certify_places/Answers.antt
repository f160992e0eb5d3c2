use Rattle.std.proofs.Common.{◌≡◌, ℕ, List, sym, subst}
use Rattle.plan_types.specs.declared.action.Action.{Action}
use Rattle.level_book.specs.declared.book.Level.{Level}
use Rattle.revolve_gen.proofs.MultistageValidity.{multistage_valid}
use Rattle.multistage_gen.specs.Plan.{Plan}
use Rattle.multistage_gen.specs.Threshold.{AreSavings}
use Rattle.bound_cert.specs.Thresholds.{IsGreatestSlow}
use Rattle.bound_cert.proofs.ThresholdFit.{placed_member, plan_threshold, planned_fits}
use Rattle.bound_cert.proofs.certifying.certify_places.Goals as goal

-- what is seen of the levels and savings is what the plan has
of_plan : (threshold : ℕ) (plan : Plan) (levels savings : List ℕ) → levels ≡ plan.levels → savings ≡ plan.savings →
    ((list : List Action) (fast slow : Level) → AreSavings list fast slow savings → IsGreatestSlow threshold list fast slow levels) →
    (list : List Action) (fast slow : Level) → AreSavings list fast slow plan.savings → IsGreatestSlow threshold list fast slow plan.levels
of_plan threshold plan levels savings l s most list fast slow are =
    subst (λ (ls : List ℕ). IsGreatestSlow threshold list fast slow ls) l (most list fast slow (subst (AreSavings list fast slow) (sym s) are))

pub returns-clause-threshold : goal.returns-clause-threshold
returns-clause-threshold c steps book is =
    plan_threshold c.greatest_slow.result steps book c.args.plan.now is
    (of_plan c.greatest_slow.result c.args.plan.now c.levels.result.now c.savings.result.now c.levels.ensures c.savings.ensures.savings c.greatest_slow.ensures)

pub returns-clause-accepted : goal.returns-clause-accepted
returns-clause-accepted c steps book is planned =
    let plan = c.args.plan.now in (
      multistage_valid steps book plan.actions (placed_member steps book plan is),
      planned_fits c.greatest_slow.result steps book plan.actions (plan_threshold c.greatest_slow.result steps book plan is
          (of_plan c.greatest_slow.result plan c.levels.result.now c.savings.result.now c.levels.ensures c.savings.ensures.savings c.greatest_slow.ensures)) planned,
    )
