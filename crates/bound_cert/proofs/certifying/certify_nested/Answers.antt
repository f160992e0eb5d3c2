use Rattle.std.proofs.Common.{arith}
use Rattle.bound_cert.proofs.PlanCertificates.{nested_accepted}
use Rattle.bound_cert.proofs.Texts.{nested_has_text}
use Rattle.bound_cert.proofs.certifying.certify_nested.Goals as goal

pub returns-clause-accepted : goal.returns-clause-accepted
returns-clause-accepted c list steps book limits fits sized greatest plan written =
    nested_accepted list steps book c.args.tables (omega (arith, c.levels-levels.ensures.value, c.levels-levels.ensures.range, sized.level_count)) limits fits sized greatest plan written

pub returns-clause-text : goal.returns-clause-text
returns-clause-text c steps book limits fits sized greatest = nested_has_text steps book c.args.tables limits fits sized c.is_shaped.ensures greatest
