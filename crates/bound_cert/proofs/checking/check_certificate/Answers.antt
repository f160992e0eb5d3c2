use Rattle.std.proofs.Common.{arith}
use Rattle.std.proofs.lemmas.Result.{IfOk-weaker}
use Rattle.bound_cert.specs.Verdicts.{IsVerdict}
use Rattle.bound_cert.proofs.VerdictUniqueness.{least_exactly, not_exactly, least_is_least, least_is_cheapest, least_is_nested, least_is_disk}
use Rattle.bound_cert.proofs.checking.check_certificate.Goals as goal

pub returns-in-Valid-clause-accepted : goal.returns-in-Valid-clause-accepted
returns-in-Valid-clause-accepted c =
    IfOk-weaker c.weigh.result (IsVerdict c.args.list.now c.args.steps c.args.book.now c.args.certificate.now) _
    (λ v is. least_exactly c.args.list.now c.args.steps c.args.book.now c.args.certificate.now v is) c.weigh.ensures

pub returns-in-Valid-clause-refused : goal.returns-in-Valid-clause-refused
returns-in-Valid-clause-refused c =
    IfOk-weaker c.weigh.result (IsVerdict c.args.list.now c.args.steps c.args.book.now c.args.certificate.now) _
    (λ v is. not_exactly c.args.list.now c.args.steps c.args.book.now c.args.certificate.now v is) c.weigh.ensures

pub returns-in-Valid-clause-least : goal.returns-in-Valid-clause-least
returns-in-Valid-clause-least c =
    IfOk-weaker c.weigh.result (IsVerdict c.args.list.now c.args.steps c.args.book.now c.args.certificate.now) _
    (λ v is. least_is_least c.args.list.now c.args.steps c.args.book.now c.args.certificate.now v is) c.weigh.ensures

pub returns-in-Valid-clause-least_multistage : goal.returns-in-Valid-clause-least_multistage
returns-in-Valid-clause-least_multistage c =
    IfOk-weaker c.weigh.result (IsVerdict c.args.list.now c.args.steps c.args.book.now c.args.certificate.now) _
    (λ v is. least_is_cheapest c.args.list.now c.args.steps c.args.book.now c.args.certificate.now v is (omega (arith, c.levels-levels.ensures.value, c.levels-levels.ensures.range)) c.costs_rise.ensures) c.weigh.ensures

pub returns-in-Valid-clause-least_nested : goal.returns-in-Valid-clause-least_nested
returns-in-Valid-clause-least_nested c =
    IfOk-weaker c.weigh.result (IsVerdict c.args.list.now c.args.steps c.args.book.now c.args.certificate.now) _
    (λ v is. least_is_nested c.args.list.now c.args.steps c.args.book.now c.args.certificate.now v is (omega (arith, c.levels-levels.ensures.value, c.levels-levels.ensures.range))) c.weigh.ensures

pub returns-in-Valid-clause-least_disk : goal.returns-in-Valid-clause-least_disk
returns-in-Valid-clause-least_disk c =
    IfOk-weaker c.weigh.result (IsVerdict c.args.list.now c.args.steps c.args.book.now c.args.certificate.now) _
    (λ v is. least_is_disk c.args.list.now c.args.steps c.args.book.now c.args.certificate.now v is) c.weigh.ensures
