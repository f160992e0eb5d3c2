use Rattle.std.proofs.Common.{◌+◌, refl, arith}
use Rattle.std.proofs.Math.Nat.{mul-le-mul}
use Rattle.bound_cert.proofs.PlanCertificates.{few_accepted, many_accepted}
use Rattle.bound_cert.proofs.VerdictUniqueness.{none_fewer}
use Rattle.revolve_gen.specs.RevolveList.{revolve_list}
use Rattle.cert_text.specs.declared.certificate.Certificate.TheVariants.{Revolve}
use Rattle.bound_cert.proofs.certifying.certify_revolve.Goals as goal

pub returns-then-steps-le1-clause-accepted : goal.returns-then-steps-le1-clause-accepted
returns-then-steps-le1-clause-accepted c = few_accepted c.args.steps c.args.book.now c.from.result c.requires.plan c.if-steps-le1.true c.from.ensures

pub returns-then-steps-le1-clause-least : goal.returns-then-steps-le1-clause-least
returns-then-steps-le1-clause-least c =
    none_fewer (revolve_list c.args.steps c.args.book.now) c.args.steps c.args.book.now (Revolve 0 c.from.result) refl
    (few_accepted c.args.steps c.args.book.now c.from.result c.requires.plan c.if-steps-le1.true c.from.ensures)

pub returns-clause-accepted : goal.returns-clause-accepted
returns-clause-accepted c =
    many_accepted c.args.steps c.args.book.now c.total_room-slots.result c.repeats.result _ c.requires.plan c.if-steps-le1.false c.total_room-slots.ensures c.repeats.ensures.value
    (omega (arith, c.from-2.ensures, c.least_advances.ensures.value))

pub returns-clause-least : goal.returns-clause-least
returns-clause-least c =
    none_fewer (revolve_list c.args.steps c.args.book.now) c.args.steps c.args.book.now (Revolve c.repeats.result (c.from-2.result + c.least_advances.result)) refl
    (many_accepted c.args.steps c.args.book.now c.total_room-slots.result c.repeats.result _ c.requires.plan c.if-steps-le1.false c.total_room-slots.ensures c.repeats.ensures.value
    (omega (arith, c.from-2.ensures, c.least_advances.ensures.value)))

pub returns-then-steps-le1-clause-text : goal.returns-then-steps-le1-clause-text
returns-then-steps-le1-clause-text c = (omega arith, omega (arith, c.from.ensures, c.requires.short))

pub returns-clause-text : goal.returns-clause-text
returns-clause-text c =
    let short = c.requires.short in
    let square = mul-le-mul short short in
    (omega (arith, c.repeats.ensures.few, short), omega (arith, c.from-2.ensures, c.least_advances.ensures.few, square, short))
