use Rattle.std.proofs.Common.{◌≡◌, true, subst, sym, arith}
use Rattle.rv_machine.specs.declared.status.Status.TheVariants.{Trapped}
use Rattle.rv_machine.specs.MachineState.{IsStatus}
use Rattle.rv_machine.proofs.Causes.{cause_below}
use Rattle.state_image.specs.ImageForm.{number_at, is_value}
use Rattle.state_image.proofs.decoding.status_in.Goals as goal

pub overflow_cast-result-in_default : goal.overflow_cast-result-in_default
overflow_cast-result-in_default c =
    let two : number_at c.args.bytes.now 136 ≡ 2 = omega (arith, c.requires.kind, c.number_at.ensures) in
    let cause : is_value 2 (number_at c.args.bytes.now 140) ≡ true = subst (λ k. is_value k (number_at c.args.bytes.now 140) ≡ true) two c.requires.value in
    let below = cause_below (number_at c.args.bytes.now 140) cause in
    omega (arith, below, c.number_at-value.ensures)

pub returns-in_default-clause-right : goal.returns-in_default-clause-right
returns-in_default-clause-right c =
    let two : number_at c.args.bytes.now 136 ≡ 2 = omega (arith, c.requires.kind, c.number_at.ensures) in
    let cause : is_value 2 (number_at c.args.bytes.now 140) ≡ true = subst (λ k. is_value k (number_at c.args.bytes.now 140) ≡ true) two c.requires.value in
    subst (λ v. IsStatus (Trapped v)) (sym c.number_at-value.ensures) cause
