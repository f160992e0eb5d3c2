use Rattle.std.proofs.Common.{arith}
use Rattle.multistage_gen.proofs.numbers.begin_above.Goals as goal

pub returns-in_ok-add-clause-all : goal.returns-in_ok-add-clause-all
returns-in_ok-add-clause-all c d all is = c.in_ok-add.ensures.all 2 d all (record { stretch = is.stretch; long = omega (arith, c.if-steps-gt1.true); some = is.some })
