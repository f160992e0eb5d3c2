use Rattle.std.proofs.Common.{arith}
use Rattle.std.specs.Option.{option_map}
use Rattle.reversal_gdb.proofs.Numbers.{none_outside}
use Rattle.reversal_gdb.proofs.options.number_in.Goals as goal

pub returns-else-least-number-clause-none : goal.returns-else-least-number-clause-none
returns-else-least-number-clause-none c = none_outside (option_map (λ t. t.now) c.args.text) c.args.default c.args.least c.args.greatest c.in_ok-number.number c.in_ok-number.ensures.some (λ low high. grind arith)
