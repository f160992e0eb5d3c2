use Rattle.reversal_gdb.proofs.Numbers.{parsed, not_parsed}
use Rattle.reversal_gdb.proofs.options.number_of.Goals as goal

pub returns-in-Some-clause-some : goal.returns-in-Some-clause-some
returns-in-Some-clause-some c = parsed c.args.text c.in-Some.digits c.args.default c.parse.result c.ok.result c.in-Some.is c.parse.ensures.value.0 c.ok.ensures.value

pub returns-in-Some-clause-none : goal.returns-in-Some-clause-none
returns-in-Some-clause-none c = not_parsed c.args.text c.in-Some.digits c.args.default c.parse.result c.ok.result c.in-Some.is c.parse.ensures.value.0 c.ok.ensures.value
