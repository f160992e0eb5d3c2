use Rattle.line_texts.proofs.Decimal.{numbered}
use Rattle.line_texts.proofs.number.number_of.Goals as goal

pub returns-clause-number : goal.returns-clause-number
returns-clause-number c = numbered c.args.limit c.args.text.now c.whole.result c.ranges.limit.fits c.whole.ensures
