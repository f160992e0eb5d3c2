use Rattle.line_texts.proofs.Decimal.{number_found, number_none}
use Rattle.line_texts.proofs.number.number_at.Goals as goal

pub returns-clause-found : goal.returns-clause-found
returns-clause-found c = number_found c.args.limit c.args.bytes.now c.front.result c.ranges.limit.fits c.front.ensures

pub returns-clause-none : goal.returns-clause-none
returns-clause-none c = number_none c.args.limit c.args.bytes.now c.front.result c.ranges.limit.fits c.front.ensures
