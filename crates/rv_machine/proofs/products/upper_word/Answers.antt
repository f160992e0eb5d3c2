use Rattle.rv_machine.proofs.UpperWords.{upper_cast}
use Rattle.rv_machine.proofs.products.upper_word.Goals as goal

pub returns : goal.returns
returns c = upper_cast c.args.number c.cast_unsigned.result c.ranges.number c.cast_unsigned.ensures
