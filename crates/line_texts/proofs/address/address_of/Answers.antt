use Rattle.line_texts.proofs.Addresses.{addressed}
use Rattle.line_texts.proofs.address.address_of.Goals as goal

pub returns-clause-address : goal.returns-clause-address
returns-clause-address c = addressed c.args.text.now c.read.result c.read.ensures
