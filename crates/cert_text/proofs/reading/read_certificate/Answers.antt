use Rattle.cert_text.proofs.TextLaws.{only_said, only_fault}
use Rattle.cert_text.proofs.reading.read_certificate.Goals as goal

pub returns-clause-only : goal.returns-clause-only
returns-clause-only c = only_said c.args.steps c.args.book.now c.args.bytes.now c.read.result c.read.ensures

pub returns-clause-first : goal.returns-clause-first
returns-clause-first c = only_fault c.args.steps c.args.book.now c.args.bytes.now c.read.result c.read.ensures
