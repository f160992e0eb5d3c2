use Rattle.reverse_runner.proofs.Common.{sym}
use Rattle.reverse_runner.proofs.desk.Desk.advance.Goals as goal

pub returns-clause-pages : goal.returns-clause-pages
returns-clause-pages g c = sym c.advance.ensures.mapped
