use Rattle.hrevolve_gen.proofs.PartReads.{readable}
use Rattle.hrevolve_gen.proofs.list.whole_list.Goals as goal

pub write_fresh-requires-clause-ready : goal.write_fresh-requires-clause-ready
write_fresh-requires-clause-ready c = readable c.args.book.now c.args.tables.now c.requires.ready
