use Rattle.std.proofs.Common.{arith}
use Rattle.bound_cert.proofs.CountableLists.{valid_tallied}
use Rattle.bound_cert.proofs.listed.Listed.cost.Goals as goal

pub tally-requires-clause-plain : goal.tally-requires-clause-plain
tally-requires-clause-plain c =
    valid_tallied c.args.self.now.steps c.args.self.now.book.now c.args.self.now.list.now c.requires.short
    (omega (arith, c.levels-levels.ensures.value, c.levels-levels.ensures.range)) c.requires.valid
