use Rattle.std.proofs.Common.{arith}
use Rattle.bound_cert.proofs.CountableLists.{valid_tallied}
use Rattle.reversal.proofs.ReportLaws.{report_same}
use Rattle.reversal.proofs.cost.counts_of.Goals as goal

pub tally-requires-clause-plain : goal.tally-requires-clause-plain
tally-requires-clause-plain c =
    valid_tallied c.args.steps c.args.book.now c.args.list.now c.requires.steps
    (omega (arith, c.levels-levels.ensures.value, c.levels-levels.ensures.range)) c.requires.valid

pub returns-clause-report : goal.returns-clause-report
returns-clause-report c =
    report_same c.args.list.now c.tally.result (record {
      forward = c.tally.ensures.forward;
      taped = c.tally.ensures.taped;
      reversed = c.tally.ensures.reversed;
      writes = c.tally.ensures.writes;
      reads = c.tally.ensures.reads;
    }) c.args.book.now (omega (arith, c.levels-levels.ensures.value, c.levels-levels.ensures.range))
