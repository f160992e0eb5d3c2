use Rattle.std.proofs.Common.{map, take}
use Rattle.std.specs.List.{enumerate_from}
use Rattle.cost_report.specs.Report.{level_line}
use Rattle.keepers.specs.LineWrites.{seen, AddsLines}
use Rattle.cost_report.proofs.reporting.write_levels.Given as goal

-- the lines of the levels so far were added
abbrev pub invariant-loop-k : goal.invariant-loop-k
invariant-loop-k g l =
    AddsLines (map (level_line l.counts) (enumerate_from 0 (take l.k l.book.levels)))
    (seen g.O.Sink l.initial.out) (seen g.O.Sink l.out)
