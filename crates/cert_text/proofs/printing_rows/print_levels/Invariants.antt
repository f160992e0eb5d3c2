use Rattle.std.specs.List.{range_with_len, flat_map}
use Rattle.keepers.specs.LineWrites.{seen, AddsLines}
use Rattle.cert_text.specs.WordLines.{level_lines}
use Rattle.cert_text.specs.LineWrites.{writes}
use Rattle.cert_text.proofs.printing_rows.print_levels.Given as goal

-- the lines of the levels so far were written
abbrev pub invariant-loop-k : goal.invariant-loop-k
invariant-loop-k g l =
    AddsLines (writes (flat_map (level_lines l.tables) (range_with_len 0 l.k)))
    (seen g.O.Sink l.initial.out) (seen g.O.Sink l.out)
