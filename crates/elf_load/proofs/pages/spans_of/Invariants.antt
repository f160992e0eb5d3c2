use Rattle.std.proofs.Common.{◌≡◌, map, take}
use Rattle.elf_load.specs.Spans.{span_of}
use Rattle.elf_load.proofs.pages.spans_of.Given as goal

abbrev pub invariant-loop-segment : goal.invariant-loop-segment
invariant-loop-segment l = l.spans.items ≡ map span_of (take l.segment-index l.sorted)
