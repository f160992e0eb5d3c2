use Rattle.std.proofs.Common.{refl}
use Rattle.elf_load.proofs.SegmentOverlaps.{apart_by_neighbours}
use Rattle.elf_load.proofs.apart.first_overlap.Goals as goal

pub returns-then-neighbours_are_apart : goal.returns-then-neighbours_are_apart
returns-then-neighbours_are_apart c = apart_by_neighbours c.args.segments.now c.args.sorted.now c.requires.same c.requires.differ (c.if-neighbours_are_apart.ensures refl)
