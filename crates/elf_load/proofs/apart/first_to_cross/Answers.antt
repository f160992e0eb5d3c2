use Rattle.std.proofs.Common.{◌+◌}
use Rattle.elf_load.proofs.SegmentOverlaps.{segments_behind, first_pair, none_more}
use Rattle.elf_load.proofs.apart.first_to_cross.Goals as goal

pub returns-in-Some : goal.returns-in-Some
returns-in-Some c =
    let h = c.in-Some.ensures in
    first_pair c.args.segments.now _ c.loop-a.a c.in-Some.k (segments_behind c.args.segments.now (c.loop-a.a + 1)) c.loop-a.invariant h.0 h.1 h.2

pub loop-a-preserved : goal.loop-a-preserved
loop-a-preserved c =
    none_more c.args.segments.now _ c.loop-a.a (segments_behind c.args.segments.now (c.loop-a.a + 1)) c.loop-a.invariant c.in_default.ensures
