use Rattle.std.proofs.Common.{arith}
use Rattle.unit_undo.proofs.UndoTrail.{can_go, gone}
use Rattle.library_tests.proofs.digest_tests.check_digests.Goals as goal

pub back-requires : goal.back-requires
back-requires g c = can_go c.loop-rt.undo.entries c.loop-rt.state (omega (arith, c.count.ensures, c.loop-rt-test.true)) c.loop-rt.invariant

pub loop-rt-preserved : goal.loop-rt-preserved
loop-rt-preserved g c =
    let p = c.back.ensures.back in
    gone c.loop-rt.undo c.back.new.self p.0 c.loop-rt.state c.back.new.state p.1.0 p.1.1 c.loop-rt.invariant
