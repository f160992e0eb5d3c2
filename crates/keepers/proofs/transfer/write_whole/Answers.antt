use Rattle.std.proofs.Common.{arith}
use Rattle.std.proofs.lemmas.Grind.{common_steps}
use Rattle.keepers.proofs.ReadsAndWrites.{taken_more, appends_more, appends_kept}
use Rattle.keepers.proofs.transfer.write_whole.Goals as goal
use Rattle.keepers.proofs.transfer.write_whole.Goals.{in-Ok, in-Err+else-ne}

pub loop-preserved : goal.loop-preserved
loop-preserved g c =
    elim c.match-write.branch [
      | in-Ok w ↦
          let more = appends_more _ _ _ _ _ c.loop.invariant.1 w.in-Ok.ensures.bytes in
          rw w.at-is (grind (arith, common_steps), rw (taken_more c.loop.at w.in-Ok.count c.args.piece.now w.in-Ok.ensures.bound) more)
      | in-Err+else-ne w ↦
          let kept = appends_kept _ _ _ _ c.loop.invariant.1 w.in-Err.ensures.bytes in
          rw w.at-is (c.loop.invariant.0, kept)
    ]
