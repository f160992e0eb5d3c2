use Rattle.std.proofs.Common.{◌≡◌, ◌≤◌, ◌+◌, ◌++◌, length, take, arith}
use Rattle.std.proofs.lemmas.Grind.{common_steps}
use Rattle.keepers.proofs.ReadsAndWrites.{consumes_more, consumes_kept, consumes_begins}
use Rattle.keepers.proofs.transfer.read_whole.Goals as goal
use Rattle.keepers.proofs.transfer.read_whole.Goals.{in-Ok+else-count-left+else-is_err, in-Err+else-ne}

pub loop-preserved : goal.loop-preserved
loop-preserved g c =
    elim c.match-read.branch [
      | in-Ok+else-count-left+else-is_err w ↦
          let more = consumes_more _ _ _ _ _ c.loop.invariant.2 w.in-Ok.ensures.bytes.0 in
          let items : w.extend_from_slice.new.self.items ≡ c.loop.into.items ++ take w.in-Ok.count c.read.new.buf = grind (arith, common_steps) in
          rw w.into-is (grind (arith, common_steps), omega arith, rw items more)
      | in-Err+else-ne w ↦
          let kept = consumes_kept _ _ _ _ c.loop.invariant.2 w.in-Err.ensures.bytes in
          rw w.into-is (c.loop.invariant.0, c.loop.invariant.1, kept)
    ]

pub returns-then-count-left-clause-takes : goal.returns-then-count-left-clause-takes
returns-then-count-left-clause-takes g c =
    let more = consumes_more _ _ _ _ _ c.loop.invariant.2 c.in-Ok.ensures.bytes.0 in
    let within = c.loop.invariant.0 in
    let few = c.in-Ok.ensures.bound in
    let long : length (c.loop.into.items ++ take c.in-Ok.count c.read.new.buf) ≤ c.args.limit + 1 = grind (arith, common_steps, within, few) in
    (_, (long, more))

pub returns-then-is_err-clause-takes : goal.returns-then-is_err-clause-takes
returns-then-is_err-clause-takes g c =
    let more = consumes_more _ _ _ _ _ c.loop.invariant.2 c.in-Ok.ensures.bytes.0 in
    let within = c.loop.invariant.0 in
    let few = c.in-Ok.ensures.bound in
    let long : length (c.loop.into.items ++ take c.in-Ok.count c.read.new.buf) ≤ c.args.limit + 1 = grind (arith, common_steps, within, few) in
    (_, (long, more))

pub returns-then-ne-clause-begun : goal.returns-then-ne-clause-begun
returns-then-ne-clause-begun g c = consumes_begins _ _ _ c.loop.invariant.2
