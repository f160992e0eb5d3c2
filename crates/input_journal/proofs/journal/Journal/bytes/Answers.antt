use Rattle.std.proofs.Common.{◌<◌, length, arith}
use Rattle.input_journal.proofs.Views.{sum_more}
use Rattle.input_journal.proofs.journal.Journal.bytes.Goals as goal

pub loop-index-preserved : goal.loop-index-preserved
loop-index-preserved c =
    let inside : c.loop-index.index < length c.args.self.now = omega (arith, c.loop-index-test.true, c.count-index-end.ensures.value) in
    let more = sum_more c.args.self.now c.loop-index.index c.item.result.now inside c.item.ensures.value in
    let so_far = c.loop-index.invariant.sum in
    let few = c.loop-index.invariant.few in
    let short = c.item.ensures.short in
    record {
      sum = omega (arith, more, so_far);
      few = omega (arith, few, short);
    }
