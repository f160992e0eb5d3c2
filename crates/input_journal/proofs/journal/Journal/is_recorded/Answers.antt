use Rattle.std.proofs.Common.{◌<◌, length, subst, arith}
use Rattle.std.specs.List.{All}
use Rattle.std.proofs.lemmas.List.{take_all}
use Rattle.input_journal.specs.Form.{IsShort}
use Rattle.input_journal.proofs.Views.{all_so_far}
use Rattle.input_journal.proofs.journal.Journal.is_recorded.Goals as goal

pub loop-index-preserved : goal.loop-index-preserved
loop-index-preserved c =
    let inside : c.loop-index.index < length c.args.self.now = omega (arith, c.loop-index-test.true, c.count-index-end.ensures.value) in
    record {
      short = all_so_far IsShort c.args.self.now c.loop-index.index c.item.result.now inside c.item.ensures.value c.loop-index.invariant.short c.item.ensures.short;
      bytes = all_so_far (λ item. All (λ b. b < 256) item) c.args.self.now c.loop-index.index c.item.result.now inside c.item.ensures.value c.loop-index.invariant.bytes c.are_bytes.ensures;
    }

pub returns : goal.returns
returns c =
    let all = take_all c.loop-index.index c.args.self.now (omega (arith, c.loop-index-test.false, c.count-index-end.ensures.value)) in
    record {
      few = omega (arith, c.count-index-end.ensures.value, c.count-index-end.ensures.few);
      short = subst (All IsShort) all c.loop-index.invariant.short;
      bytes = subst (All (λ item. All (λ b. b < 256) item)) all c.loop-index.invariant.bytes;
    }
