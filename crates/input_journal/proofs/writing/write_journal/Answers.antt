use Rattle.std.proofs.Common.{◌<◌, length, subst, ◌∙◌, ap, arith}
use Rattle.std.specs.List.{All}
use Rattle.std.proofs.lemmas.List.{take_all}
use Rattle.input_journal.specs.Form.{IsShort, beginning}
use Rattle.input_journal.proofs.Views.{all_so_far, written_more, is_written}
use Rattle.input_journal.proofs.writing.write_journal.Goals as goal

pub loop-index-preserved : goal.loop-index-preserved
loop-index-preserved c =
    let inside : c.loop-index.index < length c.args.journal.now = omega (arith, c.loop-index-test.true, c.count-index-end.ensures.value) in
    let item = c.item-item.result.now in
    record {
      written =
          written_more (length c.args.journal.now) c.args.journal.now c.loop-index.index item c.loop-index.bytes.items c.push_number-in-loop-index.new.bytes.items c.extend_from_slice-in-loop-index.new.self.items inside
          c.item-item.ensures.value c.loop-index.invariant.written c.in_ok-push_number-3.ensures c.in_ok-extend_from_slice-2.ensures.items;
      short = all_so_far IsShort c.args.journal.now c.loop-index.index item inside c.item-item.ensures.value c.loop-index.invariant.short c.item-item.ensures.short;
    }

pub returns : goal.returns
returns c =
    let all = take_all c.loop-index.index c.args.journal.now (omega (arith, c.loop-index-test.false, c.count-index-end.ensures.value)) in
    is_written c.args.journal.now c.loop-index.bytes.items (omega (arith, c.count-index-end.ensures.value, c.count-index-end.ensures.few)) (subst (All IsShort) all c.loop-index.invariant.short)
    (c.loop-index.invariant.written ∙ ap (beginning (length c.args.journal.now)) all)
