use Rattle.std.proofs.Common.{ap, length, ◌∙◌, arith}
use Rattle.rv_asm.specs.Tokens.{tokens}
use Rattle.rv_asm.specs.LabelMap.{names_at}
use Rattle.rv_asm.proofs.FirstPass.{start_labels, end_labels, label_step, line_labels}
use Rattle.rv_asm.proofs.Passes.{at_most_one}
use Rattle.line_texts.proofs.NextToken.{lines_few}
use Rattle.rv_asm.proofs.assembling.labels_of.Goals as goal

pub lines-init : goal.lines-init
lines-init c = record {
  found = λ name. start_labels c.args.text.now c.new-lines.result (names_at c.new-labels.result.by_name name) name (c.new-labels.ensures name) c.new-lines.ensures;
  number = omega (arith, ap length c.new-lines.ensures);
  place = omega arith;
}

pub overflow_add-number : goal.overflow_add-number
overflow_add-number c = omega (arith, ap length c.in-Some.ensures.value, c.lines.invariant.number, lines_few c.args.text.now, c.requires)

pub overflow_add-place : goal.overflow_add-place
overflow_add-place c = omega (arith, c.in_ok-words.ensures.words, at_most_one (tokens 1 c.in-Some.bytes.now), ap length c.in-Some.ensures.value, c.lines.invariant.place, c.lines.invariant.number, lines_few c.args.text.now, c.requires)

pub lines-preserved : goal.lines-preserved
lines-preserved c = record {
  found = λ name.
      label_step c.lines.number c.lines.place c.in_ok-words.words c.in-Some.bytes.now c.next.new.self (names_at c.lines.labels.by_name name) (names_at c.add_label.new.labels.by_name name) name c.in_ok-words.ensures.words (c.in_ok-words.ensures.added name)
      ∙ line_labels c.lines.number c.lines.place c.in-Some.bytes.now c.next.new.self c.lines.lines (names_at c.lines.labels.by_name name) name c.in-Some.ensures.value
      ∙ c.lines.invariant.found name;
  number = omega (arith, ap length c.in-Some.ensures.value, c.lines.invariant.number);
  place = omega (arith, c.in_ok-words.ensures.words, at_most_one (tokens 1 c.in-Some.bytes.now), c.lines.invariant.place);
}

pub returns-clause-value : goal.returns-clause-value
returns-clause-value c = λ name.
    end_labels c.lines.number c.lines.place c.lines.lines (names_at c.lines.labels.by_name name) name c.in_default.ensures.value.0 ∙ c.lines.invariant.found name
