use Rattle.std.proofs.Common.{[], length, sym, ap, subst, ◌∙◌, arith}
use Rattle.line_texts.specs.declared.fault.Fault.{Fault}
use Rattle.line_texts.specs.Lines.{lines}
use Rattle.reverse_console.specs.ScriptParser.{orders_from, script_of}
use Rattle.line_texts.specs.Parsers.{Fails}
use Rattle.reverse_console.proofs.ScriptWhole.{step_ok, step_err, step_end, one_more_order}
use Rattle.line_texts.proofs.NextToken.{lines_few}
use Rattle.reverse_console.proofs.reading.read_lines.Goals as goal

pub overflow_add-number : goal.overflow_add-number
overflow_add-number c = omega (arith, ap length c.in-Some.ensures.value, c.lines.invariant.number, lines_few c.args.bytes.now, c.requires)

pub returns-in-Err-clause-read : goal.returns-in-Err-clause-read
unfolding script_of
returns-in-Err-clause-read c =
    subst (λ (e : Fault). Fails e (orders_from c.args.count [] 1 (lines c.args.bytes.now))) (sym c.at.ensures)
    (sym c.lines.invariant.read ∙ step_err c.args.count c.lines.orders.items c.lines.number c.in-Some.text.now c.next.new.self c.lines.lines c.in-Err.fault c.in-Some.ensures.value c.in-Err.ensures)

pub lines-preserved : goal.lines-preserved
lines-preserved c = record {
  read = step_ok c.args.count c.lines.orders.items c.push_found.new.list.items c.lines.number c.in-Some.text.now c.next.new.self c.lines.lines c.in-Ok.found c.in-Some.ensures.value c.in-Ok.ensures c.in_ok-push_found.ensures.added
      ∙ c.lines.invariant.read;
  number = omega (arith, ap length c.in-Some.ensures.value, c.lines.invariant.number);
  few = omega (arith, ap length c.in_ok-push_found.ensures.added, one_more_order c.lines.orders.items c.in-Ok.found, c.lines.invariant.few);
}

pub returns-clause-read : goal.returns-clause-read
unfolding script_of
returns-clause-read c = sym c.lines.invariant.read ∙ step_end c.args.count c.lines.orders.items c.lines.number c.lines.lines c.in_default.ensures.value.0

pub returns-clause-few : goal.returns-clause-few
returns-clause-few c = omega (arith, c.lines.invariant.few, c.lines.invariant.number, lines_few c.args.bytes.now, c.requires)
