use Rattle.std.proofs.Common.{sym, ◌∙◌, arith, ◌+◌}
use Rattle.std.proofs.lemmas.Bool.{eqb-true}
use Rattle.line_texts.specs.Lines.{lines}
use Rattle.cert_text.proofs.LineLemmas.{none_left, marked_first, marked_later, behind_mark_within, no_line_counted}
use Rattle.cert_text.proofs.lines.next_marked.Goals as goal

pub returns-then-is_marked : goal.returns-then-is_marked
returns-then-is_marked c = (
  sym c.loop-rest.invariant.none_yet
      ∙ c.split_line.ensures.lines (c.loop-rest.passed + 1)
      ∙ marked_first (c.loop-rest.passed + 1) c.split_line.result.0.now (lines c.split_line.result.1.now) (sym c.is_marked.ensures ∙ c.if-is_marked.true),
  omega (arith, c.split_line.ensures.count, c.loop-rest.invariant.counted),
  omega (arith, behind_mark_within c.split_line.result.0.now),
  omega arith,
)

pub loop-rest-preserved : goal.loop-rest-preserved
loop-rest-preserved c = record {
  none_yet =
      sym (marked_later (c.loop-rest.passed + 1) c.split_line.result.0.now (lines c.split_line.result.1.now) (sym c.is_marked.ensures ∙ c.if-is_marked.false))
      ∙ sym (c.split_line.ensures.lines (c.loop-rest.passed + 1))
      ∙ c.loop-rest.invariant.none_yet;
  counted = omega (arith, c.split_line.ensures.count, c.loop-rest.invariant.counted);
  few = omega arith;
  within = omega arith;
}

pub returns : goal.returns
returns c =
    let empty = eqb-true _ _ (sym c.is_empty.ensures ∙ c.loop-rest-test.false) in (
      sym c.loop-rest.invariant.none_yet ∙ none_left (c.loop-rest.passed + 1) c.loop-rest.rest.now empty,
      omega (arith, c.loop-rest.invariant.counted, no_line_counted c.loop-rest.rest.now empty),
      omega arith,
    )
