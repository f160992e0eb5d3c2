use Rattle.std.proofs.Common.{refl, sym}
use Rattle.line_texts.proofs.NextToken.{line_next}
use Rattle.line_texts.proofs.lines.Lines.next.Goals as goal

pub returns-clause-value : goal.returns-clause-value
returns-clause-value c =
    line_next c.self.inside.rest.now _ _ _ c.length_before.result _ c.self.inside.is_over c.args.self.now c.self.view_is c.if-self.false (sym c.length_before.ensures.value)
    c.split_at.ensures.front c.split_at.ensures.back refl c.without_first-self-inside.ensures
