use Rattle.std.proofs.Common.{sym, ◌∙◌}
use Rattle.action_text.proofs.NextToken.{at_token, column_there, end_there, end_is, end_isnt}
use Rattle.action_text.proofs.cursor.Cursor.end.Goals as goal
use Rattle.action_text.proofs.cursor.Cursor.end.Goals.{then-ends_line, else-ends_line}

pub column_of-requires : goal.column_of-requires
column_of-requires c =
    let at = at_token c.self.inside.start c.self.inside.rest.now c.after_blanks-self-inside.result.now c.args.self.now c.self.invariant.0 c.after_blanks-self-inside.ensures.value c.self.view_is in
    (at.within, c.self.invariant.1)

pub invariant_of-self : goal.invariant_of-self
invariant_of-self c =
    let at = at_token c.self.inside.start c.self.inside.rest.now c.after_blanks-self-inside.result.now c.args.self.now c.self.invariant.0 c.after_blanks-self-inside.ensures.value c.self.view_is in
    (at.within, c.self.invariant.1)

pub returns-clause-value : goal.returns-clause-value
returns-clause-value c =
    let old = c.args.self.now in
    let w = c.after_blanks-self-inside.result.now in
    let at = at_token c.self.inside.start c.self.inside.rest.now w old c.self.invariant.0 c.after_blanks-self-inside.ensures.value c.self.view_is in
    let is = sym (c.ends_line.ensures ∙ end_there c.self.inside.start w old at) in
    elim c.if-ends_line.branch [
      | then-ends_line b ↦ rw b.result-is (end_is old (is ∙ b.if-ends_line.true))
      | else-ends_line b ↦ rw b.result-is (end_isnt old b.column_of.result (is ∙ b.if-ends_line.false) (b.column_of.ensures ∙ sym (column_there c.self.inside.start w old at)))
    ]

pub returns-clause-stays : goal.returns-clause-stays
returns-clause-stays c =
    (at_token c.self.inside.start c.self.inside.rest.now c.after_blanks-self-inside.result.now c.args.self.now c.self.invariant.0 c.after_blanks-self-inside.ensures.value c.self.view_is).sees
