use Rattle.std.proofs.Common.{sym, ◌∙◌}
use Rattle.action_text.proofs.NextToken.{at_token, column_there}
use Rattle.action_text.proofs.cursor.Cursor.column.Goals as goal

pub column_of-requires : goal.column_of-requires
column_of-requires c =
    let at = at_token c.self.inside.start c.self.inside.rest.now c.after_blanks.result.now c.args.self.now c.self.invariant.0 c.after_blanks.ensures.value c.self.view_is in
    (at.within, c.self.invariant.1)

pub returns : goal.returns
returns c =
    let w = c.after_blanks.result.now in
    let at = at_token c.self.inside.start c.self.inside.rest.now w c.args.self.now c.self.invariant.0 c.after_blanks.ensures.value c.self.view_is in
    c.column_of.ensures ∙ sym (column_there c.self.inside.start w c.args.self.now at)
