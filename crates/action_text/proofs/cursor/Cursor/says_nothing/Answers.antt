use Rattle.std.proofs.Common.{◌∙◌}
use Rattle.action_text.proofs.NextToken.{at_token, nothing_there}
use Rattle.action_text.proofs.cursor.Cursor.says_nothing.Goals as goal

pub invariant_of-self : goal.invariant_of-self
invariant_of-self c =
    let at = at_token c.self.inside.start c.self.inside.rest.now c.after_blanks-self-inside.result.now c.args.self.now c.self.invariant.0 c.after_blanks-self-inside.ensures.value c.self.view_is in
    (at.within, c.self.invariant.1)

pub returns-clause-value : goal.returns-clause-value
returns-clause-value c =
    let at = at_token c.self.inside.start c.self.inside.rest.now c.after_blanks-self-inside.result.now c.args.self.now c.self.invariant.0 c.after_blanks-self-inside.ensures.value c.self.view_is in
    c.begins_nothing.ensures ∙ nothing_there c.self.inside.start c.after_blanks-self-inside.result.now c.args.self.now at

pub returns-clause-stays : goal.returns-clause-stays
returns-clause-stays c =
    (at_token c.self.inside.start c.self.inside.rest.now c.after_blanks-self-inside.result.now c.args.self.now c.self.invariant.0 c.after_blanks-self-inside.ensures.value c.self.view_is).sees
