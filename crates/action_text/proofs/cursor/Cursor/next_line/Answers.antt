use Rattle.std.proofs.Common.{sym, arith}
use Rattle.action_text.proofs.NextToken.{behind_line_within, goes_on, goes_nowhere}
use Rattle.action_text.proofs.cursor.Cursor.next_line.Goals as goal

pub invariant_of-self : goal.invariant_of-self
invariant_of-self c =
    let within = behind_line_within c.self.inside.rest.now c.in-Some.rest.now c.in-Some.ensures in
    (omega arith, omega (arith, within, c.self.invariant.0, c.self.invariant.1))

pub returns-in-Some-clause-more : goal.returns-in-Some-clause-more
returns-in-Some-clause-more c = sym (goes_on c.self.inside.start c.self.inside.rest.now c.in-Some.rest.now c.args.self.now c.self.view_is c.in-Some.ensures).0

pub returns-in-Some-clause-goes : goal.returns-in-Some-clause-goes
returns-in-Some-clause-goes c = λ _. (goes_on c.self.inside.start c.self.inside.rest.now c.in-Some.rest.now c.args.self.now c.self.view_is c.in-Some.ensures).1

pub returns-in-None-clause-more : goal.returns-in-None-clause-more
returns-in-None-clause-more c = sym (goes_nowhere c.self.inside.start c.self.inside.rest.now c.args.self.now c.self.view_is c.in-None.ensures)
