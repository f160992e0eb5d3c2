use Rattle.std.proofs.Common.{refl, arith}
use Rattle.action_text.proofs.NextToken.{at_token}
use Rattle.action_text.proofs.FirstRun.{this_word_there, other_word_there, word_within}
use Rattle.action_text.proofs.cursor.Cursor.take.Goals as goal

pub invariant_of-self : goal.invariant_of-self
invariant_of-self c =
    let w = c.after_blanks.result.now in
    let at = at_token c.self.inside.start c.self.inside.rest.now w c.args.self.now c.self.invariant.0 c.after_blanks.ensures.value c.self.view_is in
    (omega (arith, word_within w c.args.word.now c.in-Some.behind.now c.in-Some.ensures, at.within), c.self.invariant.1)

pub returns-in-Some : goal.returns-in-Some
returns-in-Some c =
    let w = c.after_blanks.result.now in
    let at = at_token c.self.inside.start c.self.inside.rest.now w c.args.self.now c.self.invariant.0 c.after_blanks.ensures.value c.self.view_is in
    this_word_there c.self.inside.start w c.args.self.now c.args.word.now c.in-Some.behind.now at c.requires c.in-Some.ensures

pub returns-in-None : goal.returns-in-None
returns-in-None c =
    let w = c.after_blanks.result.now in
    let at = at_token c.self.inside.start c.self.inside.rest.now w c.args.self.now c.self.invariant.0 c.after_blanks.ensures.value c.self.view_is in
    (other_word_there c.self.inside.start w c.args.self.now c.args.word.now at c.requires c.in-None.ensures, refl)
