use Rattle.line_texts.proofs.NextToken.{mark_taken, mark_other}
use Rattle.std.proofs.Common.{refl}
use Rattle.line_texts.proofs.tokens.Tokens.take_mark.Goals as goal

pub returns-in_default-clause-taken : goal.returns-in_default-clause-taken
returns-in_default-clause-taken g c =
    mark_other g.R.RunBytes.in_run g.met.R.RunBytes.no_blank c.self.inside.column c.args.byte c.self.inside.rest.now c.after_blanks.result.now c.args.self.now c.self.view_is c.after_blanks.ensures.value c.in_default.ensures.value

pub returns-clause-taken : goal.returns-clause-taken
returns-clause-taken g c =
    (mark_taken g.R.RunBytes.in_run g.met.R.RunBytes.no_blank c.self.inside.column _ c.args.byte c.self.inside.rest.now c.after_blanks.result.now c.in-Some.behind.now c.args.self.now c.requires c.self.view_is c.after_blanks.ensures.value c.in-Some.ensures.value refl).0

pub returns-clause-goes : goal.returns-clause-goes
returns-clause-goes g c =
    (mark_taken g.R.RunBytes.in_run g.met.R.RunBytes.no_blank c.self.inside.column _ c.args.byte c.self.inside.rest.now c.after_blanks.result.now c.in-Some.behind.now c.args.self.now c.requires c.self.view_is c.after_blanks.ensures.value c.in-Some.ensures.value refl).1
