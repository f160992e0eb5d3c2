use Rattle.std.proofs.Common.{◌≡◌, [], sym, ◌∙◌, arith}
use Rattle.line_texts.proofs.NextToken.{next_none, next_at}
use Rattle.line_texts.proofs.tokens.Tokens.next.Goals as goal

pub returns-then-length-eq0 : goal.returns-then-length-eq0
returns-then-length-eq0 g c =
    let none = next_none g.R.RunBytes.in_run g.met.R.RunBytes.no_blank c.self.inside.column c.self.inside.rest.now c.after_blanks-rest.result.now c.after_blanks-rest.ensures.value (sym c.token_length-length.ensures.value ∙ c.if-length-eq0.true) in
    let old : c.args.self.now ≡ [] = sym c.self.view_is ∙ none in
    (old, old)

pub returns : goal.returns
returns g c =
    next_at g.R.RunBytes.in_run g.met.R.RunBytes.no_blank c.self.inside.column c.self.inside.rest.now c.after_blanks-rest.result.now _ _ c.token_length-length.result _ _ c.args.self.now c.self.view_is c.after_blanks-rest.ensures.value
    (sym c.token_length-length.ensures.value) c.if-length-eq0.false c.split_at.ensures.front c.split_at.ensures.back (omega arith) (omega arith)
