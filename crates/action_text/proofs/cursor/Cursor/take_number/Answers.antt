use Rattle.std.proofs.Common.{◌≡◌, None, refl, sym, ap, ◌∙◌, arith}
use Rattle.action_text.specs.Parser.{alone}
use Rattle.action_text.proofs.NextToken.{at_token}
use Rattle.action_text.proofs.FirstRun.{number_there, no_number_there, number_within}
use Rattle.action_text.proofs.cursor.Cursor.take_number.Goals as goal

pub returns-in_err-n-clause-value : goal.returns-in_err-n-clause-value
returns-in_err-n-clause-value c =
    let w = c.after_blanks.result.now in
    let at = at_token c.self.inside.start c.self.inside.rest.now w c.args.self.now c.self.invariant.0 c.after_blanks.ensures.value c.self.view_is in
    let none : c.from_residual.result ≡ None = c.from_residual.ensures in
    rw none (no_number_there c.self.inside.start w c.args.self.now at (ap alone c.in_err-n.ensures.value), refl)

pub returns-then-starts_run-clause-value : goal.returns-then-starts_run-clause-value
returns-then-starts_run-clause-value c =
    let w = c.after_blanks.result.now in
    let at = at_token c.self.inside.start c.self.inside.rest.now w c.args.self.now c.self.invariant.0 c.after_blanks.ensures.value c.self.view_is in
    let more = sym c.starts_run.ensures ∙ c.if-starts_run.true in
    (no_number_there c.self.inside.start w c.args.self.now at (ap alone c.in_ok-n.ensures.value ∙ rw more refl), refl)

pub invariant_of-self : goal.invariant_of-self
invariant_of-self c =
    let w = c.after_blanks.result.now in
    let at = at_token c.self.inside.start c.self.inside.rest.now w c.args.self.now c.self.invariant.0 c.after_blanks.ensures.value c.self.view_is in
    let within = number_within w c.in_ok-n.n c.in_ok-n.behind.now c.in_ok-n.ensures.value (sym c.starts_run.ensures ∙ c.if-starts_run.false) in
    (omega (arith, within, at.within), c.self.invariant.1)

pub returns-clause-value : goal.returns-clause-value
returns-clause-value c =
    let w = c.after_blanks.result.now in
    let at = at_token c.self.inside.start c.self.inside.rest.now w c.args.self.now c.self.invariant.0 c.after_blanks.ensures.value c.self.view_is in
    number_there c.self.inside.start w c.args.self.now c.in_ok-n.n c.in_ok-n.behind.now at c.in_ok-n.ensures.value (sym c.starts_run.ensures ∙ c.if-starts_run.false)
