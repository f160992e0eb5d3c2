use Rattle.std.proofs.Common.{false, sym, ap, ◌∙◌, arith}
use Rattle.level_book.specs.BookCosts.{names_of}
use Rattle.action_text.specs.CursorState.{Rest}
use Rattle.action_text.specs.Parser.{line_of}
use Rattle.action_text.proofs.CanonicalSpelling.{line_written, action_within}
use Rattle.action_text.proofs.cursor.Cursor.take_canonical.Goals as goal

pub invariant_of-self : goal.invariant_of-self
invariant_of-self c =
    (omega (arith, action_within (names_of c.args.book.now) c.self.inside.rest.now c.in_ok-action.behind.now c.in_ok-action.action c.in_ok-action.ensures, c.self.invariant.0), c.self.invariant.1)

pub returns : goal.returns
returns c =
    let written = line_written (names_of c.args.book.now) c.self.inside.start c.self.inside.rest.now c.in_ok-action.behind.now c.in_ok-action.action c.has_names.ensures c.if-self.false c.in_ok-action.ensures (sym c.ends_line.ensures ∙ c.if-not-ends_line.false) in
    (ap (line_of (names_of c.args.book.now) false) (sym c.self.view_is) ∙ written.0, written.1 ∙ ap (λ (r : Rest). r.later) c.self.view_is)
