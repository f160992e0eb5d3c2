use Rattle.std.proofs.Common.{◌<◌, take, sym, ap, ◌∙◌, arith, ℕ}
use Rattle.action_text.specs.Bytes.{run_length}
use Rattle.action_text.specs.Parser.{not_action}
use Rattle.action_text.proofs.NextToken.{at_token, column_there, word_there, no_word_there}
use Rattle.action_text.proofs.cursor.Cursor.word.Goals as goal

pub column_of-column-requires : goal.column_of-column-requires
column_of-column-requires c =
    let at = at_token c.self.inside.start c.self.inside.rest.now c.after_blanks-rest.result.now c.args.self.now c.self.invariant.0 c.after_blanks-rest.ensures.value c.self.view_is in
    (at.within, c.self.invariant.1)

pub returns-then-length-eq0-clause-fault : goal.returns-then-length-eq0-clause-fault
returns-then-length-eq0-clause-fault c =
    let w = c.after_blanks-rest.result.now in
    let at = at_token c.self.inside.start c.self.inside.rest.now w c.args.self.now c.self.invariant.0 c.after_blanks-rest.ensures.value c.self.view_is in (
      no_word_there c.self.inside.start w c.args.self.now at (sym c.length_of_run-length.ensures.value ∙ c.if-length-eq0.true),
      ap not_action (c.column_of-column.ensures ∙ sym (column_there c.self.inside.start w c.args.self.now at)),
    )

pub returns-clause-word : goal.returns-clause-word
returns-clause-word c =
    let w = c.after_blanks-rest.result.now in
    let n = c.length_of_run-length.ensures.value in
    let at = at_token c.self.inside.start c.self.inside.rest.now w c.args.self.now c.self.invariant.0 c.after_blanks-rest.ensures.value c.self.view_is in
    let some : 0 < run_length w = omega (arith, n, c.if-length-eq0.false) in
    let there = word_there c.self.inside.start w c.args.self.now at some in (
      there.2,
      c.split_at.ensures.front ∙ ap (λ (k : ℕ). take k w) n ∙ sym there.0,
      c.column_of-column.ensures ∙ sym (column_there c.self.inside.start w c.args.self.now at),
    )
