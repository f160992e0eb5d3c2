use Rattle.std.proofs.Common.{length, map, [], ◌∷◌}
use Rattle.std.specs.Prelude.{decimal}
use Rattle.cert_text.specs.Grammar.{row_wants}
use Rattle.cert_text.specs.ReaderState.{number_of_rule}
use Rattle.cert_text.specs.Rows.{cost_word}
use Rattle.cert_text.proofs.ReaderSteps.{line_done, line_wrong}
use Rattle.cert_text.proofs.rows.read_row.Goals as goal

pub returns-in-Ok : goal.returns-in-Ok
returns-in-Ok c = (
  line_done (row_wants (c.args.letter.now ∷ decimal c.args.k ∷ decimal c.args.m ∷ []) (length c.args.row.now)) (c.args.letter.now ∷ decimal c.args.k ∷ decimal c.args.m ∷ map cost_word c.row_words.new.row)
      c.in_ok-line.line.number c.in_ok-line.line.text.now c.new-words.result c.args.reader.now c.line.new.self
      c.in_ok-line.ensures.0 c.in_ok-line.ensures.1 c.new-words.ensures c.in-Ok.ensures.0 c.in-Ok.ensures.1,
  c.in-Ok.ensures.2,
)

pub returns-in-Err : goal.returns-in-Err
returns-in-Err c = λ more.
    line_wrong (row_wants (c.args.letter.now ∷ decimal c.args.k ∷ decimal c.args.m ∷ []) (length c.args.row.now)) more c.in_ok-line.line.number (number_of_rule c.in-Err.fault.rule) c.in-Err.fault.column c.in_ok-line.line.text.now
    c.new-words.result c.line.new.self.lines c.args.reader.now c.at.result c.in_ok-line.ensures.0 c.new-words.ensures c.in-Err.ensures c.at.ensures
