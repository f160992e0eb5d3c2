use Rattle.std.proofs.Common.{[], ◌∷◌}
use Rattle.std.specs.Prelude.{codes}
use Rattle.cert_text.specs.Grammar.{this_word}
use Rattle.cert_text.specs.ReaderState.{number_of_rule}
use Rattle.cert_text.proofs.ReaderSteps.{line_done, line_wrong, behind_line}
use Rattle.cert_text.proofs.EntryLines.{says_word}
use Rattle.cert_text.proofs.nested.read_end.Goals as goal

pub returns-in-Ok : goal.returns-in-Ok
returns-in-Ok c =
    behind_line c.finish.result (this_word (codes "end") ∷ []) (codes "end" ∷ []) c.args.reader.now c.line.new.self
    (line_done (this_word (codes "end") ∷ []) (codes "end" ∷ []) c.in_ok-line.line.number c.in_ok-line.line.text.now c.new-words.result c.args.reader.now c.line.new.self
    c.in_ok-line.ensures.0 c.in_ok-line.ensures.1 c.new-words.ensures c.in-Ok.ensures (says_word (codes "end") c.new-words.result.words c.in-Ok.ensures)) c.finish.ensures

pub returns-in-Err : goal.returns-in-Err
returns-in-Err c =
    line_wrong (this_word (codes "end") ∷ []) [] c.in_ok-line.line.number (number_of_rule c.in-Err.fault.rule) c.in-Err.fault.column c.in_ok-line.line.text.now c.new-words.result c.line.new.self.lines c.args.reader.now c.at.result
    c.in_ok-line.ensures.0 c.new-words.ensures c.in-Err.ensures c.at.ensures
