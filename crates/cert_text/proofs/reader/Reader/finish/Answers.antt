use Rattle.cert_text.proofs.TextMeaning.{line_too_many}
use Rattle.cert_text.proofs.reader.Reader.finish.Goals as goal

pub returns-in-Ok : goal.returns-in-Ok
returns-in-Ok c =
    line_too_many c.args.self.now.lines c.line.new.self.lines c.args.self.now.count c.in-Ok.line.number c.first_column-column.result c.in-Ok.line.text.now c.new.result
    c.in-Ok.ensures.0 c.new.ensures c.first_column-column.ensures
