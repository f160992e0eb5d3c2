use Rattle.serde_json.specs.View.{view}
use Rattle.level_book.proofs.TextRefusals.{refused_by}
use Rattle.level_book.proofs.reading.read_book.Goals as goal

pub returns-in-Ok-clause-refused : goal.returns-in-Ok-clause-refused
returns-in-Ok-clause-refused c =
    refused_by c.book_of.result c.args.bytes.now (view c.in-Ok.value) (record { utf8 = c.in-Ok.ensures.ok.0; read = c.in-Ok.ensures.ok.1 }) c.book_of.ensures
