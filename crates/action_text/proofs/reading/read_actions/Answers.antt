use Rattle.level_book.specs.BookCosts.{names_of}
use Rattle.action_text.proofs.WholeText.{found, only, refused, first}
use Rattle.action_text.proofs.reading.read_actions.Goals as goal

pub returns-clause-found : goal.returns-clause-found
returns-clause-found c = found (names_of c.args.book.now) c.args.bytes.now c.read_lines.result c.has_names.ensures c.read_lines.ensures

pub returns-clause-only : goal.returns-clause-only
returns-clause-only c = only (names_of c.args.book.now) c.args.bytes.now c.read_lines.result c.has_names.ensures c.read_lines.ensures

pub returns-clause-refused : goal.returns-clause-refused
returns-clause-refused c = refused (names_of c.args.book.now) c.args.bytes.now c.read_lines.result c.has_names.ensures c.read_lines.ensures

pub returns-clause-first : goal.returns-clause-first
returns-clause-first c = first (names_of c.args.book.now) c.args.bytes.now c.read_lines.result c.has_names.ensures c.read_lines.ensures
