use Rattle.reverse_console.proofs.ScriptWhole.{found, only, refused, first, orders_given}
use Rattle.reverse_console.proofs.reading.read_orders.Goals as goal

pub returns-clause-found : goal.returns-clause-found
returns-clause-found c = found c.args.count c.args.bytes.now c.read_lines.result c.read_lines.ensures.read

pub returns-clause-only : goal.returns-clause-only
returns-clause-only c = only c.args.count c.args.bytes.now c.read_lines.result c.read_lines.ensures.read

pub returns-clause-refused : goal.returns-clause-refused
returns-clause-refused c = refused c.args.count c.args.bytes.now c.read_lines.result c.read_lines.ensures.read

pub returns-clause-first : goal.returns-clause-first
returns-clause-first c = first c.args.count c.args.bytes.now c.read_lines.result c.read_lines.ensures.read

pub returns-clause-orders : goal.returns-clause-orders
returns-clause-orders c = orders_given c.args.count c.args.bytes.now c.read_lines.result c.read_lines.ensures.read
