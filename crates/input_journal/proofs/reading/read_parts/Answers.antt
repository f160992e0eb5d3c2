use Rattle.std.proofs.Common.{ℕ, List, arith}
use Rattle.std.specs.Global.{Vec}
use Rattle.input_journal.specs.Parts.{items_in}
use Rattle.input_journal.specs.declared.journal.Part.{Part}
use Rattle.input_journal.proofs.JournalUniqueness.{found, only, refused, first}
use Rattle.input_journal.proofs.reading.read_parts.Goals as goal

abbrev view : List ℕ → Vec Part → List (List ℕ)
view bytes parts = items_in bytes parts.items

pub returns-clause-found : goal.returns-clause-found
returns-clause-found c = found c.args.bytes.now (view c.args.bytes.now) c.find_parts.result (λ i. omega (arith, c.type_inv.bytes i)) c.find_parts.ensures.value

pub returns-clause-only : goal.returns-clause-only
returns-clause-only c = only c.args.bytes.now (view c.args.bytes.now) c.find_parts.result c.find_parts.ensures.value

pub returns-clause-refused : goal.returns-clause-refused
returns-clause-refused c = refused c.args.bytes.now (view c.args.bytes.now) c.find_parts.result (λ i. omega (arith, c.type_inv.bytes i)) c.find_parts.ensures.value

pub returns-clause-first : goal.returns-clause-first
returns-clause-first c = first c.args.bytes.now (view c.args.bytes.now) c.find_parts.result c.find_parts.ensures.value
