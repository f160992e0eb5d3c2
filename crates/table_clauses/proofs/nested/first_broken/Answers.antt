use Rattle.std.proofs.Common.{Option, subst}
use Rattle.cost_tables.specs.TableRows.{tables_in}
use Rattle.table_clauses.specs.declared.entry.Entry.{Entry as Place}
use Rattle.table_clauses.specs.ClauseFailures.{Breaks}
use Rattle.table_clauses.specs.Columns.{Finds, InTable}
use Rattle.table_clauses.proofs.NoFailures.{found_fresh, both_found}
use Rattle.table_clauses.proofs.nested.first_broken.Goals as goal

pub returns-in-Some : goal.returns-in-Some
returns-in-Some c =
    let rows = c.args.tables.now in let book = c.args.book.now in
    let P : Option Place → Type 0 = Finds (InTable 0 (Breaks rows.steps book (tables_in rows))) in
    found_fresh rows.steps book (tables_in rows) c.in-Some.entry (subst P c.in-Some.is c.in_ok-entry.ensures)

pub returns : goal.returns
returns c =
    let rows = c.args.tables.now in let book = c.args.book.now in
    let P : Option Place → Type 0 = Finds (InTable 0 (Breaks rows.steps book (tables_in rows))) in
    both_found rows.steps book (tables_in rows) c.first_in_table-2.result (subst P c.in_default.is c.in_ok-entry.ensures) c.first_in_table-2.ensures
