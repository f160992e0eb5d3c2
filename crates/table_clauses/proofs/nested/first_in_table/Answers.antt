use Rattle.std.proofs.Common.{Option, arith, subst}
use Rattle.cost_tables.specs.TableRows.{tables_in}
use Rattle.table_clauses.specs.declared.entry.Entry.{Entry as Place}
use Rattle.table_clauses.specs.ClauseFailures.{Breaks}
use Rattle.table_clauses.specs.Columns.{Finds, InLevel, table_number}
use Rattle.table_clauses.proofs.Places.{level_next, level_more}
use Rattle.table_clauses.proofs.nested.first_in_table.Goals as goal

pub returns-in-Some : goal.returns-in-Some
returns-in-Some c =
    let B : Place → Type 0 = Breaks c.args.tables.now.steps c.args.book.now (tables_in c.args.tables.now) in
    let P : Option Place → Type 0 = Finds (InLevel (table_number c.args.is_held) c.loop-k.k B) in
    level_next B (table_number c.args.is_held) c.loop-k.k c.in-Some.entry c.loop-k.invariant (subst P c.in-Some.is c.in_ok-entry.ensures)

pub loop-k-preserved : goal.loop-k-preserved
loop-k-preserved c =
    let B : Place → Type 0 = Breaks c.args.tables.now.steps c.args.book.now (tables_in c.args.tables.now) in
    let P : Option Place → Type 0 = Finds (InLevel (table_number c.args.is_held) c.loop-k.k B) in
    level_more B (table_number c.args.is_held) c.loop-k.k c.loop-k.invariant (subst P c.in_default.is c.in_ok-entry.ensures)

pub returns : goal.returns
returns c = λ p broken. c.loop-k.invariant p broken.0 (omega (arith, broken.1.0, c.levels-k-end.ensures.value)) broken.1
