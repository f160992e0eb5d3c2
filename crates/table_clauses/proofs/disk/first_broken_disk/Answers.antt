use Rattle.std.proofs.Common.{◌≡◌, ℕ, ◌<◌, Option, length, slice_index, arith, ◌∙◌, subst}
use Rattle.std.proofs.lemmas.List.{length-take}
use Rattle.level_book.specs.BookCosts.{room}
use Rattle.cost_tables.specs.TableRows.{TableRows, tables_in, fastest}
use Rattle.cost_tables.proofs.FastestLevel.{same_room}
use Rattle.table_clauses.specs.declared.entry.Entry.{Entry as Place}
use Rattle.table_clauses.specs.ClauseFailures.{Breaks}
use Rattle.table_clauses.specs.Columns.{Finds, InLevel}
use Rattle.table_clauses.specs.DiskColumns.{InDiskColumns}
use Rattle.table_clauses.proofs.DiskMeanings.{fast_fresh_found, fast_held_found, all_found}
use Rattle.table_clauses.proofs.disk.first_broken_disk.Goals as goal

pub returns-in-Some : goal.returns-in-Some
returns-in-Some c =
    let rows = c.args.tables.now in let book = c.args.book.now in
    let V : TableRows → Type 0 = λ v. Finds (InLevel 0 0 (Breaks v.steps book (tables_in v))) c.in_ok-entry.field-0 in
    let P : Option Place → Type 0 = Finds (InLevel 0 0 (Breaks rows.fast.steps book (tables_in rows.fast))) in
    fast_fresh_found rows book (omega (arith, c.levels-levels.ensures.value)) c.in-Some.entry (subst P c.in-Some.is (subst V c.fast-fast.ensures.value c.in_ok-entry.ensures))

pub returns-in-Some-2 : goal.returns-in-Some-2
returns-in-Some-2 c =
    let rows = c.args.tables.now in let book = c.args.book.now in
    let V : TableRows → Type 0 = λ v. Finds (InLevel 0 0 (Breaks v.steps book (tables_in v))) c.in_ok-entry.field-0 in
    let P : Option Place → Type 0 = Finds (InLevel 0 0 (Breaks rows.fast.steps book (tables_in rows.fast))) in
    let W : TableRows → Type 0 = λ v. Finds (InLevel 1 0 (Breaks v.steps book (tables_in v))) c.in_ok-entry-2.field-0 in
    let Q : Option Place → Type 0 = Finds (InLevel 1 0 (Breaks rows.fast.steps book (tables_in rows.fast))) in
    let none = subst P c.in_default.is (subst V c.fast-fast.ensures.value c.in_ok-entry.ensures) in
    fast_held_found rows book (omega (arith, c.levels-levels.ensures.value)) c.in-Some-2.entry none (subst Q c.in-Some-2.is (subst W c.fast-fast.ensures.value c.in_ok-entry-2.ensures))

pub returns : goal.returns
returns c =
    let rows = c.args.tables.now in let book = c.args.book.now in let columns = c.in_ok-columns.columns in let costs = c.disk_costs-costs.result in
    let V : TableRows → Type 0 = λ v. Finds (InLevel 0 0 (Breaks v.steps book (tables_in v))) c.in_ok-entry.field-0 in
    let P : Option Place → Type 0 = Finds (InLevel 0 0 (Breaks rows.fast.steps book (tables_in rows.fast))) in
    let W : TableRows → Type 0 = λ v. Finds (InLevel 1 0 (Breaks v.steps book (tables_in v))) c.in_ok-entry-2.field-0 in
    let Q : Option Place → Type 0 = Finds (InLevel 1 0 (Breaks rows.fast.steps book (tables_in rows.fast))) in
    let no_fresh = subst P c.in_default.is (subst V c.fast-fast.ensures.value c.in_ok-entry.ensures) in
    let no_held = subst Q c.in_default-2.is (subst W c.fast-fast.ensures.value c.in_ok-entry-2.ensures) in
    let some : 0 < length book.levels = omega (arith, c.levels-levels.ensures.value) in
    let known : 0 < length (fastest book).levels = omega (arith, length-take 1 book.levels) in
    let rooms : slice_index rows.fast.rooms 0 ≡ room book 0 rows.fast.steps = c.requires.sizes.rooms_are 0 known ∙ same_room book rows.fast.steps in
    let S : ℕ → Type 0 = λ steps. Finds (InDiskColumns costs columns steps) c.first_over_both.result in
    all_found rows book some rooms costs c.disk_costs-costs.ensures columns c.in_ok-columns.ensures.are no_fresh no_held c.first_over_both.result (subst S c.steps.ensures c.first_over_both.ensures)
