use Rattle.std.proofs.Common.{◌≡◌, ℕ, suc, ◌<◌, slice_index, arith, subst}
use Rattle.level_book.specs.BookCosts.{room}
use Rattle.table_clauses.specs.declared.entry.Entry.{Entry as Place}
use Rattle.table_clauses.specs.ClauseFailures.{IsFirst}
use Rattle.table_clauses.specs.Columns.{InHeldColumn}
use Rattle.cost_tables.specs.TableRows.{tables_in}
use Rattle.table_clauses.proofs.Meanings.{held_found, held_more, held_within}
use Rattle.table_clauses.proofs.nested.held_level.Goals as goal

pub returns-in-Some : goal.returns-in-Some
returns-in-Some c =
    let rows = c.args.level.now.tables.now in let book = c.args.level.now.book.now in let k = c.args.level.now.k in let m = c.loop-m.m in
    let rooms : (j : ℕ) → suc j ≡ k → slice_index rows.rooms j ≡ room book j rows.steps = λ j e. c.requires.rooms j (omega arith) in
    let free : m < room book k rows.steps = omega (arith, c.requires.rooms k (omega arith)) in
    let P : ℕ → Type 0 = λ steps. IsFirst (InHeldColumn c.of-costs.result c.in_ok-columns.columns k m steps) c.in-Some.entry in
    held_found rows book k c.of-costs.result c.of-costs.ensures rooms m c.in_ok-columns.columns c.in_ok-columns.ensures c.requires.known free c.in-Some.entry c.loop-m.invariant
    (subst P c.steps.ensures c.in-Some.ensures)

pub loop-m-preserved : goal.loop-m-preserved
loop-m-preserved c =
    let rows = c.args.level.now.tables.now in let book = c.args.level.now.book.now in let k = c.args.level.now.k in let m = c.loop-m.m in
    let rooms : (j : ℕ) → suc j ≡ k → slice_index rows.rooms j ≡ room book j rows.steps = λ j e. c.requires.rooms j (omega arith) in
    let P : ℕ → Type 0 = λ steps. (q : Place) → InHeldColumn c.of-costs.result c.in_ok-columns.columns k m steps q → ⊥ in
    held_more rows book k c.of-costs.result c.of-costs.ensures rooms m c.in_ok-columns.columns c.in_ok-columns.ensures c.loop-m.invariant (subst P c.steps.ensures c.in_default.ensures)

pub returns : goal.returns
returns c = λ p broken.
    let rows = c.args.level.now.tables.now in let book = c.args.level.now.book.now in let k = c.args.level.now.k in
    let within = held_within rows.steps book (tables_in rows) k p broken in
    c.loop-m.invariant p broken.0 broken.1 (omega (arith, within, c.requires.rooms k (omega arith))) broken.2
