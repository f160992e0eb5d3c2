use Rattle.std.proofs.Common.{◌≡◌, ℕ, suc, ◌≤◌, IfSome, length, slice_index, arith, rules, sym, subst}
use Rattle.level_book.specs.BookCosts.{room}
use Rattle.table_clauses.specs.declared.entry.Entry.{Entry as Place}
use Rattle.table_clauses.specs.ClauseFailures.{IsFirst}
use Rattle.table_clauses.specs.Columns.{InFreshColumn}
use Rattle.cost_tables.specs.TableRows.{tables_in}
use Rattle.table_clauses.proofs.Meanings.{fresh_found, fresh_more, fresh_within}
use Rattle.table_clauses.specs.Splits.{at_step, AreBelowSplits}
use Rattle.table_clauses.proofs.BelowSplits.{enough_before, below_before}
use Rattle.table_clauses.proofs.nested.fresh_level.Goals as goal

pub first_in_column-requires : goal.first_in_column-requires
first_in_column-requires c =
    let rows = c.args.level.now.tables.now in let k = c.args.level.now.k in let m = c.loop-m.m in let least = c.splits_before.result.now in let before = c.in_ok-columns.columns.before in
    let splits = c.requires.splits in
    let P : ℕ → Type 0 = λ steps. IfSome before (λ _. steps ≤ length least) in
    let Q : ℕ → Type 0 = λ forward. IfSome before (λ pair. AreBelowSplits forward (at_step pair.fresh.items) (at_step pair.held.items) least) in
    record {
      few = omega (arith, c.requires.few, c.steps.ensures);
      cheap = c.of-costs.ensures.cheap;
      long = search rules;
      enough = subst P (sym c.steps.ensures) (enough_before rows c.args.level.now.book.now.forward k m c.args.level.now.splits.now least splits (omega (arith, splits.count)) c.splits_before.ensures before c.in_ok-columns.ensures.before);
      below = subst Q (sym c.of-costs.ensures.forward) (below_before rows c.args.level.now.book.now.forward k m c.args.level.now.splits.now least splits (omega (arith, splits.count)) c.splits_before.ensures before c.in_ok-columns.ensures.before);
    }

pub returns-in-Some : goal.returns-in-Some
returns-in-Some c =
    let rows = c.args.level.now.tables.now in let book = c.args.level.now.book.now in let k = c.args.level.now.k in let m = c.loop-m.m in
    let rooms : (j : ℕ) → suc j ≡ k → slice_index rows.rooms j ≡ room book j rows.steps = λ j e. c.requires.rooms j (omega arith) in
    let free : m ≤ room book k rows.steps = omega (arith, c.requires.rooms k (omega arith)) in
    let P : ℕ → Type 0 = λ steps. IsFirst (InFreshColumn c.of-costs.result c.in_ok-columns.columns k m steps) c.in-Some.entry in
    fresh_found rows book k c.of-costs.result c.of-costs.ensures rooms m c.in_ok-columns.columns c.in_ok-columns.ensures c.requires.known free c.in-Some.entry c.loop-m.invariant
    (subst P c.steps.ensures c.in-Some.ensures)

pub loop-m-preserved : goal.loop-m-preserved
loop-m-preserved c =
    let rows = c.args.level.now.tables.now in let book = c.args.level.now.book.now in let k = c.args.level.now.k in let m = c.loop-m.m in
    let rooms : (j : ℕ) → suc j ≡ k → slice_index rows.rooms j ≡ room book j rows.steps = λ j e. c.requires.rooms j (omega arith) in
    let P : ℕ → Type 0 = λ steps. (q : Place) → InFreshColumn c.of-costs.result c.in_ok-columns.columns k m steps q → ⊥ in
    fresh_more rows book k c.of-costs.result c.of-costs.ensures rooms m c.in_ok-columns.columns c.in_ok-columns.ensures c.loop-m.invariant (subst P c.steps.ensures c.in_default.ensures)

pub returns-in_default : goal.returns-in_default
returns-in_default c = λ p broken.
    let rows = c.args.level.now.tables.now in let book = c.args.level.now.book.now in let k = c.args.level.now.k in let m = c.loop-m.m in
    let rooms : (j : ℕ) → suc j ≡ k → slice_index rows.rooms j ≡ room book j rows.steps = λ j e. c.requires.rooms j (omega arith) in
    let P : ℕ → Type 0 = λ steps. (q : Place) → InFreshColumn c.of-costs.result c.in_ok-columns.columns k m steps q → ⊥ in
    let within = fresh_within rows.steps book (tables_in rows) k p broken in
    fresh_more rows book k c.of-costs.result c.of-costs.ensures rooms m c.in_ok-columns.columns c.in_ok-columns.ensures c.loop-m.invariant (subst P c.steps.ensures c.in_default.ensures) p broken.0 broken.1
    (omega (arith, within, c.requires.rooms k (omega arith))) broken.2

pub returns : goal.returns
returns c = λ p broken.
    let rows = c.args.level.now.tables.now in let book = c.args.level.now.book.now in let k = c.args.level.now.k in
    let within = fresh_within rows.steps book (tables_in rows) k p broken in
    c.loop-m.invariant p broken.0 broken.1 (omega (arith, within, c.requires.rooms k (omega arith))) broken.2
