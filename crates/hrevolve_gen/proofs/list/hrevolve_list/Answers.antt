use Rattle.std.proofs.Common.{◌≡◌, ℕ, refl, sym, ap, ◌∙◌, subst, true≢false}
use Rattle.level_book.specs.BookCosts.{slots_of}
use Rattle.level_book.specs.CostFold.{cost}
use Rattle.level_book.specs.NestedClass.{Nested}
use Rattle.level_book.specs.UnderTable.{number, never, top_entry}
use Rattle.cost_tables.specs.TableRows.{tables_in}
use Rattle.hrevolve_gen.proofs.NoPlans.{top_none, never_of}
use Rattle.hrevolve_gen.proofs.PartReads.{few_steps, can_read, some_of}
use Rattle.hrevolve_gen.proofs.NestedLists.{written_costs, written_nested}
use Rattle.hrevolve_gen.proofs.list.hrevolve_list.Goals as goal

pub has_list-requires : goal.has_list-requires
has_list-requires c = can_read c.args.steps c.args.book.now c.args.tables.now c.requires.sizes (c.greatest_is_exact.ensures c.args.steps c.args.book.now (tables_in c.args.tables.now) (few_steps c.args.steps c.requires.fits.few) c.is_within_limits.ensures c.requires.greatest) c.requires.fits.few

pub whole_list-requires-clause-ready : goal.whole_list-requires-clause-ready
whole_list-requires-clause-ready c = can_read c.args.steps c.args.book.now c.args.tables.now c.requires.sizes (c.greatest_is_exact.ensures c.args.steps c.args.book.now (tables_in c.args.tables.now) (few_steps c.args.steps c.requires.fits.few) c.is_within_limits.ensures c.requires.greatest) c.requires.fits.few

pub returns-clause-nested : goal.returns-clause-nested
returns-clause-nested c =
    let P : ℕ → Type 0 = λ n. Nested n (slots_of c.args.book.now) c.in_ok-whole_list.field-0.items in
    subst P c.requires.sizes.steps_are (written_nested c.args.tables.now.steps c.args.book.now (tables_in c.args.tables.now) c.in_ok-whole_list.field-0.items c.has_list.ensures.levels c.in_ok-whole_list.ensures)

pub returns-clause-cost : goal.returns-clause-cost
returns-clause-cost c =
    let book = c.args.book.now in let t = tables_in c.args.tables.now in let n = c.args.tables.now.steps in
    let P : ℕ → Type 0 = λ n. top_entry n book t ≡ number (cost c.in_ok-whole_list.field-0.items book) in
    let v = some_of (top_entry n book t) (c.has_list.ensures.answer.0 c.if-not-has_list.false) in
    subst P c.requires.sizes.steps_are (v.1 ∙ ap (λ n. number n) (sym (written_costs n book t c.in_ok-whole_list.field-0.items v.0 c.in_ok-whole_list.ensures v.1)))

pub returns-then-not-has_list-clause-refused : goal.returns-then-not-has_list-clause-refused
returns-then-not-has_list-clause-refused c =
    let book = c.args.book.now in let t = tables_in c.args.tables.now in
    let E : ℕ → Type 0 = λ n. top_entry n book t ≡ never in
    let none = never_of (top_entry c.args.tables.now.steps book t) (λ some. absurd (true≢false (sym (c.has_list.ensures.answer.1 some) ∙ c.if-not-has_list.true))) in
    (refl, top_none c.args.steps book t (c.greatest_is_exact.ensures c.args.steps c.args.book.now (tables_in c.args.tables.now) (few_steps c.args.steps c.requires.fits.few) c.is_within_limits.ensures c.requires.greatest) c.has_list.ensures.levels (subst E c.requires.sizes.steps_are none))
