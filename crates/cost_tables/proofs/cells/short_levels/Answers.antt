use Rattle.std.proofs.Common.{arith, subst, All, List, Vec}
use Rattle.std.specs.declared.alloc.Global.{Global}
use Rattle.std.proofs.lemmas.List.{take_all}
use Rattle.std.proofs.lemmas.List.Elements.{All-more}
use Rattle.cost_tables.specs.declared.cells.Cells.{Cells}
use Rattle.cost_tables.specs.TableInvariant.{AreShortCells}
use Rattle.cost_tables.proofs.cells.short_levels.Goals as goal

pub loop-rows-preserved : goal.loop-rows-preserved
loop-rows-preserved c =
    let level = c.rows-item.result in
    let short : All AreShortCells level.items = subst (λ (rows : List Cells). All AreShortCells rows) c.deref.ensures.value c.short_cells.ensures in
    All-more (λ (level : Vec Cells Global). All AreShortCells level.items) c.args.levels.now c.loop-rows.rows-index level (omega arith) c.loop-rows.invariant
    (subst (λ (level : Vec Cells Global). All AreShortCells level.items) c.rows-item.is short)

pub returns : goal.returns
returns c = subst (λ (xs : List (Vec Cells Global)). All (λ (level : Vec Cells Global). All AreShortCells level.items) xs) (take_all c.loop-rows.rows-index c.args.levels.now (omega arith)) c.loop-rows.invariant
