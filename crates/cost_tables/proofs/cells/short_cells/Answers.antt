use Rattle.std.proofs.Common.{arith, subst, All, List}
use Rattle.std.proofs.lemmas.List.{take_all}
use Rattle.std.proofs.lemmas.List.Elements.{All-more}
use Rattle.cost_tables.specs.declared.cost.Cost.{Cost}
use Rattle.cost_tables.specs.declared.cells.Cells.{Cells}
use Rattle.cost_tables.specs.TableRows.{value_of}
use Rattle.cost_tables.specs.Shapes.{IsShort}
use Rattle.cost_tables.specs.TableInvariant.{AreShortCells}
use Rattle.cost_tables.proofs.cells.short_cells.Goals as goal

pub loop-cells-preserved : goal.loop-cells-preserved
loop-cells-preserved c =
    let cells = c.cells-item.result in
    let Short : List Cost → Type 0 = λ costs. All (λ cost. IsShort (value_of cost)) costs in
    let short : AreShortCells cells = record {
      fresh = subst Short c.deref.ensures.value c.are_short.ensures;
      held = subst Short c.deref-in-loop-cells.ensures.value c.are_short-in-loop-cells.ensures;
    } in
    All-more AreShortCells c.args.rows.now c.loop-cells.cells-index cells (omega arith) c.loop-cells.invariant (subst AreShortCells c.cells-item.is short)

pub returns : goal.returns
returns c = subst (λ (xs : List Cells). All AreShortCells xs) (take_all c.loop-cells.cells-index c.args.rows.now (omega arith)) c.loop-cells.invariant
