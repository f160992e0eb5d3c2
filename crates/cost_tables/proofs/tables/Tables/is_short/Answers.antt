use Rattle.std.proofs.Common.{List, subst, All, Vec}
use Rattle.std.specs.declared.alloc.Global.{Global}
use Rattle.cost_tables.specs.declared.cells.Cells.{Cells}
use Rattle.cost_tables.specs.Shapes.{AreShort}
use Rattle.cost_tables.specs.TableInvariant.{AreShortCells}
use Rattle.cost_tables.proofs.ShortEntries.{tables_short}
use Rattle.cost_tables.proofs.tables.Tables.is_short.Goals as goal

pub returns : goal.returns
returns c =
    let P : List (Vec Cells Global) → Type 0 = λ levels. All (λ level. All AreShortCells level.items) levels in
    subst AreShort c.self.view_is (tables_short c.self.inside (subst P c.deref.ensures.value c.short_levels.ensures))
