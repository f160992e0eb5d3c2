use Rattle.std.proofs.Common.{List, All, ◌-◌, subst}
use Rattle.cost_tables.specs.declared.cost.Cost.{Cost}
use Rattle.cost_tables.specs.TableRows.{value_of}
use Rattle.cost_tables.specs.Shapes.{IsShort}
use Rattle.cost_tables.proofs.ShortEntries.{row_short}
use Rattle.disk_gen.specs.DiskShapes.{AreDiskShort}
use Rattle.disk_gen.proofs.disk_tables.DiskTables.is_short.Goals as goal

pub returns : goal.returns
returns c =
    let t = c.self.inside in
    let Short : List Cost → Type 0 = λ costs. All (λ cost. IsShort (value_of cost)) costs in
    subst AreDiskShort c.self.view_is (record {
      fast = c.is_short.ensures;
      fresh = λ l one le. row_short t.disk_fresh.items (subst Short c.deref.ensures.value c.are_short.ensures) (l - 1);
      held = λ l one le. row_short t.disk_held.items (subst Short c.deref-2.ensures.value c.are_short-2.ensures) (l - 1);
    })
