use Rattle.std.proofs.Common.{◌∙◌, subst}
use Rattle.std.proofs.lemmas.List.{length-map}
use Rattle.cost_tables.specs.TableRows.{value_of}
use Rattle.disk_gen.specs.DiskShapes.{AreDiskShaped}
use Rattle.disk_gen.proofs.disk_tables.DiskTables.is_shaped.Goals as goal

pub returns : goal.returns
returns c =
    let t = c.self.inside in
    subst AreDiskShaped c.self.view_is (record {
      fast = c.is_shaped.ensures;
      fresh_long = length-map t.disk_fresh.items value_of ∙ c.self.invariant.fresh_count;
      held_long = length-map t.disk_held.items value_of ∙ c.self.invariant.held_count;
    })
