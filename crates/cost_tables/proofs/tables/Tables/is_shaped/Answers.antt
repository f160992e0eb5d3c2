use Rattle.std.proofs.Common.{subst}
use Rattle.cost_tables.specs.Shapes.{AreShaped}
use Rattle.cost_tables.proofs.WholeRows.{shaped}
use Rattle.cost_tables.proofs.tables.Tables.is_shaped.Goals as goal

pub returns : goal.returns
returns c = subst AreShaped c.self.view_is (shaped c.self.inside c.self.invariant)
