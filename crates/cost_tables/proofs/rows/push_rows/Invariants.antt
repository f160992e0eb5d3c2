use Rattle.cost_tables.specs.Rows.{AreRows, IsMore}
use Rattle.cost_tables.proofs.rows.push_rows.Given as goal

abbrev pub invariant-loop-q : goal.invariant-loop-q
invariant-loop-q l = record {
  more : IsMore l.fn.rows.items l.rows.items l.q;
  rows : AreRows l.room l.costs.forward l.costs.write l.costs.read l.base l.rows.items;
}
