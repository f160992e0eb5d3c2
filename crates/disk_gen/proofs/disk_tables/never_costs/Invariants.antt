use Rattle.std.proofs.Common.{◌≡◌, All, length}
use Rattle.cost_tables.specs.declared.cost.Cost.TheVariants.{Never}
use Rattle.disk_gen.proofs.disk_tables.never_costs.Given as goal

abbrev pub invariant-loop : goal.invariant-loop
invariant-loop l = record {
  count : length l.costs.items ≡ l.counter;
  never : All (λ cost. cost ≡ Never) l.costs.items;
}
