use Rattle.std.proofs.Common.{◌≢◌, ℕ, ◌<◌, ◌≤◌}
use Rattle.cost_tables.specs.TableRows.{tables_in, value_of}
use Rattle.hrevolve_gen.specs.ReadableTables.{split_cost}
use Rattle.hrevolve_gen.proofs.entries.split.Given as goal

abbrev pub invariant-loop-j : goal.invariant-loop-j
invariant-loop-j l = (i : ℕ) → 1 ≤ i → i < l.j → value_of l.own ≢ split_cost (tables_in l.tables) l.n l.forward l.k l.l l.m i
