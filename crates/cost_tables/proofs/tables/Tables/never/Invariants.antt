use Rattle.cost_tables.specs.TableInvariant.{AreNever}
use Rattle.cost_tables.proofs.tables.Tables.never.Given as goal

abbrev pub invariant-loop-k : goal.invariant-loop-k
invariant-loop-k l = AreNever l.steps l.book l.k l.levels.items l.rooms.items
