-- No public clause cites this file. What can be looked at for so many steps can be for fewer.
use Rattle.std.proofs.Common.{ℕ, ◌≤◌, Option, None, Some, IfSome, arith}
use Rattle.cost_tables.specs.declared.costs.Costs.{Costs}
use Rattle.table_clauses.specs.declared.search.FreshColumns.{FreshColumns}
use Rattle.table_clauses.specs.declared.search.HeldColumns.{HeldColumns}
use Rattle.table_clauses.specs.declared.search.Compared.{Compared}
use Rattle.table_clauses.specs.declared.disk.DiskColumns.{DiskColumns}
use Rattle.table_clauses.specs.Columns.{IsFreshReached, IsHeldReached}
use Rattle.table_clauses.specs.DiskColumns.{AreDiskReached}

some_of : {A : Type 0} (P Q : A → Type 0) (o : Option A) → ((a : A) → P a → Q a) → IfSome o P → IfSome o Q
some_of P Q None weaker holds = holds
some_of P Q (Some a) weaker holds = weaker a holds

pub fresh_shorter : (column : Compared FreshColumns) (l steps : ℕ) → l ≤ steps → IsFreshReached column steps → IsFreshReached column l
fresh_shorter column l steps le is = record {
  few = omega (arith, is.few);
  cheap = is.cheap;
  long = record {
    own = omega (arith, is.long.own);
    faster = some_of _ _ column.columns.now.faster (λ own enough. omega (arith, enough)) is.long.faster;
    before = some_of _ _ column.columns.now.before (λ pair enough. (omega (arith, enough.0), omega (arith, enough.1))) is.long.before;
  };
  enough = some_of _ _ column.columns.now.before (λ pair enough. omega (arith, enough)) is.enough;
  below = is.below;
}

pub held_shorter : (column : Compared HeldColumns) (l steps : ℕ) → l ≤ steps → IsHeldReached column steps → IsHeldReached column l
held_shorter column l steps le is = record {
  few = omega (arith, is.few);
  cheap = is.cheap;
  long = record {
    faster = some_of _ _ column.columns.now.faster (λ own enough. omega (arith, enough)) is.long.faster;
    fresh = omega (arith, is.long.fresh);
    held = omega (arith, is.long.held);
  };
  enough = omega (arith, is.enough);
  below = is.below;
}

pub disk_shorter : (costs : Costs) (columns : DiskColumns) (l steps : ℕ) → l ≤ steps → AreDiskReached costs columns steps → AreDiskReached costs columns l
disk_shorter costs columns l steps le is = record {
  few = omega (arith, is.few);
  cheap = is.cheap;
  long = record {
    fast = omega (arith, is.long.fast);
    fresh = omega (arith, is.long.fresh);
    held = omega (arith, is.long.held);
    fresh_splits = omega (arith, is.long.fresh_splits);
    held_splits = omega (arith, is.long.held_splits);
  };
  splits = is.splits;
}
