use Rattle.std.proofs.Common.{Bool, sym, subst}
use Rattle.table_clauses.specs.Columns.{IsFirstClause}
use Rattle.table_clauses.specs.DiskColumns.{DiskColumnFails}
use Rattle.table_clauses.proofs.disk.DiskColumnColumn.first_clause.Goals as goal

pub returns-then-self : goal.returns-then-self
returns-then-self c =
    let P : Bool → Type 0 = λ is_held. IsFirstClause (DiskColumnFails is_held c.args.self.now.costs c.args.self.now.columns.now c.args.l) c.disk_held_clause.result in
    subst P (sym c.if-self.true) c.disk_held_clause.ensures

pub returns : goal.returns
returns c =
    let P : Bool → Type 0 = λ is_held. IsFirstClause (DiskColumnFails is_held c.args.self.now.costs c.args.self.now.columns.now c.args.l) c.disk_fresh_clause.result in
    subst P (sym c.if-self.false) c.disk_fresh_clause.ensures
