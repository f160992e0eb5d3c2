use Rattle.std.proofs.Common.{◌+◌, arith}
use Rattle.table_clauses.proofs.OneMore.{column_pushed}
use Rattle.table_clauses.proofs.column.column_of.Goals as goal

pub loop-r-preserved : goal.loop-r-preserved
loop-r-preserved g c = λ entries have.
    column_pushed c.loop-r.r entries c.loop-r.column.items c.push.new.self.items c.cost.result (c.loop-r.invariant entries have) c.in_ok-push.ensures.items (have (c.loop-r.r + 1) c.cost.result (omega arith) (omega arith) c.cost.ensures)
