use Rattle.std.proofs.Common.{◌+◌, arith, refl}
use Rattle.table_clauses.proofs.Places.{entry_next, entry_more}
use Rattle.table_clauses.proofs.search.first_in_column.Goals as goal

pub first_clause-requires-clause-reaches : goal.first_clause-requires-clause-reaches
first_clause-requires-clause-reaches g c = g.met.C.Column.shorter c.args.column.now (c.loop-r.r + 1) c.args.steps (omega arith) c.requires

pub returns-in-Some : goal.returns-in-Some
returns-in-Some g c =
    entry_next c.args.table c.args.level c.args.free c.args.steps (c.loop-r.r + 1) c.in-Some.clause (g.C.Column.fails c.args.column.now) (omega arith) (omega arith) c.loop-r.invariant
    c.in-Some.ensures.0 c.in-Some.ensures.1 _ refl refl refl refl refl

pub loop-r-preserved : goal.loop-r-preserved
loop-r-preserved g c =
    entry_more c.args.table c.args.level c.args.free c.args.steps (c.loop-r.r + 1) (g.C.Column.fails c.args.column.now) c.loop-r.invariant c.in_default.ensures

pub returns : goal.returns
returns g c = λ p broken. c.loop-r.invariant p broken (omega (arith, broken.within))
