use Rattle.std.proofs.Common.{◌*◌}
use Rattle.std.proofs.lemmas.Bool.{false≢true}
use Rattle.cost_tables.specs.TableRows.{value_of}
use Rattle.table_clauses.specs.Splits.{at_step}
use Rattle.table_clauses.proofs.BelowSplits.{within_sum}
use Rattle.table_clauses.proofs.splits.breaks_split.Goals as goal

pub returns-then-is_within : goal.returns-then-is_within
returns-then-is_within c =
    let low = c.is_within.ensures.0 c.if-is_within.true in (
      λ e. absurd (false≢true e),
      λ fails.
          let j = fails.0 in let i = fails.1 in
          absurd (fails.5 (within_sum (value_of c.args.own) (at_step c.args.splits.now.fresh.now i) (at_step c.args.splits.now.held.now j) c.args.splits.now.first c.args.least (j * c.args.splits.now.forward) low (c.requires.below j i fails.2 fails.3 fails.4))),
    )
